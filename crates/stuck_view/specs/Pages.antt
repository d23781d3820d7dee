-- The page of a program: where it is stuck, and who called what is stuck.
use Rattle.std.specs.Prelude.{◌≡◌, ℕ, ◌+◌, ◌-◌, ◌<◌, ◌==◌, ◌^◌, List, [], ◌++◌, length, take, codes}
use Rattle.std.specs.Prelude.{decimal, if◌then◌else◌, Ok, Err}
use Rattle.std.specs.List.{flat_map}
use Rattle.umix_base.specs.declared.place.Place.{Place}
use Rattle.codex_values.specs.Value.{Value}
use Rattle.text_picture.specs.Pictures.{lined, picture_lines}
use Rattle.two_d.specs.Faults.{TextFault}
use Rattle.two_d.specs.Meaning.{Meaning, Gives, Stuck}
use Rattle.two_d.specs.Program.{Drawn, box_place, module_place, program_of}
use Rattle.two_d.specs.Programs.{Program}
use Rattle.two_d.specs.Steps.{HasMeaning}
use Rattle.two_d.specs.Texts.{caller_line, site_line}
use Rattle.two_d.specs.Trails.{Trail}
use Rattle.two_d.specs.declared.trail.Site.{Site}
use Rattle.two_d.specs.declared.trail.Site.TheVariants.{NoSum, NoPair, NoResult, TwoResults}
use Rattle.module_table.specs.Drawn.{drawn_of}
use Rattle.stuck_view.specs.declared.page.Answer.{Answer}
use Rattle.stuck_view.specs.declared.page.Answer.TheVariants.{Value as ValueTold, Stuck as StuckTold}
use Rattle.stuck_view.specs.declared.page.Answer.TheVariants.{Unended, Refused}

-- where a site is drawn: a box by its corner, and a module by that of its frame
abbrev pub site_place : List Drawn → Site → Place
site_place ds (NoSum m b) = box_place ds m b
site_place ds (NoPair m b) = box_place ds m b
site_place ds (NoResult m) = module_place ds m
site_place ds (TwoResults m) = module_place ds m

-- the line of a site, and the picture of its place
abbrev pub site_part : List ℕ → List Drawn → Program → Site → List ℕ
site_part text ds P site = site_line P site ++ lined (picture_lines text (site_place ds site))

-- the line of a caller, and the picture of its box
abbrev pub caller_part : List ℕ → List Drawn → Program → ℕ × ℕ → List ℕ
caller_part text ds P caller =
    caller_line P caller ++ lined (picture_lines text (box_place ds caller.0 caller.1))

-- so many callers are shown
abbrev pub most_shown : ℕ
most_shown = 9

-- how many more there are, if there are
abbrev pub more_line : ℕ → List ℕ
more_line n = if n == 0 then [] else codes "  in " ++ decimal n ++ codes " more\n"

-- the parts of a trail: the site, then its callers, the innermost first
abbrev pub trail_page : List ℕ → List Drawn → Program → Trail → List ℕ
trail_page text ds P trail =
    site_part text ds P trail.site
    ++ flat_map (caller_part text ds P) (take most_shown trail.callers)
    ++ more_line (length trail.callers - most_shown)

-- so many events are made at most
abbrev pub most_events : ℕ
most_events = 2 ^ 62

-- the page of a text that has this program, whose modules are drawn so
pub data IsPageOf (text : List ℕ) (ds : List Drawn) (P : Program) : Answer → List ℕ → Type 0 where
  value : (r : Meaning) (v : Value) → HasMeaning P r → r.outcome ≡ Gives v →
      IsPageOf text ds P ValueTold (codes "not stuck\n")
  stuck : (r : Meaning) (trail : Trail) → HasMeaning P r → r.outcome ≡ Stuck trail →
      IsPageOf text ds P StuckTold (trail_page text ds P trail)
  unended : ((r : Meaning) → HasMeaning P r → most_events < r.firings + r.instances) →
      IsPageOf text ds P Unended (codes "not stuck within 4611686018427387904 events\n")

-- the page of a text; one that has no program has none
pub data IsPage (text : List ℕ) : Answer → List ℕ → Type 0 where
  of_program : (ds : List Drawn) (P : Program) (a : Answer) (page : List ℕ) → drawn_of text (Ok ds) →
      program_of text (Ok P) → IsPageOf text ds P a page → IsPage text a page
  of_fault : (f : TextFault) → program_of text (Err f) → IsPage text Refused []
