-- What is printed of an outcome.
use Rattle.std.specs.Prelude.{◌≡◌, ℕ, ◌+◌, ◌<◌, List, ◌++◌, length, codes, decimal, All}
use Rattle.std.specs.List.{flat_map}
use Rattle.codex_values.specs.Value.{Value, show}
use Rattle.codex_values.specs.Store.{value_in}
use Rattle.two_d.specs.Programs.{Program, module_at, box_count}
use Rattle.two_d.specs.Trails.{Trail, Site, NoSum, NoPair, NoResult, TwoResults, trail_in}
use Rattle.two_d.specs.Meaning.{Meaning, Outcome, Gives, Stuck}
use Rattle.two_d.specs.Steps.{HasMeaning}
use Rattle.two_d.specs.declared.outcome.Outcome.{Outcome as OutcomeKept}
use Rattle.two_d.specs.declared.outcome.Outcome.TheVariants.{Value as ValueKept, Stuck as StuckKept}

abbrev pub name_at : Program → ℕ → List ℕ
name_at P m = (module_at P m).name

-- a box, by the name of its module and its number from 1
abbrev pub box_text : Program → ℕ → ℕ → List ℕ
box_text P m b = name_at P m ++ codes " box " ++ decimal (b + 1)

abbrev pub site_line : Program → Site → List ℕ
site_line P (NoSum m b) = codes "stuck: " ++ box_text P m b ++ codes ": no sum\n"
site_line P (NoPair m b) = codes "stuck: " ++ box_text P m b ++ codes ": no pair\n"
site_line P (NoResult m) = codes "stuck: " ++ name_at P m ++ codes ": no result\n"
site_line P (TwoResults m) = codes "stuck: " ++ name_at P m ++ codes ": two results\n"

abbrev pub caller_line : Program → ℕ × ℕ → List ℕ
caller_line P caller = codes "  in " ++ box_text P caller.0 caller.1 ++ codes "\n"

-- the lines of these callers, in their order
abbrev pub caller_lines : Program → List (ℕ × ℕ) → List ℕ
caller_lines P callers = flat_map (caller_line P) callers

-- the text of an outcome of the program: a line for a value, one for a site, and one for each
-- caller
abbrev pub text_of : Program → Outcome → List ℕ
text_of P (Gives v) = show v ++ codes "\n"
text_of P (Stuck trail) = site_line P trail.site ++ caller_lines P trail.callers

-- the text of a program is that of its outcome
pub record IsProgramText (P : Program) (text : List ℕ) : Type 0 where
  pub meaning : Meaning
  pub has : HasMeaning P meaning
  pub is : text ≡ text_of P meaning.outcome

-- the outcome whose value or trail is kept at a place of these
abbrev pub outcome_in : List Value → List Trail → OutcomeKept → Outcome
outcome_in values trails (ValueKept at) = Gives (value_in values at)
outcome_in values trails (StuckKept at) = Stuck (trail_in trails at)

-- the place is in its store, of which these are the sizes
abbrev pub IsPlaceIn : ℕ → ℕ → OutcomeKept → Type 0
IsPlaceIn values trails (ValueKept at) = at < values
IsPlaceIn values trails (StuckKept at) = at < trails

-- the program has this box
abbrev pub HasBox : Program → ℕ × ℕ → Type 0
HasBox P box = (box.0 < length P) × (box.1 < box_count P box.0)

abbrev pub IsSiteOf : Program → Site → Type 0
IsSiteOf P (NoSum m b) = HasBox P (m, b)
IsSiteOf P (NoPair m b) = HasBox P (m, b)
IsSiteOf P (NoResult m) = m < length P
IsSiteOf P (TwoResults m) = m < length P

-- the modules and boxes of a trail are the program's
pub record IsTrailOf (P : Program) (trail : Trail) : Type 0 where
  pub site : IsSiteOf P trail.site
  pub callers : All (HasBox P) trail.callers

abbrev pub IsOutcomeOf : Program → Outcome → Type 0
IsOutcomeOf P (Gives v) = Unit {0}
IsOutcomeOf P (Stuck trail) = IsTrailOf P trail
