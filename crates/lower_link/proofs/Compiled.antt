-- A scroll that was made of the plans of a program, and what it does.
use Rattle.std.specs.Prelude.{◌≡◌, ℕ, ◌+◌, ◌*◌, ◌<◌, Bool, ◌++◌, if◌then◌else◌, List, [], ◌∷◌, length, None}
use Rattle.two_d.specs.Programs.{Program, main_of}
use Rattle.two_d.specs.declared.trail.Site.{Site}
use Rattle.two_d.specs.Good.{IsGood}
use Rattle.two_d.specs.Meaning.{Outcome, Gives, Stuck, Meaning}
use Rattle.two_d.specs.Walks.{AreOrders}
use Rattle.um_word.specs.Loads.{Loads, seen, entries}
use Rattle.two_d.specs.Texts.{text_of, site_line, caller_line}
use Rattle.lower_emit.specs.inner.Trips.{Plans, Prices, IsBlock}
use Rattle.lower_link.specs.inner.Boot.{Places, boot_cycles, boot_holds, IsLinked}
use Rattle.lower_emit.specs.KnownOutcomes.{TextNumbers, by_numbers}
use Rattle.lower_link.specs.inner.Depth.{Push}
use Rattle.lower_link.specs.inner.Printer.{Shown, ShowsValue, ShowsTrail, IsPrinter}
use Rattle.lower_link.proofs.Sites.{IsSiteIn, IsCallerIn}

-- The texts of sites and callers, by their numbers: only of those that boxes of their kind can come to, so a box needs one text.
pub record AreTextsOf (P : Program) (texts : TextNumbers) (text : ℕ → List ℕ) (count : ℕ) : Type 0 where
  pub sites : (s : Site) → IsSiteIn P s → (texts.site s < count) × (text (texts.site s) ≡ site_line P s)
  pub callers : (b : ℕ × ℕ) → IsCallerIn P b → (texts.caller b.0 b.1 < count) × (text (texts.caller b.0 b.1) ≡ caller_line P b)

-- The words are boot, blocks and printer of a program, by its plans.
pub record IsCompiled (P : Program) (order : ℕ → List ℕ) (plans : Plans) (texts : TextNumbers) (codes : ℕ → List ℕ) (c : Prices) (p : Places) (text : ℕ → List ℕ) (count : ℕ) (words : List ℕ) : Type 0 where
  pub good : IsGood P
  pub orders : AreOrders P order
  pub main_closed : ((plans (main_of P)).north ≡ None) × ((plans (main_of P)).west ≡ None)
  pub blocks : (m : ℕ) → m < length P → IsBlock codes c plans (length P) m
  pub push : Push P order texts plans
  pub printer : IsPrinter (codes (length P)) text count
  pub text_numbers : AreTextsOf P texts text count
  pub linked : IsLinked codes p (length P) (main_of P) (plans (main_of P)).layout.size words

-- so much for each entry of a route
abbrev pub owed : ℕ → List (List ℕ × Bool) → ℕ
owed price [] = 0
owed price (x ∷ loads) = (if x.1 then price else 0) + owed price loads

abbrev pub shown_of : TextNumbers → Outcome → Shown
shown_of texts (Gives v) = ShowsValue v
shown_of texts (Stuck trail) = ShowsTrail (by_numbers texts trail)

-- the cycles after which a program with this outcome has halted: for the boot, for each instance, and for each byte of the text
abbrev pub all_cycles : Program → Plans → Prices → Places → Meaning → ℕ
all_cycles P plans c p r =
    boot_cycles p (length P) + boot_holds p (length P) (plans (main_of P)).layout.size + c.price * (r.instances + 2) + 20 + 34 * length (text_of P r.outcome)

-- what was loaded is a beginning of the route
abbrev pub IsOnRoute : List (List ℕ × Bool) → Loads → Type 0
IsOnRoute whole k = (rest : List (List ℕ × Bool)) × (seen k ++ rest ≡ whole)

-- what may be spent for the boot and the entries so far, before the printer is entered
abbrev pub may_spend : Program → Plans → Prices → Places → Loads → ℕ
may_spend P plans c p k = boot_cycles p (length P) + boot_holds p (length P) (plans (main_of P)).layout.size + owed c.price (seen k)

-- and by then so many bytes were written: in the printer 108 for each member of a trail, of which there are no more than entries, 200 for a
-- byte, and 111
abbrev pub may_spend_all : Program → Plans → Prices → Places → Loads → (bytes : ℕ) → ℕ
may_spend_all P plans c p k bytes = may_spend P plans c p k + 111 + 108 * entries k + 200 * bytes
