-- What is known of modules, and outcomes by the numbers of their texts.
use Rattle.std.specs.Prelude.{ℕ, Option, List, ◌∷◌, Some, None, zero, suc, ◌+◌, []}
use Rattle.two_d.specs.Meaning.{Inputs, Outcome, Gives, Stuck, Meaning, Answers}
use Rattle.lower_emit.specs.Stands.{Ending, TextTrail, Via, At}
use Rattle.two_d.specs.declared.trail.Site.{Site}
use Rattle.codex_values.specs.Value.{Value}
use Rattle.std.specs.Option.{option_map}
use Rattle.two_d.specs.Programs.{Program, box_count}
use Rattle.two_d.specs.declared.trail.Site.TheVariants.{NoSum, NoPair, NoResult, TwoResults}
use Rattle.two_d.specs.Trails as trails

-- a module, and the inputs for which an enabled `use` calls it
pub record Call : Type 0 where
  pub callee : ℕ
  pub inputs : Inputs

-- what modules come to, as far as that is known
abbrev pub Known : Type 0
Known = ℕ → Inputs → Option Ending

-- the numbers of the texts of a program: of a site, and of a caller, a box of a module
pub record TextNumbers : Type 0 where
  pub site : Site → ℕ
  pub caller : ℕ → ℕ → ℕ

-- a trail with more callers, the first of them innermost
abbrev pub through : TextNumbers → List (ℕ × ℕ) → TextTrail → TextTrail
through texts [] trail = trail
through texts (b ∷ callers) trail = through texts callers (Via (texts.caller b.0 b.1) trail)

-- the trail by the numbers of its texts, the last caller outside
abbrev pub by_numbers : TextNumbers → trails.Trail → TextTrail
by_numbers texts trail = through texts trail.callers (At (texts.site trail.site))

-- the value of an outcome, if it isn't stuck
abbrev pub value_of : Outcome → Option Value
value_of (Gives v) = Some v
value_of (Stuck trail) = None

-- the trail of an outcome, if it is stuck
abbrev pub mark_of : TextNumbers → Outcome → Option TextTrail
mark_of texts (Gives v) = None
mark_of texts (Stuck trail) = Some (by_numbers texts trail)

-- an outcome as the ending of an instance
abbrev pub came_of : TextNumbers → Outcome → Ending
came_of texts o = record { value = value_of o; mark = mark_of texts o }

-- what is known of modules that mean what `answer` says
abbrev pub known_of : TextNumbers → Answers → Known
known_of texts answer m a = option_map (λ (r : Meaning). came_of texts r.outcome) (answer m a)

-- The number of a module's first text. It has one for each box, and then those for no result and
-- for two.
abbrev pub first_text : Program → ℕ → ℕ
first_text P zero = 0
first_text P (suc m) = first_text P m + box_count P m + 2

-- the number of the text of a site
abbrev pub site_text : Program → Site → ℕ
site_text P (NoSum m b) = first_text P m + b
site_text P (NoPair m b) = first_text P m + b
site_text P (NoResult m) = first_text P m + box_count P m
site_text P (TwoResults m) = first_text P m + box_count P m + 1

-- the texts in the order of the modules and of their boxes
abbrev pub texts_of : Program → TextNumbers
texts_of P = record { site = site_text P; caller = λ m b. first_text P m + b }
