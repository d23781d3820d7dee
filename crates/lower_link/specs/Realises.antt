-- What it means that words realise a program.
use Rattle.std.specs.Prelude.{ℕ, ◌+◌, ◌*◌, ◌≤◌, ◌≡◌, ◌⊎◌, true, List, [], ◌++◌, length, IfSome}
use Rattle.std.specs.Prelude.{IsSome}
use Rattle.umix_base.specs.declared.limits.Limits.{Limits}
use Rattle.um_word.specs.State.{start_of}
use Rattle.um_word.specs.Run.{Standing, run, AreLegal}
use Rattle.um_word.specs.Loads.{fault_in, state_in, IsLimit}
use Rattle.two_d.specs.Programs.{Program}
use Rattle.two_d.specs.Meaning.{Meaning}
use Rattle.two_d.specs.Steps.{HasMeaning, HasNoOutcome}
use Rattle.two_d.specs.Texts.{text_of}
use Rattle.two_d.specs.Weights.{weight}

-- What all bounds are multiples of: the weight, for each of so many instances or entries and once
-- more; so many bytes; and 64.
abbrev pub units : Program → (times bytes : ℕ) → ℕ
units P times bytes = weight P * (times + 1) + bytes + 64

-- so many cycles are enough for a program that means this
abbrev pub AreEnough : Program → Meaning → ℕ → Type 0
AreEnough P r n = 65_536 * units P r.instances (length (text_of P r.outcome)) ≤ n

-- How a run of n cycles on this input stands. It has failed at a limit, if at all. Of the input
-- nothing is taken; as this holds for every input, no Input operator is discharged. What it wrote
-- begins the text of the program, and is nothing where the program has none. Where it has halted,
-- the program has a text, and it wrote all of it. And where the program has a text, a run of cycles
-- enough has halted, or stands at a limit.
pub record Realised {I : Type 0} (P : Program) (input : List ℕ) (n : ℕ)
    (run : Standing I) : Type 0 where
  pub faults : IfSome (fault_in run) IsLimit
  pub untaken : (state_in run).rest ≡ input
  pub begins : (r : Meaning) → HasMeaning P r →
      (more : List ℕ) × ((state_in run).out ++ more ≡ text_of P r.outcome)
  pub silent : HasNoOutcome P → (state_in run).out ≡ []
  pub whole : (state_in run).halted ≡ true →
      (r : Meaning) × HasMeaning P r × ((state_in run).out ≡ text_of P r.outcome)
  pub ends : (r : Meaning) → HasMeaning P r → AreEnough P r n →
      ((state_in run).halted ≡ true) ⊎ IsSome (fault_in run)

-- Under all limits that allow the words, on every input, for every number of cycles, with all legal
-- identifiers.
abbrev pub Realises : Program → (words : List ℕ) → Type 0
Realises P words =
    (L : Limits) (input : List ℕ) (n : ℕ) (ids : List ℕ) →
    length words ≤ L.words → AreLegal L n ids (start_of words input) →
    Realised P input n (run L n ids (start_of words input))
