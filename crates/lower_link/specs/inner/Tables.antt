-- What the code of blocks asks of their program.
use Rattle.std.specs.Prelude.{◌≡◌, ℕ, ◌<◌, List, length, slice_get, Some}
use Rattle.two_d.specs.Programs.{Program}
use Rattle.lower_emit.specs.KnownOutcomes.{first_text}

-- for each module the number of its first text
pub record AreFirstTexts (P : Program) (numbers : List ℕ) : Type 0 where
  pub one_each : length numbers ≡ length P
  pub are : (m : ℕ) → m < length P → slice_get numbers m ≡ Some (first_text P m)
