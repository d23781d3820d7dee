-- The words of an image between the first one and the abandoned identifiers.
use Rattle.std.specs.Prelude.{ℕ, ◌+◌, ◌*◌, ◌^◌, ◌<◌, ◌≤◌, List, slice_index}
use Rattle.std.specs.List.{AllByRecursion}
use Rattle.array_store.specs.StoreView.{most_live_arrays}
use Rattle.um_machine.specs.MachineParts.{most_saved_cycles}

-- words of 32 bits
abbrev pub AreWords : List ℕ → Type 0
AreWords ws = AllByRecursion (λ word. word < 2 ^ 32) ws

-- the number of words between the first one and the abandoned identifiers
abbrev pub head_length : ℕ
head_length = 16

-- the number of two words, the high one first
abbrev pub long : (high low : ℕ) → ℕ
long high low = high * 2 ^ 32 + low

-- how many identifiers a head says were made
abbrev pub made_in : List ℕ → ℕ
made_in head = slice_index head 14

-- how many of them it says were abandoned
abbrev pub count_in : List ℕ → ℕ
count_in head = slice_index head 15

-- The rules of these words: eight registers, the finger, the cycles made, the bytes taken, whether
-- the machine has halted, the identifiers made, and how many of them were abandoned.
pub record HeadFits (head : List ℕ) : Type 0 where
  pub cycles : long (slice_index head 9) (slice_index head 10) ≤ most_saved_cycles
  pub taken : long (slice_index head 11) (slice_index head 12)
      ≤ long (slice_index head 9) (slice_index head 10)
  pub halted : slice_index head 13 ≤ 1
  pub made : made_in head ≤ most_live_arrays
  pub count : count_in head ≤ made_in head
