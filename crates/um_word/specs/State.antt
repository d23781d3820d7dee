-- The state of the machine.
use Rattle.std.specs.Prelude.{◌≡◌, ℕ, ◌+◌, ◌-◌, ◌^◌, ◌<◌, Bool, false, List, [], ◌∷◌, length}
use Rattle.std.specs.Prelude.{Option, Some, slice_get, slice_index, slice_set, replicate, unwrap_or}
use Rattle.std.specs.Ordering.{nat_cmp}
use Rattle.std.specs.FinMap as map

-- the arrays of platters by their identifiers
abbrev pub Arrays : Type 0
Arrays = map.FinMap nat_cmp (List ℕ)

-- the array with this identifier, or no platters where there is none
abbrev pub array_at : Arrays → ℕ → List ℕ
array_at arrays id = unwrap_or (map.get arrays id) []

-- the number of arrays, without array 0
abbrev pub live_arrays : Arrays → ℕ
live_arrays arrays = map.len arrays - 1

abbrev pub words_in : List (ℕ × List ℕ) → ℕ
words_in [] = 0
words_in (array ∷ arrays) = length array.1 + words_in arrays

-- the number of words in all arrays, with array 0
abbrev pub live_words : Arrays → ℕ
live_words arrays = words_in (map.entries arrays)

-- `rest` are the bytes of the input that are still to come, and `out` those written
pub record State : Type 0 where
  pub registers : List ℕ
  pub finger : ℕ
  pub arrays : Arrays
  pub rest : List ℕ
  pub out : List ℕ
  pub cycles : ℕ
  pub halted : Bool

abbrev pub reg : State → ℕ → ℕ
reg s k = slice_index s.registers k

abbrev pub with_reg : State → ℕ → ℕ → State
with_reg s k value = record s { registers = slice_set s.registers k value }

abbrev pub with_array : State → ℕ → List ℕ → State
with_array s id words = record s { arrays = map.insert s.arrays id words }

-- the platter under the finger
abbrev pub platter : State → Option ℕ
platter s = slice_get (array_at s.arrays 0) s.finger

-- the state in which the run of a scroll begins
abbrev pub start_of : List ℕ → List ℕ → State
start_of words input = record {
  registers = replicate 8 0;
  finger = 0;
  arrays = map.insert map.empty 0 words;
  rest = input;
  out = [];
  cycles = 0;
  halted = false;
}

-- eight registers of 32 bits, and platters alike; array 0 is there
pub record IsWellFormed (s : State) : Type 0 where
  pub eight : length s.registers ≡ 8
  pub registers : (k : ℕ) → reg s k < 2 ^ 32
  pub zero_there : (words : List ℕ) × (map.get s.arrays 0 ≡ Some words)
  pub platters : (id k : ℕ) → slice_index (array_at s.arrays id) k < 2 ^ 32
