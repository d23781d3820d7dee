-- The table of the machine: what one cycle does, by one row for each operator.
use Rattle.std.specs.Prelude.{ℕ, zero, suc, ◌+◌, ◌-◌, ◌*◌, ◌/◌, ◌%◌, ◌^◌, true, ◌==◌, nat_lt}
use Rattle.std.specs.Prelude.{nat_le, if◌then◌else◌, List, [], ◌∷◌, ◌++◌, length, Option, Some}
use Rattle.std.specs.Prelude.{None, bit_and, slice_get, slice_set, replicate}
use Rattle.std.specs.FinMap as map
use Rattle.umix_base.specs.declared.limits.Limits.{Limits}
use Rattle.um_word.specs.declared.op.Op.{Op}
use Rattle.um_word.specs.declared.op.Op.TheVariants.{Move, Index, Amend, Add, Mul, Div, Nand, Halt}
use Rattle.um_word.specs.declared.op.Op.TheVariants.{Alloc, Abandon, Out, Input, Load, Set}
use Rattle.um_word.specs.Operators.{decode_word}
use Rattle.um_word.specs.State.{State, array_at, live_arrays, live_words, reg, with_reg, with_array, platter}

-- why the machine fails; the last two have the number of arrays or words that there would be
pub data Fault : Type 0 where
  FingerOutside BadOperator : Fault
  IndexInactive IndexOutside AmendInactive AmendOutside : Fault
  DivideByZero : Fault
  AbandonZero AbandonInactive LoadInactive : Fault
  OutputTooLarge : Fault
  ArraysFull WordsFull : (count : ℕ) → Fault

-- what a cycle comes to: the next state, or a fault
pub data Next : Type 0 where
  Goes : State → Next
  Stops : Fault → Next

-- goes on with what is there, or stops
abbrev pub with_some : {A : Type 0} → Option A → Fault → (A → Next) → Next
with_some None fault go = Stops fault
with_some (Some x) fault go = go x

-- stops where the number is over the limit
abbrev pub within : ℕ → ℕ → (ℕ → Fault) → Next → Next
within limit count fault next = if nat_le count limit then next else Stops (fault count)

-- the unsigned quotient; there is none by 0
abbrev pub quotient : ℕ → ℕ → Option ℕ
quotient x zero = None
quotient x (suc y) = Some (x / suc y)

-- the arrays, and the words, that there would be after an Allocation of this many platters
abbrev pub arrays_after_allocation : State → ℕ
arrays_after_allocation s = live_arrays s.arrays + 1

abbrev pub words_after_allocation : State → ℕ → ℕ
words_after_allocation s size = live_words s.arrays + size

-- the words that there would be with a duplicate of these in the place of array 0
abbrev pub words_after_load : State → List ℕ → ℕ
words_after_load s words = live_words s.arrays - length (array_at s.arrays 0) + length words

-- the first byte of the input, or 2 ^ 32 - 1 at its end
abbrev pub with_byte : ℕ → List ℕ → State → State
with_byte c [] s = with_reg s c (2 ^ 32 - 1)
with_byte c (byte ∷ rest) s = with_reg (record s { rest = rest }) c byte

-- The rows, each with its faults in their order. The finger has moved on and the cycle is counted
-- in s; an Allocation takes the identifier id.
abbrev pub row : Op → Limits → ℕ → State → Next
row (Move a b c) L id s = Goes (if reg s c == 0 then s else with_reg s a (reg s b))
row (Index a b c) L id s =
    with_some (map.get s.arrays (reg s b)) IndexInactive (λ words.
    with_some (slice_get words (reg s c)) IndexOutside (λ word.
    Goes (with_reg s a word)))
row (Amend a b c) L id s =
    with_some (map.get s.arrays (reg s a)) AmendInactive (λ words.
    with_some (slice_get words (reg s b)) AmendOutside (λ _.
    Goes (with_array s (reg s a) (slice_set words (reg s b) (reg s c)))))
row (Add a b c) L id s = Goes (with_reg s a ((reg s b + reg s c) % 2 ^ 32))
row (Mul a b c) L id s = Goes (with_reg s a (reg s b * reg s c % 2 ^ 32))
row (Div a b c) L id s =
    with_some (quotient (reg s b) (reg s c)) DivideByZero (λ q. Goes (with_reg s a q))
row (Nand a b c) L id s = Goes (with_reg s a (2 ^ 32 - 1 - bit_and (reg s b) (reg s c)))
row Halt L id s = Goes (record s { halted = true })
row (Alloc b c) L id s =
    within L.arrays (arrays_after_allocation s) ArraysFull (
    within L.words (words_after_allocation s (reg s c)) WordsFull (
    Goes (with_reg (with_array s id (replicate (reg s c) 0)) b id)))
row (Abandon c) L id s =
    if reg s c == 0 then Stops AbandonZero else
    with_some (map.get s.arrays (reg s c)) AbandonInactive (λ _.
    Goes (record s { arrays = map.remove s.arrays (reg s c) }))
row (Out c) L id s =
    if nat_lt (reg s c) 256
    then Goes (record s { out = s.out ++ reg s c ∷ [] })
    else Stops OutputTooLarge
row (Input c) L id s = Goes (with_byte c s.rest s)
row (Load b c) L id s =
    if reg s b == 0 then Goes (record s { finger = reg s c }) else
    with_some (map.get s.arrays (reg s b)) LoadInactive (λ words.
    within L.words (words_after_load s words) WordsFull (
    Goes (record (with_array s 0 words) { finger = reg s c })))
row (Set a value) L id s = Goes (with_reg s a value)

-- the finger one further, and one cycle more
abbrev pub moved : State → State
moved s = record s { finger = s.finger + 1; cycles = s.cycles + 1 }

-- one cycle: the platter under the finger, its operator, and the operator's row
abbrev pub cycle : State → Limits → ℕ → Next
cycle s L id =
    with_some (platter s) FingerOutside (λ word.
    with_some (decode_word word) BadOperator (λ op.
    row op L id (moved s)))

-- the operator under the finger, if there is one
abbrev pub op_of : Option ℕ → Option Op
op_of None = None
op_of (Some word) = decode_word word

abbrev pub op_under : State → Option Op
op_under s = op_of (platter s)
