-- The number in a limit's fault is over the limit.
use Rattle.std.proofs.Common.{◌≡◌, ℕ, zero, suc, Bool, true, false, Option, Some, None, refl, leb-false}
use Rattle.std.specs.Prelude.{if◌then◌else◌, nat_le, nat_lt, ◌==◌, slice_get}
use Rattle.std.specs.FinMap as map
use Rattle.umix_base.specs.declared.limits.Limits.{Limits}
use Rattle.um_word.specs.declared.op.Op.{Op}
use Rattle.um_word.specs.declared.op.Op.TheVariants.{Move, Index, Amend, Add, Mul, Div, Nand, Halt, Alloc, Abandon, Out, Input, Load, Set}
use Rattle.um_word.specs.Operators.{decode_word}
use Rattle.um_word.specs.State.{State, reg, platter}
use Rattle.um_word.specs.Table.{Fault, FingerOutside, BadOperator, IndexInactive, IndexOutside, AmendInactive, AmendOutside, AbandonZero, AbandonInactive, LoadInactive, DivideByZero, OutputTooLarge, ArraysFull, WordsFull, Next, Goes, Stops, with_some, within, quotient, row, moved, cycle, arrays_after_allocation, words_after_allocation, words_after_load}
use Rattle.um_word.specs.Run.{Standing, Stands, run_after, run_by}
use Rattle.um_word.specs.Free.{IsOver, FailsOver, FaultsAreOver}

module _ (L : Limits) where
  abbrev StopsOver : Next → Type 0
  StopsOver (Goes t) = Unit {0}
  StopsOver (Stops fault) = IsOver L fault

  on_some : {A : Type 0} (o : Option A) (fault : Fault) (go : A → Next) → IsOver L fault → ((x : A) → StopsOver (go x)) → StopsOver (with_some o fault go)
  on_some None fault go none some = none
  on_some (Some x) fault go none some = some x

  on_if : (b : Bool) (x y : Next) → StopsOver x → (b ≡ false → StopsOver y) → StopsOver (if b then x else y)
  on_if true x y h k = h
  on_if false x y h k = k refl

  -- a count that is within its limit doesn't stop
  on_arrays : (count : ℕ) (next : Next) → StopsOver next → StopsOver (within L.arrays count ArraysFull next)
  on_arrays count next h = on_if (nat_le count L.arrays) next (Stops (ArraysFull count)) h (λ e. leb-false count L.arrays e)

  on_words : (count : ℕ) (next : Next) → StopsOver next → StopsOver (within L.words count WordsFull next)
  on_words count next h = on_if (nat_le count L.words) next (Stops (WordsFull count)) h (λ e. leb-false count L.words e)

  row_over : (op : Op) (id : ℕ) (s : State) → StopsOver (row op L id s)
  row_over (Move a b c) id s = tt
  row_over (Index a b c) id s = on_some (map.get s.arrays (reg s b)) IndexInactive _ tt (λ words. on_some (slice_get words (reg s c)) IndexOutside _ tt (λ word. tt))
  row_over (Amend a b c) id s = on_some (map.get s.arrays (reg s a)) AmendInactive _ tt (λ words. on_some (slice_get words (reg s b)) AmendOutside _ tt (λ word. tt))
  row_over (Add a b c) id s = tt
  row_over (Mul a b c) id s = tt
  row_over (Div a b c) id s = on_some (quotient (reg s b) (reg s c)) DivideByZero _ tt (λ q. tt)
  row_over (Nand a b c) id s = tt
  row_over Halt id s = tt
  row_over (Alloc b c) id s = on_arrays (arrays_after_allocation s) _ (on_words (words_after_allocation s (reg s c)) _ tt)
  row_over (Abandon c) id s = on_if (reg s c == 0) (Stops AbandonZero) _ tt (λ e. on_some (map.get s.arrays (reg s c)) AbandonInactive _ tt (λ words. tt))
  row_over (Out c) id s = on_if (nat_lt (reg s c) 256) _ (Stops OutputTooLarge) tt (λ e. tt)
  row_over (Input c) id s = tt
  row_over (Load b c) id s = on_if (reg s b == 0) _ _ tt (λ e. on_some (map.get s.arrays (reg s b)) LoadInactive _ tt (λ words. on_words (words_after_load s words) _ tt))
  row_over (Set a value) id s = tt

  cycle_over : (id : ℕ) (s : State) → StopsOver (cycle s L id)
  cycle_over id s = on_some (platter s) FingerOutside _ tt (λ word. on_some (decode_word word) BadOperator _ tt (λ op. row_over op id (moved s)))

  module _ {I : Type 0} (offer : I → ℕ) (left : State → I → I) where
    after_over : (next : Next) (s : State) (i : I) (go : State → Standing I) → StopsOver next → ((t : State) → FailsOver L (go t)) → FailsOver L (run_after next s i go)
    after_over (Goes t) s i go h again = again t
    after_over (Stops fault) s i go h again = h

    by_halted : (b : Bool) (n : ℕ) (i : I) (s : State) → ((t : State) → FailsOver L (run_by offer left L n (left s i) t)) →
        FailsOver L (if b then Stands s i else run_after (cycle s L (offer i)) s i (run_by offer left L n (left s i)))
    by_halted true n i s again = tt
    by_halted false n i s again = after_over (cycle s L (offer i)) s i (run_by offer left L n (left s i)) (cycle_over (offer i) s) again

    all_over : (n : ℕ) (i : I) (s : State) → FailsOver L (run_by offer left L n i s)
    all_over zero i s = tt
    all_over (suc n) i s = by_halted s.halted n i s (λ t. all_over n (left s i) t)

pub faults_are_over : {I : Type 0} (offer : I → ℕ) (left : State → I → I) → FaultsAreOver offer left
faults_are_over offer left L n i s = all_over L offer left n i s
