-- A run that asks for no input is the same on every input.
use Rattle.std.proofs.Common.{◌≡◌, ℕ, zero, suc, List, Bool, true, false, Option, Some, None, refl, ap, ◌∙◌, subst}
use Rattle.std.specs.Prelude.{if◌then◌else◌, ◌==◌, nat_lt, nat_le, slice_get, slice_set}
use Rattle.std.specs.FinMap as map
use Rattle.umix_base.specs.declared.limits.Limits.{Limits}
use Rattle.um_word.specs.declared.op.Op.{Op}
use Rattle.um_word.specs.declared.op.Op.TheVariants.{Move, Index, Amend, Add, Mul, Div, Nand, Halt, Alloc, Abandon, Out, Input, Load, Set}
use Rattle.um_word.specs.Operators.{decode_word}
use Rattle.um_word.specs.State.{State, platter, reg, with_reg, with_array}
use Rattle.um_word.specs.Table.{Fault, Next, Goes, Stops, with_some, within, quotient, row, moved, cycle, op_of, op_under, arrays_after_allocation, words_after_allocation, words_after_load}
use Rattle.um_word.specs.Table as table
use Rattle.um_word.specs.Run.{Standing, Stands, Failed, run_after}
use Rattle.um_word.specs.Rule.{Identifiers, identifiers_left, left_by, next_identifier, ruled}
use Rattle.um_word.specs.Loads.{state_in, fault_in}
use Rattle.um_machine.proofs.Cycles.{next}

-- the operator is no Input
abbrev pub IsNoInput : Option Op → Type 0
IsNoInput op = (c : ℕ) → op ≡ Some (Input c) → ⊥

-- where a run stands, it goes on without an Input, or not at all
abbrev pub AsksNothing : {I : Type 0} → Standing I → Type 0
AsksNothing x = (state_in x).halted ≡ false → IsNoInput (op_under (state_in x))

module _ (r : List ℕ) where
  abbrev pub with_rest : State → State
  with_rest s = record s { rest = r }

  abbrev next_with : Next → Next
  next_with (Goes t) = Goes (with_rest t)
  next_with (Stops fault) = Stops fault

  abbrev pub standing_with : {I : Type 0} → Standing I → Standing I
  standing_with (Stands s i) = Stands (with_rest s) i
  standing_with (Failed s i fault) = Failed (with_rest s) i fault

  some_alike : {A : Type 0} (o : Option A) (fault : Fault) (go went : A → Next) →
      ((x : A) → went x ≡ next_with (go x)) → with_some o fault went ≡ next_with
      (with_some o fault go)
  some_alike None fault go went e = refl
  some_alike (Some x) fault go went e = e x

  if_alike : (b : Bool) (x y u v : Next) → x ≡ next_with u → y ≡ next_with v →
      (if b then x else y) ≡ next_with (if b then u else v)
  if_alike true x y u v e f = e
  if_alike false x y u v e f = f

  goes_alike : (b : Bool) (s t : State) → Goes (if b then with_rest s else with_rest t) ≡ next_with
      (Goes (if b then s else t))
  goes_alike true s t = refl
  goes_alike false s t = refl

  row_alike : (op : Op) (L : Limits) (id : ℕ) (s : State) → ((c : ℕ) → Some op ≡ Some (Input c) →
      ⊥) → row op L id (with_rest s) ≡ next_with (row op L id s)
  row_alike (Move a b c) L id s none = goes_alike (reg s c == 0) s (with_reg s a (reg s b))
  row_alike (Index a b c) L id s none =
      some_alike (map.get s.arrays (reg s b)) table.IndexInactive
      (λ words. with_some (slice_get words (reg s c)) table.IndexOutside
      (λ word. Goes (with_reg s a word)))
      (λ words. with_some (slice_get words (reg s c)) table.IndexOutside
      (λ word. Goes (with_reg (with_rest s) a word)))
      (λ words. some_alike (slice_get words (reg s c)) table.IndexOutside
      (λ word. Goes (with_reg s a word)) (λ word. Goes (with_reg (with_rest s) a word))
      (λ word. refl))
  row_alike (Amend a b c) L id s none =
      some_alike (map.get s.arrays (reg s a)) table.AmendInactive
      (λ words. with_some (slice_get words (reg s b)) table.AmendOutside
      (λ _. Goes (with_array s (reg s a) (slice_set words (reg s b) (reg s c)))))
      (λ words. with_some (slice_get words (reg s b)) table.AmendOutside
      (λ _. Goes (with_array (with_rest s) (reg s a) (slice_set words (reg s b) (reg s c)))))
      (λ words. some_alike (slice_get words (reg s b)) table.AmendOutside
      (λ _. Goes (with_array s (reg s a) (slice_set words (reg s b) (reg s c))))
      (λ _. Goes (with_array (with_rest s) (reg s a) (slice_set words (reg s b) (reg s c))))
      (λ _. refl))
  row_alike (Add a b c) L id s none = refl
  row_alike (Mul a b c) L id s none = refl
  row_alike (Div a b c) L id s none =
      some_alike (quotient (reg s b) (reg s c)) table.DivideByZero (λ q. Goes (with_reg s a q))
      (λ q. Goes (with_reg (with_rest s) a q)) (λ q. refl)
  row_alike (Nand a b c) L id s none = refl
  row_alike Halt L id s none = refl
  row_alike (Alloc b c) L id s none =
      if_alike (nat_le (arrays_after_allocation s) L.arrays) _ _ _ _
      (if_alike (nat_le (words_after_allocation s (reg s c)) L.words) _ _ _ _ refl refl) refl
  row_alike (Abandon c) L id s none =
      if_alike (reg s c == 0) _ _ _ _ refl
      (some_alike (map.get s.arrays (reg s c)) table.AbandonInactive
      (λ _. Goes (record s { arrays = map.remove s.arrays (reg s c) }))
      (λ _. Goes (record (with_rest s) { arrays = map.remove s.arrays (reg s c) })) (λ _. refl))
  row_alike (Out c) L id s none = if_alike (nat_lt (reg s c) 256) _ _ _ _ refl refl
  row_alike (Input c) L id s none = absurd (none c refl)
  row_alike (Load b c) L id s none =
      if_alike (reg s b == 0) _ _ _ _ refl
      (some_alike (map.get s.arrays (reg s b)) table.LoadInactive
      (λ words. within L.words (words_after_load s words) table.WordsFull
      (Goes (record (with_array s 0 words) { finger = reg s c })))
      (λ words. within L.words (words_after_load s words) table.WordsFull
      (Goes (record (with_array (with_rest s) 0 words) { finger = reg s c })))
      (λ words. if_alike (nat_le (words_after_load s words) L.words) _ _ _ _ refl refl))
  row_alike (Set a value) L id s none = refl

  decoded : (o : Option Op) (L : Limits) (id : ℕ) (s : State) → IsNoInput o →
      with_some o table.BadOperator (λ op. row op L id (moved (with_rest s)))
      ≡ next_with (with_some o table.BadOperator (λ op. row op L id (moved s)))
  decoded None L id s none = refl
  decoded (Some op) L id s none = row_alike op L id (moved s) none

  fetched : (o : Option ℕ) (L : Limits) (id : ℕ) (s : State) → IsNoInput (op_of o) →
      with_some o table.FingerOutside (λ word. with_some (decode_word word) table.BadOperator
      (λ op. row op L id (moved (with_rest s))))
      ≡ next_with (with_some o table.FingerOutside (λ word. with_some (decode_word word)
      table.BadOperator (λ op. row op L id (moved s))))
  fetched None L id s none = refl
  fetched (Some word) L id s none = decoded (decode_word word) L id s none

  cycle_alike : (L : Limits) (id : ℕ) (s : State) → IsNoInput (op_under s) →
      cycle (with_rest s) L id ≡ next_with (cycle s L id)
  cycle_alike L id s none = fetched (platter s) L id s none

  left_alike : (op : Option Op) (s : State) (i : Identifiers) →
      left_by op (with_rest s) i ≡ left_by op s i
  left_alike (Some (Abandon c)) s i = refl
  left_alike _ s i = refl

  after_alike : {I : Type 0} (n : Next) (s : State) (i : I) (go went : State → Standing I) →
      ((t : State) → n ≡ Goes t → went (with_rest t) ≡ standing_with (go t)) →
      run_after (next_with n) (with_rest s) i went ≡ standing_with (run_after n s i go)
  after_alike (Goes t) s i go went e = e t refl
  after_alike (Stops fault) s i go went e = refl

  halt_alike : {I : Type 0} (b : Bool) (s : State) (i : I) (x y : Standing I) →
      (b ≡ false → x ≡ standing_with y) →
      (if b then Stands (with_rest s) i else x) ≡ standing_with (if b then Stands s i else y)
  halt_alike true s i x y e = refl
  halt_alike false s i x y e = e refl

  -- the run on another input stands there too, with that input left
  pub same_run : (L : Limits) (n : ℕ) (i : Identifiers) (s : State) →
      ((m : ℕ) → AsksNothing (ruled L m i s)) →
      ruled L n i (with_rest s) ≡ standing_with (ruled L n i s)
  same_run L zero i s none = refl
  same_run L (suc n) i s none =
      halt_alike s.halted s i
      (run_after (cycle (with_rest s) L (next_identifier i)) (with_rest s) i
      (ruled L n (identifiers_left (with_rest s) i)))
      (run_after (cycle s L (next_identifier i)) s i (ruled L n (identifiers_left s i)))
      (λ running.
      ap (λ x. run_after x (with_rest s) i (ruled L n (identifiers_left (with_rest s) i)))
      (cycle_alike L (next_identifier i) s (none 0 running))
      ∙ ap (λ j. run_after (next_with (cycle s L (next_identifier i))) (with_rest s) i
      (ruled L n j)) (left_alike (op_under s) s i)
      ∙ after_alike (cycle s L (next_identifier i)) s i (ruled L n (identifiers_left s i))
      (ruled L n (identifiers_left s i))
      (λ t goes. same_run L n (identifiers_left s i) t (λ m. subst AsksNothing
      (next L m i s (Goes t) running goes) (none (suc m)))))

  pub same_fault : {I : Type 0} (x : Standing I) → fault_in (standing_with x) ≡ fault_in x
  same_fault (Stands s i) = refl
  same_fault (Failed s i fault) = refl

  pub same_halt : {I : Type 0} (x : Standing I) →
      (state_in (standing_with x)).halted ≡ (state_in x).halted
  same_halt (Stands s i) = refl
  same_halt (Failed s i fault) = refl

  pub same_out : {I : Type 0} (x : Standing I) →
      (state_in (standing_with x)).out ≡ (state_in x).out
  same_out (Stands s i) = refl
  same_out (Failed s i fault) = refl
