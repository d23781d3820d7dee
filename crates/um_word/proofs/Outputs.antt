-- A run doesn't look at what was written before it.
use Rattle.std.proofs.Common.{◌≡◌, ℕ, zero, suc, ◌+◌, List, [], ◌∷◌, ◌++◌, Bool, true, false, Option, Some, None, refl, sym, ap, ◌∙◌}
use Rattle.std.specs.Prelude.{if◌then◌else◌, ◌==◌, nat_lt, nat_le, slice_get, slice_set}
use Rattle.std.specs.FinMap as map
use Rattle.std.proofs.lemmas.List.{append_assoc, append-nil}
use Rattle.umix_base.specs.declared.limits.Limits.{Limits}
use Rattle.um_word.specs.declared.op.Op.{Op}
use Rattle.um_word.specs.declared.op.Op.TheVariants.{Move, Index, Amend, Add, Mul, Div, Nand, Halt, Alloc, Abandon, Out, Input, Load, Set}
use Rattle.um_word.specs.Operators.{decode_word}
use Rattle.um_word.specs.State.{State, platter, reg, with_reg, with_array}
use Rattle.um_word.specs.Table.{Fault, Next, Goes, Stops, with_some, within, quotient, with_byte, row, moved, cycle, op_under, arrays_after_allocation, words_after_allocation, words_after_load}
use Rattle.um_word.specs.Table as table
use Rattle.um_word.specs.Run.{Standing, Stands, Failed, run_after, run_by, going_on, ids_left}
use Rattle.um_word.specs.Rule.{Identifiers, identifiers_left, left_by}
use Rattle.um_word.specs.Loads.{state_in}
use Rattle.um_word.specs.EveryRun.{written_first, standing_behind, OutputsAreBehind, IsBeginning, OutputsGrow}
use Rattle.um_word.proofs.Runs.{runs_compose}

abbrev pub next_behind : List ℕ → Next → Next
next_behind h (Goes t) = Goes (written_first h t)
next_behind h (Stops fault) = Stops fault

some_alike : {A : Type 0} (h : List ℕ) (o : Option A) (fault : Fault) (go went : A → Next) → ((x : A) → went x ≡ next_behind h (go x)) →
    with_some o fault went ≡ next_behind h (with_some o fault go)
some_alike h None fault go went e = refl
some_alike h (Some x) fault go went e = e x

if_alike : (h : List ℕ) (b : Bool) (x y u v : Next) → x ≡ next_behind h u → y ≡ next_behind h v →
    (if b then x else y) ≡ next_behind h (if b then u else v)
if_alike h true x y u v e f = e
if_alike h false x y u v e f = f

goes_alike : (h : List ℕ) (b : Bool) (s t : State) → Goes (if b then written_first h s else written_first h t) ≡ next_behind h (Goes (if b then s else t))
goes_alike h true s t = refl
goes_alike h false s t = refl

input_alike : (h : List ℕ) (c : ℕ) (rest : List ℕ) (s : State) → with_byte c rest (written_first h s) ≡ written_first h (with_byte c rest s)
input_alike h c [] s = refl
input_alike h c (byte ∷ rest) s = refl

row_alike : (h : List ℕ) (op : Op) (L : Limits) (id : ℕ) (s : State) → row op L id (written_first h s) ≡ next_behind h (row op L id s)
row_alike h (Move a b c) L id s = goes_alike h (reg s c == 0) s (with_reg s a (reg s b))
row_alike h (Index a b c) L id s =
    some_alike h (map.get s.arrays (reg s b)) table.IndexInactive
    (λ words. with_some (slice_get words (reg s c)) table.IndexOutside (λ word. Goes (with_reg s a word)))
    (λ words. with_some (slice_get words (reg s c)) table.IndexOutside (λ word. Goes (with_reg (written_first h s) a word)))
    (λ words. some_alike h (slice_get words (reg s c)) table.IndexOutside (λ word. Goes (with_reg s a word)) (λ word. Goes (with_reg (written_first h s) a word)) (λ word. refl))
row_alike h (Amend a b c) L id s =
    some_alike h (map.get s.arrays (reg s a)) table.AmendInactive
    (λ words. with_some (slice_get words (reg s b)) table.AmendOutside (λ _. Goes (with_array s (reg s a) (slice_set words (reg s b) (reg s c)))))
    (λ words. with_some (slice_get words (reg s b)) table.AmendOutside (λ _. Goes (with_array (written_first h s) (reg s a) (slice_set words (reg s b) (reg s c)))))
    (λ words. some_alike h (slice_get words (reg s b)) table.AmendOutside
    (λ _. Goes (with_array s (reg s a) (slice_set words (reg s b) (reg s c))))
    (λ _. Goes (with_array (written_first h s) (reg s a) (slice_set words (reg s b) (reg s c)))) (λ _. refl))
row_alike h (Add a b c) L id s = refl
row_alike h (Mul a b c) L id s = refl
row_alike h (Div a b c) L id s =
    some_alike h (quotient (reg s b) (reg s c)) table.DivideByZero (λ q. Goes (with_reg s a q)) (λ q. Goes (with_reg (written_first h s) a q)) (λ q. refl)
row_alike h (Nand a b c) L id s = refl
row_alike h Halt L id s = refl
row_alike h (Alloc b c) L id s = if_alike h (nat_le (arrays_after_allocation s) L.arrays) _ _ _ _ (if_alike h (nat_le (words_after_allocation s (reg s c)) L.words) _ _ _ _ refl refl) refl
row_alike h (Abandon c) L id s =
    if_alike h (reg s c == 0) _ _ _ _ refl
    (some_alike h (map.get s.arrays (reg s c)) table.AbandonInactive
    (λ _. Goes (record s { arrays = map.remove s.arrays (reg s c) })) (λ _. Goes (record (written_first h s) { arrays = map.remove s.arrays (reg s c) })) (λ _. refl))
row_alike h (Out c) L id s =
    if_alike h (nat_lt (reg s c) 256) _ _ _ _ (ap (λ bytes. Goes (record s { out = bytes })) (append_assoc h s.out (reg s c ∷ []))) refl
row_alike h (Input c) L id s = ap Goes (input_alike h c s.rest s)
row_alike h (Load b c) L id s =
    if_alike h (reg s b == 0) _ _ _ _ refl
    (some_alike h (map.get s.arrays (reg s b)) table.LoadInactive
    (λ words. within L.words (words_after_load s words) table.WordsFull (Goes (record (with_array s 0 words) { finger = reg s c })))
    (λ words. within L.words (words_after_load s words) table.WordsFull (Goes (record (with_array (written_first h s) 0 words) { finger = reg s c })))
    (λ words. if_alike h (nat_le (words_after_load s words) L.words) _ _ _ _ refl refl))
row_alike h (Set a value) L id s = refl

pub cycle_behind : (h : List ℕ) (s : State) (L : Limits) (id : ℕ) → cycle (written_first h s) L id ≡ next_behind h (cycle s L id)
cycle_behind h s L id =
    some_alike h (platter s) table.FingerOutside
    (λ word. with_some (decode_word word) table.BadOperator (λ op. row op L id (moved s)))
    (λ word. with_some (decode_word word) table.BadOperator (λ op. row op L id (moved (written_first h s))))
    (λ word. some_alike h (decode_word word) table.BadOperator (λ op. row op L id (moved s)) (λ op. row op L id (moved (written_first h s))) (λ op. row_alike h op L id (moved s)))

after_alike : {I : Type 0} (h : List ℕ) (r : Next) (s : State) (i : I) (go went : State → Standing I) → ((t : State) → went (written_first h t) ≡ standing_behind h (go t)) →
    run_after (next_behind h r) (written_first h s) i went ≡ standing_behind h (run_after r s i go)
after_alike h (Goes t) s i go went e = e t
after_alike h (Stops fault) s i go went e = refl

halt_alike : {I : Type 0} (h : List ℕ) (b : Bool) (s : State) (i : I) (x y : Standing I) → x ≡ standing_behind h y →
    (if b then Stands (written_first h s) i else x) ≡ standing_behind h (if b then Stands s i else y)
halt_alike h true s i x y e = refl
halt_alike h false s i x y e = e

-- what is left of the identifiers doesn't depend on the output
abbrev pub IsBlind : {I : Type 0} → (State → I → I) → Type 0
IsBlind {I} left = (h : List ℕ) (s : State) (i : I) → left (written_first h s) i ≡ left s i

left_alike : (h : List ℕ) (op : Option Op) (s : State) (i : Identifiers) → left_by op (written_first h s) i ≡ left_by op s i
left_alike h (Some (Abandon c)) s i = refl
left_alike h _ s i = refl

pub rule_is_blind : IsBlind identifiers_left
rule_is_blind h s i = left_alike h (op_under s) s i

pub list_is_blind : IsBlind ids_left
list_is_blind h s ids = refl

module _ {I : Type 0} (offer : I → ℕ) (left : State → I → I) (blind : IsBlind left) where
  behind : (h : List ℕ) (L : Limits) (n : ℕ) (i : I) (s : State) → run_by offer left L n i (written_first h s) ≡ standing_behind h (run_by offer left L n i s)
  behind h L zero i s = refl
  behind h L (suc n) i s =
      halt_alike h s.halted s i
      (run_after (cycle (written_first h s) L (offer i)) (written_first h s) i (run_by offer left L n (left (written_first h s) i)))
      (run_after (cycle s L (offer i)) s i (run_by offer left L n (left s i)))
      (ap (λ r. run_after r (written_first h s) i (run_by offer left L n (left (written_first h s) i))) (cycle_behind h s L (offer i))
      ∙ ap (λ j. run_after (next_behind h (cycle s L (offer i))) (written_first h s) i (run_by offer left L n j)) (blind h s i)
      ∙ after_alike h (cycle s L (offer i)) s i (run_by offer left L n (left s i)) (run_by offer left L n (left s i)) (λ t. behind h L n (left s i) t))

  -- a run writes behind what was written
  out_behind : (h : List ℕ) (x : Standing I) → (state_in (standing_behind h x)).out ≡ h ++ (state_in x).out
  out_behind h (Stands t i) = refl
  out_behind h (Failed t i fault) = refl

  one_grows : (L : Limits) (n : ℕ) (i : I) (s : State) → IsBeginning s.out (state_in (run_by offer left L n i s)).out
  one_grows L n i s =
      let blank : State = record s { out = [] } in
      let e : s ≡ written_first s.out blank = ap (λ bytes. record s { out = bytes }) (sym (append-nil s.out)) in (
        (state_in (run_by offer left L n i blank)).out,
        ap (λ t. (state_in (run_by offer left L n i t)).out) e
            ∙ ap (λ x. (state_in x).out) (behind s.out L n i blank)
            ∙ out_behind s.out (run_by offer left L n i blank),
      )

  goes_on : (L : Limits) (m : ℕ) (x : Standing I) → IsBeginning (state_in x).out (state_in (going_on x (λ t j. run_by offer left L m j t))).out
  goes_on L m (Stands t i) = one_grows L m i t
  goes_on L m (Failed t i fault) = ([], sym (append-nil t.out))

  grow : (L : Limits) (n m : ℕ) (i : I) (s : State) → IsBeginning (state_in (run_by offer left L n i s)).out (state_in (run_by offer left L (n + m) i s)).out
  grow L n m i s =
      let g = goes_on L m (run_by offer left L n i s) in
      (g.0, ap (λ x. (state_in x).out) (runs_compose offer left L n m i s) ∙ g.1)

pub outputs_are_behind : {I : Type 0} (offer : I → ℕ) (left : State → I → I) → IsBlind left → OutputsAreBehind offer left
outputs_are_behind offer left blind h L n i s = behind offer left blind h L n i s

pub outputs_grow : {I : Type 0} (offer : I → ℕ) (left : State → I → I) → IsBlind left → OutputsGrow offer left
outputs_grow offer left blind L n m i s = grow offer left blind L n m i s
