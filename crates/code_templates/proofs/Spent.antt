-- What a run has spent never falls, so a bound at the end of a stretch holds all along.
use Rattle.std.proofs.Common.{◌≡◌, ◌≢◌, ℕ, zero, suc, ◌+◌, ◌-◌, ◌≤◌, ◌⊎◌, inl, inr, Bool, true, false, List, [], ◌∷◌, ◌++◌, length, replicate, Option, Some, None, refl, sym, ap, ◌∙◌, arith, length-set}
use Rattle.std.proofs.lemmas.List.{append_assoc, append-nil}
use Rattle.std.specs.Prelude.{if◌then◌else◌, ◌==◌, nat_lt, slice_get, slice_set, unwrap_or}
use Rattle.std.specs.FinMap as map
use Rattle.std.proofs.lemmas.Bool.{cases_eq}
use Rattle.um_word.specs.declared.op.Op.{Op}
use Rattle.um_word.specs.declared.op.Op.TheVariants.{Move, Index, Amend, Add, Mul, Div, Nand, Halt, Alloc, Abandon, Out, Input, Load, Set}
use Rattle.um_word.specs.Operators.{decode_word}
use Rattle.um_word.specs.State.{State, Arrays, array_at, live_arrays, live_words, reg, with_reg, with_array, platter}
use Rattle.um_word.specs.Table.{Fault, FingerOutside, BadOperator, IndexInactive, IndexOutside, AmendInactive, AmendOutside, LoadInactive, DivideByZero, OutputTooLarge, Next, Goes, Stops, with_some, moved, quotient, op_of, op_under}
use Rattle.um_word.specs.Run.{is_allocation}
use Rattle.um_word.specs.Free.{free_row, free_cycle}
use Rattle.um_word.specs.Loads.{Loads, next_load}
use Rattle.um_word.specs.Leads.{IsNew, OnGoing, Leads}
use Rattle.um_word.proofs.Arrays.{get-insert_same, get-insert_other, len-insert_new, len-insert_old}
use Rattle.um_word.proofs.Live.{live_words-insert_new, live_words-insert_old, length_within_live}
use Rattle.code_templates.specs.Lines.{IsOwn}
use Rattle.code_templates.specs.inner.Spent.{words_beside, spent}
use Rattle.code_templates.proofs.Fresh.{some_new}

abbrev pub HasZero : State → Type 0
HasZero s = (words : List ℕ) × (map.get s.arrays 0 ≡ Some words)

-- the next state has array 0, nothing less is spent, and what was written stays
abbrev pub Rises : State → State → Type 0
Rises s t = HasZero t × (spent s ≤ spent t) × ((more : List ℕ) × (t.out ≡ s.out ++ more))

same_out : (out : List ℕ) → (more : List ℕ) × (out ≡ out ++ more)
same_out out = ([], sym (append-nil out))

abbrev pub OnNext : Next → (State → Type 0) → Type 0
OnNext (Goes t) P = P t
OnNext (Stops fault) P = Unit {0}

pub if_goes : (b : Bool) (x y : Next) (P : State → Type 0) → OnNext x P → OnNext y P → OnNext (if b then x else y) P
if_goes true x y P h k = h
if_goes false x y P h k = k

pub some_goes : {A : Type 0} (o : Option A) (fault : Fault) (go : A → Next) (P : State → Type 0) → ((x : A) → o ≡ Some x → OnNext (go x) P) → OnNext (with_some o fault go) P
some_goes None fault go P h = tt
some_goes (Some x) fault go P h = h x refl

pick : (b : Bool) (s t : State) (P : State → Type 0) → P s → P t → P (if b then s else t)
pick true s t P h k = h
pick false s t P h k = k

pub length_zero : (m : Arrays) (ws : List ℕ) → map.get m 0 ≡ Some ws → length (array_at m 0) ≡ length ws
length_zero m ws e = ap (λ o. length (unwrap_or o [])) e

-- an array gets words of the same length
pub same_length : (m : Arrays) (z : List ℕ) (k : ℕ) (vs ws : List ℕ) → map.get m 0 ≡ Some z → map.get m k ≡ Some vs → length ws ≡ length vs →
    ((x : List ℕ) × (map.get (map.insert m k ws) 0 ≡ Some x)) × (live_arrays (map.insert m k ws) ≡ live_arrays m) × (words_beside (map.insert m k ws) ≡ words_beside m)
same_length m z k vs ws ez ek long = by_key (cases_eq 0 k)
  where
    live : live_words (map.insert m k ws) + length vs ≡ live_words m + length ws
    live = live_words-insert_old m k vs ws ek

    arrays : live_arrays (map.insert m k ws) ≡ live_arrays m
    arrays = ap (λ n. n - 1) (len-insert_old m k ws vs ek)

    by_key : (0 ≡ k) ⊎ (0 ≢ k) → ((x : List ℕ) × (map.get (map.insert m k ws) 0 ≡ Some x)) × (live_arrays (map.insert m k ws) ≡ live_arrays m) × (words_beside (map.insert m k ws) ≡ words_beside m)
    by_key (inl e) =
        let there : map.get (map.insert m k ws) 0 ≡ Some ws = ap (map.get (map.insert m k ws)) e ∙ get-insert_same m k ws in
        let a = length_zero (map.insert m k ws) ws there in
        let b = length_zero m vs (ap (map.get m) e ∙ ek) in
        ((ws, there), arrays, omega (arith, a, b, live, long))
    by_key (inr ne) =
        let there : map.get (map.insert m k ws) 0 ≡ Some z = get-insert_other m k ws 0 ne ∙ ez in
        let a = length_zero (map.insert m k ws) z there in
        let b = length_zero m z ez in
        ((z, there), arrays, omega (arith, a, b, live, long))

row_rises : (op : Op) (id : ℕ) (s : State) → IsOwn (Some op) → HasZero s → (is_allocation (Some op) ≡ true → IsNew s.arrays id) → OnNext (free_row op id (moved s)) (Rises s)
row_rises (Set a value) id s own z new = (z, omega arith, same_out s.out)
row_rises (Move a b c) id s own z new = pick (reg s c == 0) (moved s) (with_reg (moved s) a (reg s b)) (Rises s) (z, omega arith, same_out s.out) (z, omega arith, same_out s.out)
row_rises (Add a b c) id s own z new = (z, omega arith, same_out s.out)
row_rises (Mul a b c) id s own z new = (z, omega arith, same_out s.out)
row_rises (Nand a b c) id s own z new = (z, omega arith, same_out s.out)
row_rises (Div a b c) id s own z new =
    some_goes (quotient (reg s b) (reg s c)) DivideByZero (λ q. Goes (with_reg (moved s) a q)) (Rises s) (λ q e. (z, omega arith, same_out s.out))
row_rises Halt id s own z new = (z, omega arith, same_out s.out)
row_rises (Out c) id s own z new =
    if_goes (nat_lt (reg s c) 256) (Goes (record (moved s) { out = s.out ++ reg s c ∷ [] })) (Stops OutputTooLarge) (Rises s) (z, omega arith, (reg s c ∷ [], refl)) tt
row_rises (Index a b c) id s own z new =
    some_goes (map.get s.arrays (reg s b)) IndexInactive (λ words. with_some (slice_get words (reg s c)) IndexOutside (λ word. Goes (with_reg (moved s) a word))) (Rises s) (λ words e.
    some_goes (slice_get words (reg s c)) IndexOutside (λ word. Goes (with_reg (moved s) a word)) (Rises s) (λ word f. (z, omega arith, same_out s.out)))
row_rises (Amend a b c) id s own z new =
    let go : List ℕ → Next = λ words. Goes (with_array (moved s) (reg s a) (slice_set words (reg s b) (reg s c))) in
    some_goes (map.get s.arrays (reg s a)) AmendInactive (λ words. with_some (slice_get words (reg s b)) AmendOutside (λ _. go words)) (Rises s) (λ words e.
    some_goes (slice_get words (reg s b)) AmendOutside (λ _. go words) (Rises s) (λ word f.
    let same = same_length s.arrays z.0 (reg s a) words (slice_set words (reg s b) (reg s c)) z.1 e (length-set words (reg s b) (reg s c)) in
    let x = same.1 in
    let y = same.2 in
    (same.0, omega (arith, x, y), same_out s.out)))
row_rises (Alloc b c) id s own z new =
    let n = new refl in
    let ws : List ℕ = replicate (reg s c) 0 in
    let ne : 0 ≢ id = λ e. n.not_zero (sym e) in
    let there : map.get (map.insert s.arrays id ws) 0 ≡ Some z.0 = get-insert_other s.arrays id ws 0 ne ∙ z.1 in
    let a = length_zero (map.insert s.arrays id ws) z.0 there in
    let b = length_zero s.arrays z.0 z.1 in
    let live = live_words-insert_new s.arrays id ws n.absent in
    let count = len-insert_new s.arrays id ws n.absent in
    let within = length_within_live s.arrays 0 z.0 z.1 in
    ((z.0, there), omega (arith, a, b, live, count, within), same_out s.out)
row_rises (Load b c) id s own z new =
    let go : List ℕ → Next = λ words. Goes (record (with_array (moved s) 0 words) { finger = reg s c }) in
    if_goes (reg s b == 0) (Goes (record (moved s) { finger = reg s c })) (with_some (map.get s.arrays (reg s b)) LoadInactive go) (Rises s) (z, omega arith, same_out s.out)
    (some_goes (map.get s.arrays (reg s b)) LoadInactive go (Rises s) (λ words e.
    let there : map.get (map.insert s.arrays 0 words) 0 ≡ Some words = get-insert_same s.arrays 0 words in
    let a = length_zero (map.insert s.arrays 0 words) words there in
    let b = length_zero s.arrays z.0 z.1 in
    let live = live_words-insert_old s.arrays 0 z.0 words z.1 in
    let count = len-insert_old s.arrays 0 words z.0 z.1 in
    let within = length_within_live s.arrays 0 z.0 z.1 in
    ((words, there), omega (arith, a, b, live, count, within), same_out s.out)))
row_rises (Abandon c) id s own z new = absurd own
row_rises (Input c) id s own z new = absurd own

decoded_rises : (op : Option Op) (id : ℕ) (s : State) → IsOwn op → HasZero s → (is_allocation op ≡ true → IsNew s.arrays id) →
    OnNext (with_some op BadOperator (λ op. free_row op id (moved s))) (Rises s)
decoded_rises None id s own z new = tt
decoded_rises (Some op) id s own z new = row_rises op id s own z new

fetched_rises : (word : Option ℕ) (id : ℕ) (s : State) → IsOwn (op_of word) → HasZero s → (is_allocation (op_of word) ≡ true → IsNew s.arrays id) →
    OnNext (with_some word FingerOutside (λ word. with_some (decode_word word) BadOperator (λ op. free_row op id (moved s)))) (Rises s)
fetched_rises None id s own z new = tt
fetched_rises (Some word) id s own z new = decoded_rises (decode_word word) id s own z new

pub cycle_rises : (id : ℕ) (s : State) → IsOwn (op_under s) → HasZero s → (is_allocation (op_under s) ≡ true → IsNew s.arrays id) → OnNext (free_cycle s id) (Rises s)
cycle_rises id s own z new = fetched_rises (platter s) id s own z new

from_next : (next : Next) (s : State) (P : State → Type 0) (A : Type 0) → OnNext next (Rises s) → OnGoing next P → ((t : State) → Rises s t → P t → A) → A
from_next (Goes t) s P A r p f = f t r p
from_next (Stops fault) s P A r p f = absurd p

pub with_next : (next : Next) (s : State) (P Q : State → Type 0) → OnNext next (Rises s) → OnGoing next P → ((t : State) → Rises s t → P t → Q t) → OnGoing next Q
with_next (Goes t) s P Q r p f = f t r p
with_next (Stops fault) s P Q r p f = p

-- What holds at the end of a stretch and is handed back from a state to the one before it, holds all along.
module _ (I Q : State → Loads → Type 0) (own : (t : State) (k : Loads) → I t k → IsOwn (op_under t)) (P : State → Type 0)
    (back : (s t : State) → Rises s t → P t → P s) (at_end : (t : State) (k : Loads) → Q t k → P t) where
  pub at_begin : (n : ℕ) (s : State) (l : Loads) → HasZero s → Leads I n Q s l → P s
  unfolding Leads
  at_begin zero s l z h = at_end s l h
  at_begin (suc n) s l z h =
      let id = some_new s.arrays in
      from_next (free_cycle s id.0) s (λ t. Leads I n Q t (l ++ next_load s)) (P s)
      (cycle_rises id.0 s (own s l h.1) z (λ a. id.1)) (h.2 id.0 (λ a. id.1))
      (λ t r p. back s t r (at_begin n t (l ++ next_load s) r.0 p))

  pub all_along : (n : ℕ) (s : State) (l : Loads) → HasZero s → Leads I n Q s l → Leads (λ t k. I t k × P t) n Q s l
  unfolding Leads
  all_along zero s l z h = h
  all_along (suc n) s l z h = (
    h.0,
    (h.1, at_begin (suc n) s l z h),
    λ id new.
        with_next (free_cycle s id) s (λ t. Leads I n Q t (l ++ next_load s)) (λ t. Leads (λ t k. I t k × P t) n Q t (l ++ next_load s))
        (cycle_rises id s (own s l h.1) z new) (h.2 id new) (λ t r p. all_along n t (l ++ next_load s) r.0 p),
  )

-- a bound on what is spent, and what the output is a prefix of
pub spent_back : (bound : ℕ) (s t : State) → Rises s t → spent t ≤ bound → spent s ≤ bound
spent_back bound s t r h = let le = r.1 in omega (arith, le, h)

pub prefix_back : (text : List ℕ) (s t : State) → Rises s t → (rest : List ℕ) × (t.out ++ rest ≡ text) → (rest : List ℕ) × (s.out ++ rest ≡ text)
prefix_back text s t r h =
    (r.2.0 ++ h.0, sym (append_assoc s.out r.2.0 h.0) ∙ ap (λ o. o ++ h.0) (sym r.2.1) ∙ h.1)
