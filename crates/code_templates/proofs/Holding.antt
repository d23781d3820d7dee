-- How what is held changes with the arrays, and how cycles are counted.
use Rattle.std.proofs.Common.{◌≡◌, ℕ, zero, suc, ◌+◌, ◌*◌, ◌≤◌, List, length, Option, Some, None, refl, sym, ◌∙◌, subst, arith, zero-add, length-append}
use Rattle.std.specs.Prelude.{Bool, true, false, ◌==◌, nat_lt, if◌then◌else◌, slice_get, slice_set, ◌++◌, [], ◌∷◌}
use Rattle.std.specs.FinMap as map
use Rattle.um_word.specs.declared.op.Op.{Op}
use Rattle.um_word.specs.declared.op.Op.TheVariants.{Move, Index, Amend, Add, Mul, Div, Nand, Halt, Alloc, Abandon, Out, Input, Load, Set}
use Rattle.um_word.specs.Operators.{decode_word}
use Rattle.um_word.specs.State.{State, Arrays, array_at, reg, with_reg, with_array, platter}
use Rattle.um_word.specs.Table.{FingerOutside, BadOperator, IndexInactive, IndexOutside, AmendInactive, AmendOutside, AbandonZero, AbandonInactive, LoadInactive, DivideByZero, OutputTooLarge, Next, Goes, Stops, with_some, with_byte, moved, quotient, op_under}
use Rattle.um_word.specs.Free.{free_row, free_cycle}
use Rattle.um_word.specs.Loads.{Loaded, Loads, load_by, next_load}
use Rattle.um_word.specs.Leads.{IsNew, OnGoing, Leads}
use Rattle.um_word.proofs.Leading.{on_going}
use Rattle.um_word.proofs.Arrays.{get-insert_same, get-insert_other, len-insert_new, len-insert_old}
use Rattle.um_word.proofs.Live.{live_words-insert_new, live_words-insert_old, length_within_live}
use Rattle.code_templates.specs.inner.Spent.{held, spent}
use Rattle.code_templates.proofs.Spent.{length_zero, same_length, OnNext, if_goes, some_goes}

pub spent_is : (s : State) → spent s ≡ s.cycles + held s.arrays
unfolding held
spent_is s = omega arith

-- an array gets words of the same length
pub held_set : (m : Arrays) (z : List ℕ) (k : ℕ) (vs ws : List ℕ) → map.get m 0 ≡ Some z → map.get m k ≡ Some vs → length ws ≡ length vs → held (map.insert m k ws) ≡ held m
unfolding held
held_set m z k vs ws ez ek long =
    let same = same_length m z k vs ws ez ek long in
    let x = same.1 in
    let y = same.2 in
    omega (arith, x, y)

-- there is a new array
pub held_new : (m : Arrays) (z : List ℕ) (k : ℕ) (ws : List ℕ) → map.get m 0 ≡ Some z → IsNew m k → held (map.insert m k ws) ≡ held m + 64 + 4 * length ws
unfolding held
held_new m z k ws ez new =
    let there : map.get (map.insert m k ws) 0 ≡ Some z = get-insert_other m k ws 0 (λ e. new.not_zero (sym e)) ∙ ez in
    let a = length_zero (map.insert m k ws) z there in
    let b = length_zero m z ez in
    let live = live_words-insert_new m k ws new.absent in
    let count = len-insert_new m k ws new.absent in
    let within = length_within_live m 0 z ez in
    let positive = Rattle.um_word.proofs.Live.len_positive m 0 z ez in
    omega (arith, a, b, live, count, within, positive)

-- array 0 gets other words
pub held_zero : (m : Arrays) (z ws : List ℕ) → map.get m 0 ≡ Some z → held (map.insert m 0 ws) ≡ held m
unfolding held
held_zero m z ws ez =
    let there : map.get (map.insert m 0 ws) 0 ≡ Some ws = get-insert_same m 0 ws in
    let a = length_zero (map.insert m 0 ws) ws there in
    let b = length_zero m z ez in
    let live = live_words-insert_old m 0 z ws ez in
    let count = len-insert_old m 0 ws z ez in
    let within = length_within_live m 0 z ez in
    omega (arith, a, b, live, count, within)

abbrev OneMore : State → State → Type 0
OneMore s t = t.cycles ≡ s.cycles + 1

pick : (b : Bool) (s t : State) (P : State → Type 0) → P s → P t → P (if b then s else t)
pick true s t P h k = h
pick false s t P h k = k

input_counts : (c : ℕ) (rest : List ℕ) (s : State) → OneMore s (with_byte c rest (moved s))
input_counts c [] s = refl
input_counts c (byte ∷ rest) s = refl

row_counts : (op : Op) (id : ℕ) (s : State) → OnNext (free_row op id (moved s)) (OneMore s)
row_counts (Set a value) id s = refl
row_counts (Move a b c) id s = pick (reg s c == 0) (moved s) (with_reg (moved s) a (reg s b)) (OneMore s) refl refl
row_counts (Add a b c) id s = refl
row_counts (Mul a b c) id s = refl
row_counts (Nand a b c) id s = refl
row_counts (Div a b c) id s = some_goes (quotient (reg s b) (reg s c)) DivideByZero (λ q. Goes (with_reg (moved s) a q)) (OneMore s) (λ q e. refl)
row_counts Halt id s = refl
row_counts (Out c) id s = if_goes (nat_lt (reg s c) 256) (Goes (record (moved s) { out = s.out ++ reg s c ∷ [] })) (Stops OutputTooLarge) (OneMore s) refl tt
row_counts (Index a b c) id s =
    some_goes (map.get s.arrays (reg s b)) IndexInactive (λ words. with_some (slice_get words (reg s c)) IndexOutside (λ word. Goes (with_reg (moved s) a word))) (OneMore s) (λ words e.
    some_goes (slice_get words (reg s c)) IndexOutside (λ word. Goes (with_reg (moved s) a word)) (OneMore s) (λ word f. refl))
row_counts (Amend a b c) id s =
    let go : List ℕ → Next = λ words. Goes (with_array (moved s) (reg s a) (slice_set words (reg s b) (reg s c))) in
    some_goes (map.get s.arrays (reg s a)) AmendInactive (λ words. with_some (slice_get words (reg s b)) AmendOutside (λ _. go words)) (OneMore s) (λ words e.
    some_goes (slice_get words (reg s b)) AmendOutside (λ _. go words) (OneMore s) (λ word f. refl))
row_counts (Alloc b c) id s = refl
row_counts (Load b c) id s =
    let go : List ℕ → Next = λ words. Goes (record (with_array (moved s) 0 words) { finger = reg s c }) in
    if_goes (reg s b == 0) (Goes (record (moved s) { finger = reg s c })) (with_some (map.get s.arrays (reg s b)) LoadInactive go) (OneMore s) refl
    (some_goes (map.get s.arrays (reg s b)) LoadInactive go (OneMore s) (λ words e. refl))
row_counts (Abandon c) id s =
    let go : List ℕ → Next = λ _. Goes (record (moved s) { arrays = map.remove s.arrays (reg s c) }) in
    if_goes (reg s c == 0) (Stops AbandonZero) (with_some (map.get s.arrays (reg s c)) AbandonInactive go) (OneMore s) tt
    (some_goes (map.get s.arrays (reg s c)) AbandonInactive go (OneMore s) (λ words e. refl))
row_counts (Input c) id s = input_counts c s.rest s

decoded_counts : (op : Option Op) (id : ℕ) (s : State) → OnNext (with_some op BadOperator (λ op. free_row op id (moved s))) (OneMore s)
decoded_counts None id s = tt
decoded_counts (Some op) id s = row_counts op id s

fetched_counts : (word : Option ℕ) (id : ℕ) (s : State) → OnNext (with_some word FingerOutside (λ word. with_some (decode_word word) BadOperator (λ op. free_row op id (moved s)))) (OneMore s)
fetched_counts None id s = tt
fetched_counts (Some word) id s = decoded_counts (decode_word word) id s

with_count : (next : Next) (s : State) (P Q : State → Type 0) → OnNext next (OneMore s) → OnGoing next P → ((t : State) → OneMore s t → P t → Q t) → OnGoing next Q
with_count (Goes t) s P Q r p f = f t r p
with_count (Stops fault) s P Q r p f = p

-- n cycles are counted
module _ (I Q : State → Loads → Type 0) (begin : ℕ) where
  count_from : (n m : ℕ) (s : State) (l : Loads) → s.cycles ≡ begin + m → Leads I n Q s l → Leads I n (λ t k. Q t k × (t.cycles ≡ begin + (m + n))) s l
  unfolding Leads
  count_from zero m s l e h = (h, omega (arith, e))
  count_from (suc n) m s l e h = (
    h.0,
    h.1,
    λ id new.
        with_count (free_cycle s id) s (λ t. Leads I n Q t (l ++ next_load s)) (λ t. Leads I n (λ t k. Q t k × (t.cycles ≡ begin + (m + suc n))) t (l ++ next_load s))
        (fetched_counts (platter s) id s) (h.2 id new)
        (λ t r p. let c : (m + 1) + n ≡ m + suc n = omega arith in
        rw (sym c) (count_from n (m + 1) t (l ++ next_load s) (omega (arith, r, e)) p)),
  )

pub counted : (I Q : State → Loads → Type 0) (n : ℕ) (s : State) (l : Loads) → Leads I n Q s l → Leads I n (λ t k. Q t k × (t.cycles ≡ s.cycles + n)) s l
counted I Q n s l h =
    subst (λ m. Leads I n (λ t k. Q t k × (t.cycles ≡ s.cycles + m)) s l) (zero-add n) (count_from I Q s.cycles n 0 s l (omega arith) h)

-- a cycle makes at most one load
pub one_load : (o : Option Op) (s : State) → length (load_by o s) ≤ 1
one_load (Some (Load b c)) s = by_zero (reg s b == 0)
  where
    by_zero : (z : Bool) → length {A = Loaded} (if z then [] else record { words = array_at s.arrays (reg s b); offset = reg s c } ∷ []) ≤ 1
    by_zero true = omega arith
    by_zero false = omega arith
one_load None s = omega arith
one_load (Some (Move a b c)) s = omega arith
one_load (Some _) s = omega arith

module _ (I Q : State → Loads → Type 0) (begin : ℕ) where
  loads_from : (n m : ℕ) (s : State) (l : Loads) → length l ≤ begin + m → Leads I n Q s l → Leads I n (λ t k. Q t k × (length k ≤ begin + (m + n))) s l
  unfolding Leads
  loads_from zero m s l e h = (h, omega (arith, e))
  loads_from (suc n) m s l e h = (
    h.0,
    h.1,
    λ id new.
        on_going (free_cycle s id) (λ t. Leads I n Q t (l ++ next_load s)) (λ t. Leads I n (λ t k. Q t k × (length k ≤ begin + (m + suc n))) t (l ++ next_load s))
        (λ t p. let c : (m + 1) + n ≡ m + suc n = omega arith in
        let one = one_load (op_under s) s in
        let all = length-append l (next_load s) in
        rw (sym c) (loads_from n (m + 1) t (l ++ next_load s) (omega (arith, one, all, e)) p)) (h.2 id new),
  )

pub loads_counted : (I Q : State → Loads → Type 0) (n : ℕ) (s : State) (l : Loads) → Leads I n Q s l → Leads I n (λ t k. Q t k × (length k ≤ length l + n)) s l
loads_counted I Q n s l h =
    subst (λ m. Leads I n (λ t k. Q t k × (length k ≤ length l + m)) s l) (zero-add n) (loads_from I Q (length l) n 0 s l (omega arith) h)
