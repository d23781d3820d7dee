-- The number that a limit's fault carries is a count of the next state.
use Rattle.std.proofs.Common.{◌≡◌, ℕ, ◌+◌, ◌⊎◌, inl, inr, Bool, true, false, List, [], ◌∷◌, length, replicate, Option, Some, None, refl, subst, arith}
use Rattle.std.specs.Prelude.{if◌then◌else◌, ◌==◌, nat_le}
use Rattle.std.specs.FinMap as map
use Rattle.std.proofs.lemmas.List.{length-replicate}
use Rattle.umix_base.specs.declared.limits.Limits.{Limits}
use Rattle.um_word.specs.declared.op.Op.{Op}
use Rattle.um_word.specs.declared.op.Op.TheVariants.{Move, Alloc, Load}
use Rattle.um_word.specs.Operators.{decode_word}
use Rattle.um_word.specs.State.{State, array_at, live_arrays, live_words, reg, with_reg, with_array, platter}
use Rattle.um_word.specs.Table.{Fault, FingerOutside, BadOperator, LoadInactive, ArraysFull, WordsFull, Next, Goes, Stops, with_some, moved, op_of, op_under, arrays_after_allocation, words_after_allocation, words_after_load}
use Rattle.um_word.specs.Run.{is_allocation}
use Rattle.um_word.specs.Free.{free_row, free_cycle, over_load, limit_met, limit_by, limit_at}
use Rattle.um_word.specs.Loads.{Loads, load_by, next_load}
use Rattle.um_word.specs.Leads.{IsNew, OnGoing}
use Rattle.um_word.proofs.Arrays.{get-insert_same, len-insert_new}
use Rattle.um_word.proofs.Live.{live_words-insert_new, len_positive}
use Rattle.code_templates.specs.inner.Spent.{words_beside}
use Rattle.code_templates.proofs.Fresh.{some_new}
use Rattle.code_templates.proofs.Spent.{HasZero, OnNext, length_zero}

-- Either nothing is loaded or written, and the number is that of the arrays or words of the next state; or words are loaded, and the number
-- is that of the words beside array 0 and of these.
abbrev pub IsCount : Fault → Loads → State → State → Type 0
IsCount (ArraysFull count) loads s t = (loads ≡ []) × (t.out ≡ s.out) × (count ≡ live_arrays t.arrays)
IsCount (WordsFull count) loads s t =
    ((loads ≡ []) × (t.out ≡ s.out) × (count ≡ live_words t.arrays)) ⊎ (count ≡ words_beside s.arrays + length (array_at t.arrays 0))
IsCount _ loads s t = ⊥

alloc_over : (a b : Bool) (fault : Fault) (arrays words : ℕ) (C : Fault → Type 0) → C (ArraysFull arrays) → C (WordsFull words) →
    (if a then (if b then None else Some (WordsFull words)) else Some (ArraysFull arrays)) ≡ Some fault → C fault
alloc_over true true fault arrays words C x y e = absurd (cc)
alloc_over true false fault arrays words C x y e = let same : WordsFull words ≡ fault = cc in subst C same y
alloc_over false b fault arrays words C x y e = let same : ArraysFull arrays ≡ fault = cc in subst C same x

load_over : (a : Bool) (fault : Fault) (words : ℕ) (C : Fault → Type 0) → C (WordsFull words) → (if a then None else Some (WordsFull words)) ≡ Some fault → C fault
load_over true fault words C y e = absurd (cc)
load_over false fault words C y e = let same : WordsFull words ≡ fault = cc in subst C same y

no_limit : (fault : Fault) (A : Type 0) → None ≡ Some fault → A
no_limit fault A e = absurd (let x : None ≡ Some fault = e in cc)

row_counts : (op : Op) (L : Limits) (id : ℕ) (s : State) (fault : Fault) → HasZero s → (is_allocation (Some op) ≡ true → IsNew s.arrays id) → limit_met op L (moved s) ≡ Some fault →
    OnNext (free_row op id (moved s)) (IsCount fault (load_by (Some op) s) s)
row_counts (Alloc b c) L id s fault z new e =
    let n = new refl in
    let ws : List ℕ = replicate (reg s c) 0 in
    let t = map.insert s.arrays id ws in
    let live = live_words-insert_new s.arrays id ws n.absent in
    let count = len-insert_new s.arrays id ws n.absent in
    let positive = len_positive s.arrays 0 z.0 z.1 in
    let long = length-replicate {A = ℕ} (reg s c) 0 in
    let next : State = with_reg (with_array (moved s) id ws) b id in
    alloc_over (nat_le (arrays_after_allocation (moved s)) L.arrays) (nat_le (words_after_allocation (moved s) (reg s c)) L.words) fault (live_arrays s.arrays + 1) (live_words s.arrays + reg s c) (λ f. IsCount f [] s next)
    (refl, refl, omega (arith, count, positive)) (inl (refl, refl, omega (arith, live, long))) e
row_counts (Load b c) L id s fault z new e = by_zero (reg s b == 0) (map.get s.arrays (reg s b)) e
  where
    by_zero : (a : Bool) (o : Option (List ℕ)) → (if a then None else over_load L (moved s) o) ≡ Some fault →
        OnNext (if a then Goes (record (moved s) { finger = reg s c }) else with_some o LoadInactive (λ words. Goes (record (with_array (moved s) 0 words) { finger = reg s c })))
        (IsCount fault (if a then [] else record { words = array_at s.arrays (reg s b); offset = reg s c } ∷ []) s)
    by_zero true o e = no_limit fault _ e
    by_zero false None e = no_limit fault _ e
    by_zero false (Some words) e =
        let next : State = record (with_array (moved s) 0 words) { finger = reg s c } in
        let long = length_zero (map.insert s.arrays 0 words) words (get-insert_same s.arrays 0 words) in
        load_over (nat_le (words_after_load (moved s) words) L.words) fault (words_after_load (moved s) words) (λ f. IsCount f (record { words = array_at s.arrays (reg s b); offset = reg s c } ∷ []) s next) (inr (omega (arith, long))) e
row_counts (Move a b c) L id s fault z new e = no_limit fault _ e
row_counts _ L id s fault z new e = no_limit fault _ e

decoded_counts : (op : Option Op) (L : Limits) (id : ℕ) (s : State) (fault : Fault) → HasZero s → (is_allocation op ≡ true → IsNew s.arrays id) → limit_by op L (moved s) ≡ Some fault →
    OnNext (with_some op BadOperator (λ op. free_row op id (moved s))) (IsCount fault (load_by op s) s)
decoded_counts None L id s fault z new e = tt
decoded_counts (Some op) L id s fault z new e = row_counts op L id s fault z new e

fetched_counts : (word : Option ℕ) (L : Limits) (id : ℕ) (s : State) (fault : Fault) → HasZero s → (is_allocation (op_of word) ≡ true → IsNew s.arrays id) → limit_by (op_of word) L (moved s) ≡ Some fault →
    OnNext (with_some word FingerOutside (λ word. with_some (decode_word word) BadOperator (λ op. free_row op id (moved s)))) (IsCount fault (load_by (op_of word) s) s)
fetched_counts None L id s fault z new e = tt
fetched_counts (Some word) L id s fault z new e = decoded_counts (decode_word word) L id s fault z new e

both : (next : Next) (P Q : State → Type 0) → OnNext next P → OnGoing next Q → (t : State) × P t × Q t
both (Goes t) P Q h g = (t, h, g)
both (Stops fault) P Q h g = absurd g

-- where a limit is met, there is a next state without limits, and the fault has its count
pub next_counts : (L : Limits) (s : State) (fault : Fault) (P : State → Type 0) → HasZero s → limit_at L s ≡ Some fault →
    ((id : ℕ) → (is_allocation (op_under s) ≡ true → IsNew s.arrays id) → OnGoing (free_cycle s id) P) → (t : State) × IsCount fault (next_load s) s t × P t
next_counts L s fault P z met goes =
    let id = some_new s.arrays in
    both (free_cycle s id.0) (IsCount fault (next_load s) s) P (fetched_counts (platter s) L id.0 s fault z (λ a. id.1) met) (goes id.0 (λ a. id.1))
