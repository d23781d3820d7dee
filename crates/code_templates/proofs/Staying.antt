-- Code of one's own takes no input, and array 0 holds the words that were loaded last.
use Rattle.std.proofs.Common.{◌≡◌, ℕ, zero, suc, ◌≢◌, Bool, true, false, List, [], ◌∷◌, ◌++◌, length, replicate, Option, Some, None, refl, sym, ap, ◌∙◌}
use Rattle.std.specs.Prelude.{if◌then◌else◌, ◌==◌, nat_lt, slice_get, slice_set, unwrap_or}
use Rattle.std.specs.FinMap as map
use Rattle.um_word.specs.declared.op.Op.{Op}
use Rattle.um_word.specs.declared.op.Op.TheVariants.{Move, Index, Amend, Add, Mul, Div, Nand, Halt, Alloc, Abandon, Out, Input, Load, Set}
use Rattle.um_word.specs.Operators.{decode_word}
use Rattle.um_word.specs.State.{State, array_at, reg, with_reg, with_array, platter}
use Rattle.um_word.specs.Table.{FingerOutside, BadOperator, IndexInactive, IndexOutside, AmendInactive, AmendOutside, LoadInactive, DivideByZero, OutputTooLarge, Next, Goes, Stops, with_some, moved, quotient, op_of, op_under}
use Rattle.um_word.specs.Run.{is_allocation}
use Rattle.um_word.specs.Free.{free_row, free_cycle}
use Rattle.um_word.specs.Loads.{Loads, load_by, next_load}
use Rattle.um_word.specs.Leads.{IsNew, OnGoing, Leads}
use Rattle.um_word.proofs.Arrays.{get-insert_same, get-insert_other}
use Rattle.code_templates.specs.Lines.{IsOwn, IsOwnAt, last_loaded}
use Rattle.code_templates.proofs.Spent.{HasZero, Rises, OnNext, if_goes, some_goes, cycle_rises}

-- the length of the words that were loaded last, or this one where there were none
abbrev pub last_length : ℕ → Loads → ℕ
last_length first [] = first
last_length first (load ∷ loads) = last_length (length load.words) loads

-- the next state has the same input, and array 0 holds what was loaded last
abbrev Stays : Loads → State → State → Type 0
Stays k s t = (t.rest ≡ s.rest) × (array_at t.arrays 0 ≡ last_loaded (array_at s.arrays 0) k)

loaded_append : (words : List ℕ) (l k : Loads) → last_loaded words (l ++ k) ≡ last_loaded (last_loaded words l) k
loaded_append words [] k = refl
loaded_append words (load ∷ l) k = loaded_append load.words l k

loaded_length : (words : List ℕ) (k : Loads) → length (last_loaded words k) ≡ last_length (length words) k
loaded_length words [] = refl
loaded_length words (load ∷ k) = loaded_length load.words k

abbrev IsBeside : Option Op → State → Type 0
IsBeside op s = (a b c : ℕ) → op ≡ Some (Amend a b c) → reg s a ≢ 0

pick : (b : Bool) (s t : State) (P : State → Type 0) → P s → P t → P (if b then s else t)
pick true s t P h k = h
pick false s t P h k = k

row_stays : (op : Op) (id : ℕ) (s : State) → IsOwn (Some op) → IsBeside (Some op) s → (is_allocation (Some op) ≡ true → IsNew s.arrays id) → OnNext (free_row op id (moved s)) (Stays (load_by (Some op) s) s)
row_stays (Set a value) id s own beside new = (refl, refl)
row_stays (Move a b c) id s own beside new = pick (reg s c == 0) (moved s) (with_reg (moved s) a (reg s b)) (Stays [] s) (refl, refl) (refl, refl)
row_stays (Add a b c) id s own beside new = (refl, refl)
row_stays (Mul a b c) id s own beside new = (refl, refl)
row_stays (Nand a b c) id s own beside new = (refl, refl)
row_stays (Div a b c) id s own beside new = some_goes (quotient (reg s b) (reg s c)) DivideByZero (λ q. Goes (with_reg (moved s) a q)) (Stays [] s) (λ q e. (refl, refl))
row_stays Halt id s own beside new = (refl, refl)
row_stays (Out c) id s own beside new = if_goes (nat_lt (reg s c) 256) (Goes (record (moved s) { out = s.out ++ reg s c ∷ [] })) (Stops OutputTooLarge) (Stays [] s) (refl, refl) tt
row_stays (Index a b c) id s own beside new =
    some_goes (map.get s.arrays (reg s b)) IndexInactive (λ words. with_some (slice_get words (reg s c)) IndexOutside (λ word. Goes (with_reg (moved s) a word))) (Stays [] s) (λ words e.
    some_goes (slice_get words (reg s c)) IndexOutside (λ word. Goes (with_reg (moved s) a word)) (Stays [] s) (λ word f. (refl, refl)))
row_stays (Amend a b c) id s own beside new =
    let go : List ℕ → Next = λ words. Goes (with_array (moved s) (reg s a) (slice_set words (reg s b) (reg s c))) in
    some_goes (map.get s.arrays (reg s a)) AmendInactive (λ words. with_some (slice_get words (reg s b)) AmendOutside (λ _. go words)) (Stays [] s) (λ words e.
    some_goes (slice_get words (reg s b)) AmendOutside (λ _. go words) (Stays [] s) (λ word f.
    (refl, ap (λ (o : Option (List ℕ)). unwrap_or o []) (get-insert_other s.arrays (reg s a) (slice_set words (reg s b) (reg s c)) 0 (λ z. beside a b c refl (sym z))))))
row_stays (Alloc b c) id s own beside new =
    let ne : 0 ≢ id = λ e. (new refl).not_zero (sym e) in
    (refl, ap (λ (o : Option (List ℕ)). unwrap_or o []) (get-insert_other s.arrays id (replicate (reg s c) 0) 0 ne))
row_stays (Load b c) id s own beside new = by_zero (reg s b == 0)
  where
    by_zero : (z : Bool) →
        OnNext (if z then Goes (record (moved s) { finger = reg s c }) else with_some (map.get s.arrays (reg s b)) LoadInactive (λ words. Goes (record (with_array (moved s) 0 words) { finger = reg s c })))
        (Stays (if z then [] else record { words = array_at s.arrays (reg s b); offset = reg s c } ∷ []) s)
    by_zero true = (refl, refl)
    by_zero false =
        some_goes (map.get s.arrays (reg s b)) LoadInactive (λ words. Goes (record (with_array (moved s) 0 words) { finger = reg s c })) (Stays (record { words = array_at s.arrays (reg s b); offset = reg s c } ∷ []) s) (λ words e.
        (refl, ap (λ (o : Option (List ℕ)). unwrap_or o []) (get-insert_same s.arrays 0 words ∙ sym e)))
row_stays (Abandon c) id s own beside new = absurd own
row_stays (Input c) id s own beside new = absurd own

decoded_stays : (op : Option Op) (id : ℕ) (s : State) → IsOwn op → IsBeside op s → (is_allocation op ≡ true → IsNew s.arrays id) →
    OnNext (with_some op BadOperator (λ op. free_row op id (moved s))) (Stays (load_by op s) s)
decoded_stays None id s own beside new = tt
decoded_stays (Some op) id s own beside new = row_stays op id s own beside new

fetched_stays : (word : Option ℕ) (id : ℕ) (s : State) → IsOwn (op_of word) → IsBeside (op_of word) s → (is_allocation (op_of word) ≡ true → IsNew s.arrays id) →
    OnNext (with_some word FingerOutside (λ word. with_some (decode_word word) BadOperator (λ op. free_row op id (moved s)))) (Stays (load_by (op_of word) s) s)
fetched_stays None id s own beside new = tt
fetched_stays (Some word) id s own beside new = decoded_stays (decode_word word) id s own beside new

cycle_stays : (id : ℕ) (s : State) → IsOwnAt s → (is_allocation (op_under s) ≡ true → IsNew s.arrays id) → OnNext (free_cycle s id) (Stays (next_load s) s)
cycle_stays id s own new = fetched_stays (platter s) id s own.own own.not_zero new

-- The input is this still, and array 0 holds the words loaded last, or these where nothing was loaded.
pub record IsSame (input first : List ℕ) (t : State) (k : Loads) : Type 0 where
  pub there : HasZero t
  pub rest_is : t.rest ≡ input
  pub zero_is : array_at t.arrays 0 ≡ last_loaded first k

pub same_long : (input first : List ℕ) (t : State) (k : Loads) → IsSame input first t k → length (array_at t.arrays 0) ≡ last_length (length first) k
same_long input first t k h = ap length h.zero_is ∙ loaded_length first k

module _ (input first : List ℕ) where
  stays_same : (s t : State) (l : Loads) → HasZero t → IsSame input first s l → Stays (next_load s) s t → IsSame input first t (l ++ next_load s)
  stays_same s t l there h stays = record {
    there = there;
    rest_is = stays.0 ∙ h.rest_is;
    zero_is = stays.1 ∙ (ap (λ words. last_loaded words (next_load s)) h.zero_is ∙ sym (loaded_append first l (next_load s)));
  }

  with_stay : (next : Next) (s : State) (l : Loads) (P R : State → Type 0) → OnNext next (Stays (next_load s) s) → OnNext next (Rises s) → OnGoing next P → ((t : State) → Stays (next_load s) s t → Rises s t → P t → R t) → OnGoing next R
  with_stay (Goes t) s l P R stays rises p f = f t stays rises p
  with_stay (Stops fault) s l P R stays rises p f = p

  -- So it is all along a way, and where it ends.
  pub own_stays : (I Q : State → Loads → Type 0) → ((t : State) (k : Loads) → I t k → IsOwnAt t) →
      (n : ℕ) (s : State) (l : Loads) → IsSame input first s l → Leads I n Q s l →
      Leads (λ t k. I t k × IsSame input first t k) n (λ t k. Q t k × IsSame input first t k) s l
  unfolding Leads
  own_stays I Q own zero s l same h = (h, same)
  own_stays I Q own (suc n) s l same h = (
    h.0,
    (h.1, same),
    λ id new.
        with_stay (free_cycle s id) s l (λ t. Leads I n Q t (l ++ next_load s)) (λ t. Leads (λ t k. I t k × IsSame input first t k) n (λ t k. Q t k × IsSame input first t k) t (l ++ next_load s))
        (cycle_stays id s (own s l h.1) new) (cycle_rises id s (own s l h.1).own same.there new) (h.2 id new)
        (λ t stays rises p. own_stays I Q own n t (l ++ next_load s) (stays_same s t l rises.0 same stays) p),
  )
