-- What stretches say of runs under limits with legal identifiers.
use Rattle.std.proofs.Common.{◌≡◌, ℕ, zero, suc, ◌+◌, Bool, true, false, List, [], ◌++◌, Option, Some, None, refl, sym, subst, ◌∙◌, arith, zero-add}
use Rattle.std.specs.Prelude.{if◌then◌else◌, nat_le, ◌==◌}
use Rattle.std.specs.FinMap as map
use Rattle.std.proofs.lemmas.Bool.{true≢false}
use Rattle.std.proofs.lemmas.List.{append_assoc, append-nil}
use Rattle.umix_base.specs.declared.limits.Limits.{Limits}
use Rattle.um_word.specs.declared.op.Op.{Op}
use Rattle.um_word.specs.declared.op.Op.TheVariants.{Move, Alloc, Load}
use Rattle.um_word.specs.Operators.{decode_word}
use Rattle.um_word.specs.State.{State, reg, platter}
use Rattle.um_word.specs.Table.{Fault, FingerOutside, BadOperator, ArraysFull, WordsFull, Next, Goes, Stops, with_some, moved, cycle, op_of, op_under, words_after_load, words_after_allocation, arrays_after_allocation}
use Rattle.um_word.specs.Run.{Standing, Stands, run_after, run, is_allocation, first_of, ids_left, IsLegal, OnGoes, TakesLegal, AreLegal}
use Rattle.um_word.specs.Free.{free_row, over_load, limit_by, limit_at, limited, free_cycle}
use Rattle.um_word.specs.Loads.{Loads, next_load, loads_after, loads_by, IsLimit}
use Rattle.um_word.specs.Leads.{IsNew, OnGoing, Leads, OnStanding, MeetsLimit}
use Rattle.um_word.proofs.Limited.{cycle_limited}

-- a limit that is met is one of the two
is_over : (b : Bool) (fault : Fault) (next : Option Fault) (f : Fault) → IsLimit fault → (next ≡ Some f → IsLimit f) →
    (if b then next else Some fault) ≡ Some f → IsLimit f
is_over true fault next f limit more e = more e
is_over false fault next f limit more e = let same : fault ≡ f = cc in subst IsLimit same limit

none : (f : Fault) → None ≡ Some f → IsLimit f
none f e = cc

is_load : (b : Bool) (o : Option (List ℕ)) (L : Limits) (s : State) (f : Fault) → (if b then None else over_load L s o) ≡ Some f → IsLimit f
is_load true o L s f e = none f e
is_load false None L s f e = none f e
is_load false (Some words) L s f e = is_over (nat_le (words_after_load s words) L.words) (WordsFull (words_after_load s words)) None f tt (none f) e

is_limit : (op : Option Op) (L : Limits) (s : State) (f : Fault) → limit_by op L s ≡ Some f → IsLimit f
is_limit None L s f e = none f e
is_limit (Some (Alloc b c)) L s f e =
    is_over (nat_le (arrays_after_allocation s) L.arrays) (ArraysFull (arrays_after_allocation s)) _ f tt
    (is_over (nat_le (words_after_allocation s (reg s c)) L.words) (WordsFull (words_after_allocation s (reg s c))) None f tt (none f)) e
is_limit (Some (Load b c)) L s f e = is_load (reg s b == 0) (map.get s.arrays (reg s b)) L s f e
is_limit (Some (Move a b c)) L s f e = none f e
is_limit (Some _) L s f e = none f e

-- without limits an Allocation goes on
alloc_decoded : (op : Option Op) (id : ℕ) (s : State) → is_allocation op ≡ true →
    (t : State) × (with_some op BadOperator (λ op. free_row op id s) ≡ Goes t)
alloc_decoded None id s e = absurd (true≢false (sym e))
alloc_decoded (Some (Alloc b c)) id s e = (_, refl)
alloc_decoded (Some (Move a b c)) id s e = absurd (true≢false (sym e))
alloc_decoded (Some _) id s e = absurd (true≢false (sym e))

alloc_fetched : (word : Option ℕ) (id : ℕ) (s : State) → is_allocation (op_of word) ≡ true →
    (t : State) × (with_some word FingerOutside (λ word. with_some (decode_word word) BadOperator (λ op. free_row op id s)) ≡ Goes t)
alloc_fetched None id s e = absurd (true≢false (sym e))
alloc_fetched (Some word) id s e = alloc_decoded (decode_word word) id s e

new_of_legal : (s : State) (id : ℕ) → IsLegal s id → IsNew s.arrays id
new_of_legal s id legal = record { not_zero = λ e. let p = legal.positive in omega (arith, e, p); absent = legal.fresh }

module _ (I Q : State → Loads → Type 0) (L : Limits) where
  abbrev Stood : ℕ → Loads → Standing (List ℕ) → Type 0
  Stood k l standing = OnStanding standing (λ t. Leads I k Q t l) (MeetsLimit I Q L l)

  -- the cycle after s, with its loads
  abbrev Going : ℕ → ℕ → List ℕ → State → Loads → Bool → Next → Type 0
  Going m k ids s l h next =
      Stood k (l ++ (if h then [] else loads_after next s (loads_by first_of ids_left L m (ids_left s ids))))
      (if h then Stands s ids else run_after next s ids (run L m (ids_left s ids)))

  by_next : (m k : ℕ) (ids : List ℕ) (s : State) (l : Loads) (o : Option Fault) (next : Next) →
      limit_at L s ≡ o → free_cycle s (first_of ids) ≡ next →
      OnGoes (limited o next) (λ t. TakesLegal ids s × AreLegal L m (ids_left s ids) t) →
      Leads I (suc (m + k)) Q s l →
      ((id : ℕ) → (is_allocation (op_under s) ≡ true → IsNew s.arrays id) → OnGoing (free_cycle s id) (λ t. Leads I (m + k) Q t (l ++ next_load s))) →
      ((t : State) → AreLegal L m (ids_left s ids) t → Leads I (m + k) Q t (l ++ next_load s) →
      Stood k ((l ++ next_load s) ++ loads_by first_of ids_left L m (ids_left s ids) t) (run L m (ids_left s ids) t)) →
      Going m k ids s l false (limited o next)
  by_next m k ids s l (Some fault) next met is legal way goes again = record {
    limit = is_limit (op_under s) L (moved s) fault met;
    met = met;
    more = m + k;
    way = subst (λ x. Leads I (suc (m + k)) Q s x) (sym (append-nil l)) way;
  }
  by_next m k ids s l None (Goes t) met is legal way goes again =
      let new : is_allocation (op_under s) ≡ true → IsNew s.arrays (first_of ids) = λ a. new_of_legal s (first_of ids) (legal.0 a).1 in
      let next = subst (λ x. OnGoing x (λ t. Leads I (m + k) Q t (l ++ next_load s))) is (goes (first_of ids) new) in
      subst (λ x. Stood k x (run L m (ids_left s ids) t)) (append_assoc l (next_load s) (loads_by first_of ids_left L m (ids_left s ids) t))
      (again t legal.1 next)
  by_next m k ids s l None (Stops fault) met is legal way goes again = absurd (by_kind (is_allocation (op_under s)) refl)
    where
      by_kind : (a : Bool) → is_allocation (op_under s) ≡ a → ⊥
      by_kind true e = let g = alloc_fetched (platter s) (first_of ids) (moved s) e in let x : Goes g.0 ≡ Stops fault = sym g.1 ∙ is in cc
      by_kind false e = subst (λ x. OnGoing x (λ t. Leads I (m + k) Q t (l ++ next_load s))) is (goes (first_of ids) (λ a. absurd (true≢false (sym a ∙ e))))

  one : (m k : ℕ) (ids : List ℕ) (s : State) (l : Loads) → AreLegal L (suc m) ids s → Leads I (suc (m + k)) Q s l →
      ((t : State) → AreLegal L m (ids_left s ids) t → Leads I (m + k) Q t (l ++ next_load s) →
      Stood k ((l ++ next_load s) ++ loads_by first_of ids_left L m (ids_left s ids) t) (run L m (ids_left s ids) t)) →
      Going m k ids s l s.halted (cycle s L (first_of ids))
  unfolding Leads
  one m k ids s l legal h again =
      let is = cycle_limited L (first_of ids) s in
      subst (λ b. Going m k ids s l b (cycle s L (first_of ids))) (sym h.0)
      (subst (λ x. Going m k ids s l false x) (sym is)
      (by_next m k ids s l (limit_at L s) (free_cycle s (first_of ids)) refl refl
      (subst (λ x. OnGoes x (λ t. TakesLegal ids s × AreLegal L m (ids_left s ids) t)) is (legal h.0)) h h.2 again))

  -- after m cycles the run stands on the way to Q, or it has met a limit there
  pub moments : (m k : ℕ) (ids : List ℕ) (s : State) (l : Loads) → AreLegal L m ids s → Leads I (m + k) Q s l →
      OnStanding (run L m ids s) (λ t. Leads I k Q t (l ++ loads_by first_of ids_left L m ids s)) (MeetsLimit I Q L (l ++ loads_by first_of ids_left L m ids s))
  moments zero k ids s l legal h =
      let e : 0 + k ≡ k = zero-add k in
      subst (λ x. Leads I k Q s x) (sym (append-nil l)) (subst (λ n. Leads I n Q s l) e h)
  moments (suc m) k ids s l legal h =
      let e : suc m + k ≡ suc (m + k) = omega arith in
      one m k ids s l legal (subst (λ n. Leads I n Q s l) e h) (λ t. moments m k (ids_left s ids) t (l ++ next_load s))
