-- The identifiers that the rule hands out are legal.
use Rattle.std.proofs.Common.{◌≡◌, ℕ, zero, suc, ◌+◌, ◌-◌, ◌^◌, ◌<◌, ◌≤◌, Bool, true, false, List, [], ◌∷◌, ◌++◌, length, replicate, set, Option, Some, None, refl, sym, ap, subst, ◌∙◌, arith}
use Rattle.std.specs.Prelude.{if◌then◌else◌, nat_le, nat_lt, ◌==◌, unwrap_or, slice_get}
use Rattle.std.specs.FinMap as map
use Rattle.std.proofs.lemmas.Bool.{true≢false, leb-true, eqb-false}
use Rattle.std.proofs.lemmas.List.{length-set, length-replicate}
use Rattle.umix_base.specs.declared.limits.Limits.{Limits}
use Rattle.um_word.specs.declared.op.Op.{Op}
use Rattle.um_word.specs.declared.op.Op.TheVariants.{Move, Index, Amend, Add, Mul, Div, Nand, Halt, Alloc, Abandon, Out, Input, Load, Set}
use Rattle.um_word.specs.Operators.{decode_word}
use Rattle.um_word.specs.State.{State, Arrays, array_at, live_arrays, live_words, reg, with_reg, with_array, platter}
use Rattle.um_word.specs.Table.{Fault, FingerOutside, BadOperator, IndexInactive, IndexOutside, AmendInactive, AmendOutside, AbandonInactive, LoadInactive, DivideByZero, AbandonZero, OutputTooLarge, ArraysFull, WordsFull, Next, Goes, Stops, with_some, within, with_byte, row, moved, cycle, op_of, op_under, quotient, arrays_after_allocation, words_after_allocation, words_after_load}
use Rattle.um_word.specs.Run.{Stands, run_after, run, is_allocation, first_of, rest_of, ids_left, IsLegal, OnGoes, TakesLegal, AreLegal}
use Rattle.um_word.specs.Rule.{Identifiers, IsOrderly, next_identifier, taken, handed_back, left_by, identifiers_left, ruled, handed_by, handed_out, SameStanding, RuleIsLegal, RulesAreLegal}
use Rattle.um_word.proofs.Live.{length_within_live}
use Rattle.um_word.proofs.Orderly.{replaced, given_back, takes, zero_there}

-- what holds of the next state, through the forms in which the rows are written
pub on_some : {A : Type 0} (o : Option A) (fault : Fault) (go : A → Next) (P : State → Type 0) →
    ((x : A) → o ≡ Some x → OnGoes (go x) P) → OnGoes (with_some o fault go) P
on_some None fault go P h = tt
on_some (Some x) fault go P h = h x refl

pub on_if : (b : Bool) (x y : Next) (P : State → Type 0) → (b ≡ true → OnGoes x P) → (b ≡ false → OnGoes y P) → OnGoes (if b then x else y) P
on_if true x y P h k = h refl
on_if false x y P h k = k refl

pub on_within : (limit count : ℕ) (fault : ℕ → Fault) (next : Next) (P : State → Type 0) → (count ≤ limit → OnGoes next P) → OnGoes (within limit count fault next) P
on_within limit count fault next P h =
    on_if (nat_le count limit) next (Stops (fault count)) P (λ e. h (leb-true count limit e)) (λ e. tt)

pick : (b : Bool) (s t : State) (P : Arrays → Type 0) → P s.arrays → P t.arrays → P (if b then s else t).arrays
pick true s t P h k = h
pick false s t P h k = k

same_input : (c : ℕ) (bytes : List ℕ) (s : State) (P : Arrays → Type 0) → P s.arrays → P (with_byte c bytes s).arrays
same_input c [] s P h = h
same_input c (byte ∷ rest) s P h = h

not_zero : (n : ℕ) → (n ≡ 0 → ⊥) → 1 ≤ n
not_zero n h = omega (arith, h)

abbrev allocated : (b c id : ℕ) → State → State
allocated b c id s = with_reg (with_array s id (replicate (reg s c) 0)) b id

module _ (L : Limits) where
  on_alloc : (b c id : ℕ) (s : State) (P : State → Type 0) →
      (arrays_after_allocation s ≤ L.arrays → words_after_allocation s (reg s c) ≤ L.words → P (allocated b c id s)) →
      OnGoes (row (Alloc b c) L id s) P
  on_alloc b c id s P h =
      on_within L.arrays (arrays_after_allocation s) ArraysFull (within L.words (words_after_allocation s (reg s c)) WordsFull (Goes (allocated b c id s))) P (λ room.
      on_within L.words (words_after_allocation s (reg s c)) WordsFull (Goes (allocated b c id s)) P (λ fits. h room fits))

  -- each row keeps what the rule keeps
  row_orderly : (op : Op) (i : Identifiers) (s : State) → IsOrderly L i s.arrays →
      OnGoes (row op L (next_identifier i) (moved s)) (λ t. IsOrderly L (left_by (Some op) s i) t.arrays)
  row_orderly (Move a b c) i s o = pick (reg s c == 0) (moved s) (with_reg (moved s) a (reg s b)) (IsOrderly L i) o o
  row_orderly (Index a b c) i s o =
      let P : State → Type 0 = λ t. IsOrderly L i t.arrays in
      on_some (map.get s.arrays (reg s b)) IndexInactive (λ words. with_some (slice_get words (reg s c)) IndexOutside (λ word. Goes (with_reg (moved s) a word))) P (λ words e.
      on_some (slice_get words (reg s c)) IndexOutside (λ word. Goes (with_reg (moved s) a word)) P (λ word f. o))
  row_orderly (Amend a b c) i s o =
      let P : State → Type 0 = λ t. IsOrderly L i t.arrays in
      let new : List ℕ → Next = λ words. Goes (with_array (moved s) (reg s a) (set words (reg s b) (reg s c))) in
      on_some (map.get s.arrays (reg s a)) AmendInactive (λ words. with_some (slice_get words (reg s b)) AmendOutside (λ _. new words)) P (λ words e.
      let n = length-set words (reg s b) (reg s c) in
      let w = length_within_live s.arrays (reg s a) words e in
      let l = o.words in
      let fits : live_words s.arrays - length words + length (set words (reg s b) (reg s c)) ≤ L.words = omega (arith, n, w, l) in
      on_some (slice_get words (reg s b)) AmendOutside (λ _. new words) P (λ word f.
      replaced L i s.arrays (reg s a) words (set words (reg s b) (reg s c)) o e fits))
  row_orderly (Add a b c) i s o = o
  row_orderly (Mul a b c) i s o = o
  row_orderly (Div a b c) i s o =
      on_some (quotient (reg s b) (reg s c)) DivideByZero (λ q. Goes (with_reg (moved s) a q)) (λ t. IsOrderly L i t.arrays) (λ q e. o)
  row_orderly (Nand a b c) i s o = o
  row_orderly Halt i s o = o
  row_orderly (Alloc b c) i s o =
      on_alloc b c (next_identifier i) (moved s) (λ t. IsOrderly L (taken i) t.arrays) (λ room fits.
      let n = length-replicate {A = ℕ} (reg s c) 0 in
      let most : live_words s.arrays + length (replicate (reg s c) 0) ≤ L.words = omega (arith, n, fits) in
      (takes L i s.arrays o).kept (replicate (reg s c) 0) room most)
  row_orderly (Abandon c) i s o =
      let P : State → Type 0 = λ t. IsOrderly L (handed_back i (reg s c)) t.arrays in
      let gone : Next = Goes (record (moved s) { arrays = map.remove s.arrays (reg s c) }) in
      let found : Next = with_some (map.get s.arrays (reg s c)) AbandonInactive (λ _. gone) in
      on_if (reg s c == 0) (Stops AbandonZero) found P (λ e. tt) (λ ne.
      on_some (map.get s.arrays (reg s c)) AbandonInactive (λ _. gone) P (λ words e.
      given_back L i s.arrays (reg s c) words o (not_zero (reg s c) (eqb-false (reg s c) 0 ne)) e))
  row_orderly (Out c) i s o =
      on_if (nat_lt (reg s c) 256) (Goes (record (moved s) { out = s.out ++ reg s c ∷ [] })) (Stops OutputTooLarge) (λ t. IsOrderly L i t.arrays) (λ e. o) (λ e. tt)
  row_orderly (Input c) i s o = same_input c s.rest (moved s) (IsOrderly L i) o
  row_orderly (Load b c) i s o =
      let P : State → Type 0 = λ t. IsOrderly L i t.arrays in
      let stays : Next = Goes (record (moved s) { finger = reg s c }) in
      let new : List ℕ → Next = λ words. Goes (record (with_array (moved s) 0 words) { finger = reg s c }) in
      let go : List ℕ → Next = λ words. within L.words (words_after_load (moved s) words) WordsFull (new words) in
      on_if (reg s b == 0) stays (with_some (map.get s.arrays (reg s b)) LoadInactive go) P (λ e. o) (λ ne.
      on_some (map.get s.arrays (reg s b)) LoadInactive go P (λ words e.
      on_within L.words (words_after_load (moved s) words) WordsFull (new words) P (λ fits.
      let z = zero_there L i s.arrays o in
      let long : length (array_at s.arrays 0) ≡ length z.0 = ap (λ a. length (unwrap_or a [])) z.1 in
      let most : live_words s.arrays - length z.0 + length words ≤ L.words = omega (arith, long, fits) in
      replaced L i s.arrays 0 z.0 words o z.1 most)))
  row_orderly (Set a value) i s o = o

  -- where an Allocation stops, it stops whatever the identifier
  stops_if : (b : Bool) (x y : Next) (other fault : Fault) → (x ≡ Stops fault → y ≡ Stops fault) →
      (if b then x else Stops other) ≡ Stops fault → (if b then y else Stops other) ≡ Stops fault
  stops_if true x y other fault h e = h e
  stops_if false x y other fault h e = e

  never : (s t : State) (fault : Fault) → Goes s ≡ Stops fault → Goes t ≡ Stops fault
  never s t fault e = cc

  alloc_stops : (b c id k : ℕ) (s : State) (fault : Fault) → row (Alloc b c) L id s ≡ Stops fault → row (Alloc b c) L k s ≡ Stops fault
  alloc_stops b c id k s fault =
      let full = WordsFull (words_after_allocation s (reg s c)) in
      let fits = nat_le (words_after_allocation s (reg s c)) L.words in
      stops_if (nat_le (arrays_after_allocation s) L.arrays)
      (if fits then Goes (allocated b c id s) else Stops full) (if fits then Goes (allocated b c k s) else Stops full)
      (ArraysFull (arrays_after_allocation s)) fault
      (stops_if fits (Goes (allocated b c id s)) (Goes (allocated b c k s)) full fault (never (allocated b c id s) (allocated b c k s) fault))

  -- a cycle is the row of its operator, or a fault that no identifier changes
  abbrev cycle_by : Option Op → Fault → ℕ → State → Next
  cycle_by None fault id s = Stops fault
  cycle_by (Some op) fault id s = row op L id (moved s)

  record Reads (s : State) : Type 0 where
    fault : Fault
    is : (id : ℕ) → cycle s L id ≡ cycle_by (op_under s) fault id s

  decoded : (s : State) (id : ℕ) (op : Option Op) → with_some op BadOperator (λ op. row op L id (moved s)) ≡ cycle_by op BadOperator id s
  decoded s id None = refl
  decoded s id (Some op) = refl

  reads_word : (s : State) (word : Option ℕ) → platter s ≡ word → Reads s
  reads_word s None e = record {
    fault = FingerOutside;
    is = λ id. subst (λ p. with_some p FingerOutside (λ word. with_some (decode_word word) BadOperator (λ op. row op L id (moved s))) ≡ cycle_by (op_of p) FingerOutside id s) (sym e) refl;
  }
  reads_word s (Some word) e = record {
    fault = BadOperator;
    is = λ id. subst (λ p. with_some p FingerOutside (λ word. with_some (decode_word word) BadOperator (λ op. row op L id (moved s))) ≡ cycle_by (op_of p) BadOperator id s) (sym e) (decoded s id (decode_word word));
  }

  reads : (s : State) → Reads s
  reads s = reads_word s (platter s) refl

  same_cycle : (op : Option Op) (fault : Fault) (id k : ℕ) (s : State) → is_allocation op ≡ false → cycle_by op fault id s ≡ cycle_by op fault k s
  same_cycle None fault id k s e = refl
  same_cycle (Some (Alloc b c)) fault id k s e = absurd (true≢false e)
  same_cycle (Some _) fault id k s e = refl

  stops_too : (op : Option Op) (fault : Fault) (id k : ℕ) (s : State) (why : Fault) → cycle_by op fault id s ≡ Stops why → cycle_by op fault k s ≡ Stops why
  stops_too None fault id k s why e = e
  stops_too (Some (Alloc b c)) fault id k s why e = alloc_stops b c id k (moved s) why e
  stops_too (Some _) fault id k s why e = e

  -- the identifier that is offered has no part in a refusal
  pub refusals_agree : (s : State) (id k : ℕ) (fault : Fault) → cycle s L id ≡ Stops fault → cycle s L k ≡ Stops fault
  refusals_agree s id k fault e =
      let r = reads s in
      r.is k ∙ stops_too (op_under s) r.fault id k s fault (sym (r.is id) ∙ e)

  step_orderly : (op : Option Op) (fault : Fault) (i : Identifiers) (s : State) → IsOrderly L i s.arrays →
      OnGoes (cycle_by op fault (next_identifier i) s) (λ t. IsOrderly L (left_by op s i) t.arrays)
  step_orderly None fault i s o = tt
  step_orderly (Some op) fault i s o = row_orderly op i s o

  step_room : (op : Option Op) (fault : Fault) (i : Identifiers) (s : State) → is_allocation op ≡ true →
      OnGoes (cycle_by op fault (next_identifier i) s) (λ t. live_arrays s.arrays + 1 ≤ L.arrays)
  step_room None fault i s e = absurd (true≢false (sym e))
  step_room (Some (Alloc b c)) fault i s e = on_alloc b c (next_identifier i) (moved s) (λ t. live_arrays s.arrays + 1 ≤ L.arrays) (λ room fits. room)
  step_room (Some _) fault i s e = absurd (true≢false (sym e))

  -- n + 1 cycles by the rule and with these identifiers
  record Fine (n : ℕ) (i : Identifiers) (s : State) (ids : List ℕ) : Type 0 where
    legal : AreLegal L (suc n) ids s
    same : SameStanding (ruled L (suc n) i s) (run L (suc n) ids s)

  fine_halted : (n : ℕ) (i : Identifiers) (s : State) (ids : List ℕ) → s.halted ≡ true → Fine n i s ids
  fine_halted n i s ids e = record {
    legal = λ running. absurd (true≢false (sym e ∙ running));
    same = subst (λ h. SameStanding
        (if h then Stands s i else run_after (cycle s L (next_identifier i)) s i (ruled L n (identifiers_left s i)))
        (if h then Stands s ids else run_after (cycle s L (first_of ids)) s ids (run L n (ids_left s ids)))) (sym e) refl;
  }

  fine_running : (n : ℕ) (i : Identifiers) (s : State) (ids : List ℕ) → s.halted ≡ false →
      OnGoes (cycle s L (first_of ids)) (λ t. TakesLegal ids s × AreLegal L n (ids_left s ids) t) →
      SameStanding (run_after (cycle s L (next_identifier i)) s i (ruled L n (identifiers_left s i))) (run_after (cycle s L (first_of ids)) s ids (run L n (ids_left s ids))) →
      Fine n i s ids
  fine_running n i s ids e legal same = record {
    legal = λ _. legal;
    same = subst (λ h. SameStanding
        (if h then Stands s i else run_after (cycle s L (next_identifier i)) s i (ruled L n (identifiers_left s i)))
        (if h then Stands s ids else run_after (cycle s L (first_of ids)) s ids (run L n (ids_left s ids)))) (sym e) same;
  }

  fine_goes : (n : ℕ) (i : Identifiers) (s : State) (ids : List ℕ) (t : State) → s.halted ≡ false →
      cycle s L (next_identifier i) ≡ Goes t → cycle s L (first_of ids) ≡ Goes t →
      ids_left s ids ≡ handed_out L n (identifiers_left s i) t → TakesLegal ids s → RuleIsLegal L n (identifiers_left s i) t → Fine n i s ids
  fine_goes n i s ids t e by_rule given left takes_legal rest =
      let j = identifiers_left s i in
      let P : State → Type 0 = λ t. TakesLegal ids s × AreLegal L n (ids_left s ids) t in
      let Q : Next → Next → Type 0 = λ r q. SameStanding (run_after r s i (ruled L n j)) (run_after q s ids (run L n (ids_left s ids))) in
      let legal : P t = (takes_legal, subst (λ xs. AreLegal L n xs t) (sym left) rest.legal) in
      let same : Q (Goes t) (Goes t) = subst (λ xs. SameStanding (ruled L n j t) (run L n xs t)) (sym left) rest.same in
      fine_running n i s ids e (subst (λ r. OnGoes r P) (sym given) legal)
      (subst (λ r. Q r (cycle s L (first_of ids))) (sym by_rule) (subst (λ q. Q (Goes t) q) (sym given) same))

  fine_stops : (n : ℕ) (i : Identifiers) (s : State) (ids : List ℕ) (fault : Fault) → s.halted ≡ false →
      cycle s L (next_identifier i) ≡ Stops fault → cycle s L (first_of ids) ≡ Stops fault → Fine n i s ids
  fine_stops n i s ids fault e by_rule given =
      let j = identifiers_left s i in
      let P : State → Type 0 = λ t. TakesLegal ids s × AreLegal L n (ids_left s ids) t in
      let Q : Next → Next → Type 0 = λ r q. SameStanding (run_after r s i (ruled L n j)) (run_after q s ids (run L n (ids_left s ids))) in
      let same : Q (Stops fault) (Stops fault) = (refl, refl) in
      fine_running n i s ids e (subst (λ r. OnGoes r P) (sym given) tt)
      (subst (λ r. Q r (cycle s L (first_of ids))) (sym by_rule) (subst (λ q. Q (Stops fault) q) (sym given) same))

  module _ (small : L.arrays < 2 ^ 32) (n : ℕ) (again : (i : Identifiers) (s : State) → IsOrderly L i s.arrays → RuleIsLegal L n i s)
      (i : Identifiers) (s : State) (o : IsOrderly L i s.arrays) where
    abbrev more : State → List ℕ
    more t = handed_out L n (identifiers_left s i) t

    orderly_after : (t : State) → cycle s L (next_identifier i) ≡ Goes t → IsOrderly L (identifiers_left s i) t.arrays
    orderly_after t e =
        let r = reads s in
        let P : State → Type 0 = λ t. IsOrderly L (identifiers_left s i) t.arrays in
        subst (λ r. OnGoes r P) (sym (r.is (next_identifier i)) ∙ e) (step_orderly (op_under s) r.fault i s o)

    room_after : (t : State) → is_allocation (op_under s) ≡ true → cycle s L (next_identifier i) ≡ Goes t → live_arrays s.arrays + 1 ≤ L.arrays
    room_after t a e =
        let r = reads s in
        let P : State → Type 0 = λ t. live_arrays s.arrays + 1 ≤ L.arrays in
        subst (λ r. OnGoes r P) (sym (r.is (next_identifier i)) ∙ e) (step_room (op_under s) r.fault i s a)

    goes_given : (id : ℕ) (t : State) → is_allocation (op_under s) ≡ false → cycle s L (next_identifier i) ≡ Goes t → cycle s L id ≡ Goes t
    goes_given id t a e =
        let r = reads s in
        r.is id ∙ same_cycle (op_under s) r.fault id (next_identifier i) s a ∙ sym (r.is (next_identifier i)) ∙ e

    legal_next : live_arrays s.arrays + 1 ≤ L.arrays → IsLegal s (next_identifier i)
    legal_next room =
        let next = takes L i s.arrays o in
        let bound = next.bound room in
        record { positive = next.positive; fits = omega (arith, bound, small); fresh = next.fresh }

    by_case : (a : Bool) (r : Next) → s.halted ≡ false → is_allocation (op_under s) ≡ a → cycle s L (next_identifier i) ≡ r →
        Fine n i s (handed_by (if a then Some (next_identifier i) else None) r more)
    by_case true (Goes t) e a r =
        fine_goes n i s (next_identifier i ∷ more t) t e r r
        (ap (λ b. if b then more t else (next_identifier i ∷ more t)) a)
        (λ _. (omega arith, legal_next (room_after t a r)))
        (again (identifiers_left s i) t (orderly_after t r))
    by_case true (Stops why) e a r = fine_stops n i s [] why e r (refusals_agree s (next_identifier i) 0 why r)
    by_case false (Goes t) e a r =
        fine_goes n i s (more t) t e r (goes_given (first_of (more t)) t a r)
        (ap (λ b. if b then rest_of (more t) else more t) a)
        (λ h. absurd (true≢false (sym h ∙ a)))
        (again (identifiers_left s i) t (orderly_after t r))
    by_case false (Stops why) e a r = fine_stops n i s [] why e r (refusals_agree s (next_identifier i) 0 why r)

    by_halt : (h : Bool) → s.halted ≡ h →
        Fine n i s (if h then [] else handed_by (if is_allocation (op_under s) then Some (next_identifier i) else None) (cycle s L (next_identifier i)) more)
    by_halt true e = fine_halted n i s [] e
    by_halt false e = by_case (is_allocation (op_under s)) (cycle s L (next_identifier i)) e refl refl

    one_more : RuleIsLegal L (suc n) i s
    one_more = let f = by_halt s.halted refl in record { legal = f.legal; same = f.same }

pub rules_are_legal : RulesAreLegal
rules_are_legal L zero i s small o = record { legal = tt; same = refl }
rules_are_legal L (suc n) i s small o = one_more L small n (λ i s. rules_are_legal L n i s small) i s o
