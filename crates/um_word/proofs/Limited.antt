-- Runs under limits and free runs.
use Rattle.std.proofs.Common.{◌≡◌, ℕ, zero, suc, Bool, true, false, List, Option, Some, None, refl, sym, ap, subst, ◌∙◌, inl, inr, arith}
use Rattle.std.specs.Prelude.{◌⊎◌, if◌then◌else◌, nat_le, ◌==◌}
use Rattle.std.specs.FinMap as map
use Rattle.umix_base.specs.declared.limits.Limits.{Limits}
use Rattle.um_word.specs.declared.op.Op.{Op}
use Rattle.um_word.specs.declared.op.Op.TheVariants.{Move, Alloc, Load}
use Rattle.um_word.specs.Operators.{decode_word}
use Rattle.um_word.specs.State.{State, reg, with_array, platter}
use Rattle.um_word.specs.Table.{Fault, FingerOutside, BadOperator, LoadInactive, WordsFull, Next, Goes, Stops, with_some, within, arrays_after_allocation, words_after_allocation, words_after_load, row, moved, cycle, op_of}
use Rattle.um_word.specs.Run.{Standing, Stands, run_after, run_by}
use Rattle.um_word.specs.Free.{free_row, over_load, limit_met, limit_by, limit_at, limited, free_cycle, free_by, EndsAtLimit, RunsAreLimited}

over_one : (b : Bool) (fault : Fault) (next : Next) →
    (if b then next else Stops fault) ≡ limited (if b then None else Some fault) next
over_one true fault next = refl
over_one false fault next = refl

over_two : (a b : Bool) (one two : Fault) (next : Next) →
    (if a then (if b then next else Stops two) else Stops one) ≡ limited (if a then (if b then None else Some two) else Some one) next
over_two true b one two next = over_one b two next
over_two false b one two next = refl

load_limited : (b : Bool) (o : Option (List ℕ)) (L : Limits) (s : State) (c : ℕ) →
    (if b then Goes (record s { finger = reg s c }) else with_some o LoadInactive (λ words. within L.words (words_after_load s words) WordsFull (Goes (record (with_array s 0 words) { finger = reg s c }))))
    ≡ limited (if b then None else over_load L s o) (if b then Goes (record s { finger = reg s c }) else with_some o LoadInactive (λ words. Goes (record (with_array s 0 words) { finger = reg s c })))
load_limited true o L s c = refl
load_limited false None L s c = refl
load_limited false (Some words) L s c = over_one (nat_le (words_after_load s words) L.words) _ _

-- a row is the row without limits, but where it meets one
pub row_limited : (op : Op) (L : Limits) (id : ℕ) (s : State) → row op L id s ≡ limited (limit_met op L s) (free_row op id s)
row_limited (Alloc b c) L id s =
    over_two (nat_le (arrays_after_allocation s) L.arrays) (nat_le (words_after_allocation s (reg s c)) L.words) _ _ _
row_limited (Load b c) L id s = load_limited (reg s b == 0) (map.get s.arrays (reg s b)) L s c
row_limited (Move a b c) L id s = refl
row_limited _ L id s = refl

decoded : (o : Option Op) (L : Limits) (id : ℕ) (s : State) →
    with_some o BadOperator (λ op. row op L id s) ≡ limited (limit_by o L s) (with_some o BadOperator (λ op. free_row op id s))
decoded None L id s = refl
decoded (Some op) L id s = row_limited op L id s

fetched : (o : Option ℕ) (L : Limits) (id : ℕ) (s : State) →
    with_some o FingerOutside (λ word. with_some (decode_word word) BadOperator (λ op. row op L id s))
    ≡ limited (limit_by (op_of o) L s) (with_some o FingerOutside (λ word. with_some (decode_word word) BadOperator (λ op. free_row op id s)))
fetched None L id s = refl
fetched (Some word) L id s = decoded (decode_word word) L id s

pub cycle_limited : (L : Limits) (id : ℕ) (s : State) → cycle s L id ≡ limited (limit_at L s) (free_cycle s id)
cycle_limited L id s = fetched (platter s) L id (moved s)

module _ {I : Type 0} (offer : I → ℕ) (left : State → I → I) (L : Limits) where
  abbrev Limits_ : ℕ → I → State → Type 0
  Limits_ n i s = (run_by offer left L n i s ≡ free_by offer left n i s) ⊎ EndsAtLimit offer left L n i s

  abbrev step : ℕ → I → State → Bool → Next → Standing I
  step n i s h next = if h then Stands s i else run_after next s i (run_by offer left L n (left s i))

  abbrev free_step : ℕ → I → State → Bool → Next → Standing I
  free_step n i s h next = if h then Stands s i else run_after next s i (free_by offer left n (left s i))

  -- one cycle more before what comes
  later : (n : ℕ) (i : I) (s t : State) → s.halted ≡ false → cycle s L (offer i) ≡ Goes t → free_cycle s (offer i) ≡ Goes t →
      Limits_ n (left s i) t → Limits_ (suc n) i s
  later n i s t h e f (inl same) =
      inl (subst (λ b. step n i s b (cycle s L (offer i)) ≡ free_step n i s b (free_cycle s (offer i))) (sym h)
      (subst (λ x. run_after x s i (run_by offer left L n (left s i)) ≡ run_after (free_cycle s (offer i)) s i (free_by offer left n (left s i))) (sym e)
      (subst (λ x. run_by offer left L n (left s i) t ≡ run_after x s i (free_by offer left n (left s i))) (sym f) same)))
  later n i s t h e f (inr at) = inr (record {
    moment = suc at.moment;
    state = at.state;
    rest = at.rest;
    fault = at.fault;
    before = let b = at.before in omega (arith, b);
    free = ap (λ b. free_step at.moment i s b (free_cycle s (offer i))) h ∙ ap (λ x. run_after x s i (free_by offer left at.moment (left s i))) f ∙ at.free;
    same = ap (λ b. step at.moment i s b (cycle s L (offer i))) h ∙ ap (λ x. run_after x s i (run_by offer left L at.moment (left s i))) e ∙ at.same;
    running = at.running;
    met = at.met;
    ends = ap (λ b. step n i s b (cycle s L (offer i))) h ∙ ap (λ x. run_after x s i (run_by offer left L n (left s i))) e ∙ at.ends;
  })

  by_next : (n : ℕ) (i : I) (s : State) (o : Option Fault) (x : Next) → s.halted ≡ false → limit_at L s ≡ o → free_cycle s (offer i) ≡ x →
      ((t : State) → Limits_ n (left s i) t) → Limits_ (suc n) i s
  by_next n i s None (Goes t) h o f again =
      later n i s t h (cycle_limited L (offer i) s ∙ ap (λ m. limited m (free_cycle s (offer i))) o ∙ f) f (again t)
  by_next n i s None (Stops fault) h o f again =
      let e : cycle s L (offer i) ≡ Stops fault = cycle_limited L (offer i) s ∙ ap (λ m. limited m (free_cycle s (offer i))) o ∙ f in
      inl (ap (λ x. step n i s s.halted x) e ∙ ap (λ b. step n i s b (Stops fault)) h ∙ sym (ap (λ x. free_step n i s s.halted x) f ∙ ap (λ b. free_step n i s b (Stops fault)) h))
  by_next n i s (Some fault) x h o f again =
      let e : cycle s L (offer i) ≡ Stops fault = cycle_limited L (offer i) s ∙ ap (λ m. limited m (free_cycle s (offer i))) o in
      inr (record {
        moment = 0;
        state = s;
        rest = i;
        fault = fault;
        before = omega arith;
        free = refl;
        same = refl;
        running = h;
        met = o;
        ends = ap (λ x. step n i s s.halted x) e ∙ ap (λ b. step n i s b (Stops fault)) h;
      })

  by_halt : (n : ℕ) (i : I) (s : State) (h : Bool) → s.halted ≡ h → ((t : State) → Limits_ n (left s i) t) → Limits_ (suc n) i s
  by_halt n i s true h again =
      inl (ap (λ b. step n i s b (cycle s L (offer i))) h ∙ sym (ap (λ b. free_step n i s b (free_cycle s (offer i))) h))
  by_halt n i s false h again = by_next n i s (limit_at L s) (free_cycle s (offer i)) h refl refl again

  all : (n : ℕ) (i : I) (s : State) → Limits_ n i s
  all zero i s = inl refl
  all (suc n) i s = by_halt n i s s.halted refl (λ t. all n (left s i) t)

pub runs_are_limited : {I : Type 0} (offer : I → ℕ) (left : State → I → I) → RunsAreLimited offer left
runs_are_limited offer left L n i s = all offer left L n i s
