-- What an event changes: of an instance nothing, one of its boxes, or that it has ended.
use Rattle.std.specs.Prelude.{◌≡◌, ◌≢◌, ℕ, suc, ◌+◌, ◌<◌, ◌≤◌, ◌⊎◌, ◌==◌, ◌&&◌, Option, Some, None, List, [], ◌∷◌, ◌++◌, Bool, true, false, not, if◌then◌else◌, length, slice_get, slice_index_or, slice_set}
use Rattle.std.specs.Option.{option_map}
use Rattle.std.proofs.Common.{refl, sym, ◌∙◌, ap, subst, arith, inl, inr}
use Rattle.std.proofs.lemmas.Bool.{cases_eq}
use Rattle.std.proofs.lemmas.List.{get_or-set_same, get_or-set_other, length-set, get_or_append_left, get_or_push, length_push}
use Rattle.two_d.specs.Good.{IsGood}
use Rattle.two_d.specs.Meaning.{Inputs, Cell, Outcome, Effect, Done, Starts, quiet, returned, effect_of, inputs_of}
use Rattle.two_d.specs.Programs.{Program, BoxForm, box_at, box_count}
use Rattle.two_d.specs.Steps.{Table, Instance, Event, Fire, End, nobody, instance_at, is_inner, is_ready, wires, firing, fire, with_cell, set_cell, begun, ended, end_of, deliver, step, IsStateOf}
use Rattle.two_d.proofs.Depth.{act_there}
use Rattle.two_d.proofs.Firing.{can_fire-ready, step-fire}
use Rattle.two_d.proofs.Options.{option_map_some}
use Rattle.two_d.proofs.State.{live_within}
use Rattle.fire_core.specs.inner.Changes.{told_by}
use Rattle.fire_core.specs.inner.Instances.{inner_count, one_if}
use Rattle.fire_core.proofs.CountLemmas.{inner_count-cell, inner_count-push, inner_count-end}
use Rattle.fire_core.proofs.EndLemmas.{CanEnd, can_end, is_inner-orphan, is_inner-other}
use Rattle.fire_core.proofs.MarkLemmas.{step-orphan, step-inner}

-- instance k is as before
pub record IsSame (T U : Table) (k : ℕ) : Type 0 where
  pub is : instance_at U k ≡ instance_at T k
  pub counts : inner_count k U ≡ inner_count k T

-- a box of it has come to something
pub record HasTold (T U : Table) (e : Event) (k : ℕ) : Type 0 where
  pub bx : ℕ
  pub cell : Cell
  pub told : told_by T e ≡ Some (k, bx)
  pub is : instance_at U k ≡ with_cell (instance_at T k) bx cell

-- it has ended
pub record HasEnded (T U : Table) (e : Event) (k : ℕ) : Type 0 where
  pub outcome : Outcome
  pub made : e ≡ End k
  pub is : instance_at U k ≡ ended (instance_at T k) outcome

abbrev pub BecomesOf : Table → Table → Event → ℕ → Type 0
BecomesOf T U e k = IsSame T U k ⊎ (HasTold T U e k ⊎ HasEnded T U e k)

-- the instances that were there, and how many there are
pub record IsChange (T U : Table) (e : Event) : Type 0 where
  pub each : (k : ℕ) → k < length T → BecomesOf T U e k
  pub low : length T ≤ length U
  pub high : length U ≤ length T + 1

change-done : (T : Table) (i b : ℕ) (c : Cell) → i < length T → IsChange T (set_cell T i b c) (Fire i b)
change-done T i b c lt = record {
  each = λ k below. elim (cases_eq k i) [
    | inl is ↦ inr (inl (record {
      bx = b;
      cell = c;
      told = rw is refl;
      is = rw is (get_or-set_same T i (with_cell (instance_at T i) b c) nobody lt);
    }))
    | inr other ↦ inl (record {
      is = get_or-set_other T i k (with_cell (instance_at T i) b c) nobody other;
      counts = inner_count-cell k T i b c lt;
    })
  ];
  low = omega (arith, length-set T i (with_cell (instance_at T i) b c));
  high = omega (arith, length-set T i (with_cell (instance_at T i) b c));
}

change-starts : (P : Program) (T : Table) (i b m : ℕ) (a : Inputs) → i < length T → IsChange T (set_cell T i b quiet ++ begun P m (Some (i, b)) a ∷ []) (Fire i b)
change-starts P T i b m a lt = record {
  each = λ k below. elim (cases_eq k i) [
    | inl is ↦ inr (inl (record {
      bx = b;
      cell = quiet;
      told = rw is refl;
      is = rw is (get_or_append_left V (y ∷ []) nobody i (omega (arith, lt, size)) ∙ get_or-set_same T i (with_cell (instance_at T i) b quiet) nobody lt);
    }))
    | inr other ↦ inl (record {
      is = get_or_append_left V (y ∷ []) nobody k (omega (arith, below, size)) ∙ get_or-set_other T i k (with_cell (instance_at T i) b quiet) nobody other;
      counts =
          let pushed = inner_count-push k V y in
          let set = inner_count-cell k T i b quiet lt in
          let none : one_if (is_inner k y) ≡ 0 = is_inner-other y (i, b) k refl other in
          omega (arith, pushed, set, none);
    })
  ];
  low = omega (arith, length_push V y, size);
  high = omega (arith, length_push V y, size);
}
  where
    V : Table
    V = set_cell T i b quiet

    y : Instance
    y = begun P m (Some (i, b)) a

    size : length V ≡ length T
    size = length-set T i (with_cell (instance_at T i) b quiet)

change-orphan : (T : Table) (i : ℕ) (o : Outcome) → i < length T → (instance_at T i).parent ≡ None → IsChange T (slice_set T i (ended (instance_at T i) o)) (End i)
change-orphan T i o lt orphan = record {
  each = λ k below. elim (cases_eq k i) [
    | inl is ↦ inr (inr (record {
      outcome = o;
      made = rw is refl;
      is = rw is (get_or-set_same T i (ended (instance_at T i) o) nobody lt);
    }))
    | inr other ↦ inl (record {
      is = get_or-set_other T i k (ended (instance_at T i) o) nobody other;
      counts =
          let count = inner_count-end k T i o lt in
          let none = is_inner-orphan (instance_at T i) k orphan in
          omega (arith, count, none);
    })
  ];
  low = omega (arith, length-set T i (ended (instance_at T i) o));
  high = omega (arith, length-set T i (ended (instance_at T i) o));
}

change-inner : (T : Table) (i above b : ℕ) (o : Outcome) (c : Cell) → i < length T → above < i → (instance_at T i).parent ≡ Some (above, b) →
    IsChange T (set_cell (slice_set T i (ended (instance_at T i) o)) above b c) (End i)
change-inner T i above b o c lt earlier parent = record {
  each = λ k below. elim (cases_eq k above) [
    | inl is ↦ inr (inl (record {
      bx = b;
      cell = c;
      told = rw is parent;
      is = rw is (get_or-set_same V above (with_cell (instance_at V above) b c) nobody (omega (arith, size, earlier, lt)) ∙ ap (λ (x : Instance). with_cell x b c) before);
    }))
    | inr other ↦ elim (cases_eq k i) [
      | inl is ↦ inr (inr (record {
        outcome = o;
        made = rw is refl;
        is = get_or-set_other V above k (with_cell (instance_at V above) b c) nobody other ∙ (rw is (get_or-set_same T i (ended (instance_at T i) o) nobody lt));
      }))
      | inr other' ↦ inl (record {
        is = get_or-set_other V above k (with_cell (instance_at V above) b c) nobody other ∙ get_or-set_other T i k (ended (instance_at T i) o) nobody other';
        counts =
            let count = inner_count-end k T i o lt in
            let set = inner_count-cell k V above b c (omega (arith, size, earlier, lt)) in
            let none = is_inner-other (instance_at T i) (above, b) k parent other in
            omega (arith, count, set, none);
      })
    ]
  ];
  low = omega (arith, size, length-set V above (with_cell (instance_at V above) b c));
  high = omega (arith, size, length-set V above (with_cell (instance_at V above) b c));
}
  where
    V : Table
    V = slice_set T i (ended (instance_at T i) o)

    size : length V ≡ length T
    size = length-set T i (ended (instance_at T i) o)

    before : instance_at V above ≡ instance_at T above
    before = get_or-set_other T i above (ended (instance_at T i) o) nobody (λ e. omega (arith, e, earlier))

-- an event changes two of the instances at most, and starts one at most
pub is_change : (P : Program) (T : Table) (e : Event) → IsGood P → IsStateOf P T → is_ready P T e ≡ true → IsChange T (step P T e) e
is_change P T (Fire i b) good state ready =
    let (x, can) = can_fire-ready P T i b ready in rw (step-fire P T i b x can) (by x (live_within T i can.live))
  where
    by : (x : Effect) → i < length T → IsChange T (fire P T i b (Some x)) (Fire i b)
    by (Done c) lt = change-done T i b c lt
    by (Starts m a) lt = change-starts P T i b m a lt
is_change P T (End i) good state ready = by (instance_at T i).parent refl
  where
    can : CanEnd P T i
    can = can_end P T i good state ready

    by : (p : Option (ℕ × ℕ)) → (instance_at T i).parent ≡ p → IsChange T (step P T (End i)) (End i)
    by None is = rw (← step-orphan P T i is) (change-orphan T i (end_of P (instance_at T i)) can.within is)
    by (Some p) is =
        let earlier = (can.parent p is).earlier in
        rw (← step-inner P T i p.0 p.1 is earlier) (change-inner T i p.0 p.1 _ _ can.within earlier is)

-- an instance stays one of its module
pub kind-same : (T U : Table) (e : Event) (k : ℕ) → BecomesOf T U e k → (instance_at U k).kind ≡ (instance_at T k).kind
kind-same T U e k (inl same) = ap (λ (x : Instance). x.kind) same.is
kind-same T U e k (inr (inl told)) = ap (λ (x : Instance). x.kind) told.is
kind-same T U e k (inr (inr over)) = ap (λ (x : Instance). x.kind) over.is

-- a box that is ready is one of its module
pub fires-box : (P : Program) (T : Table) (i b : ℕ) → is_ready P T (Fire i b) ≡ true → b < box_count P (instance_at T i).kind
fires-box P T i b ready = let (x, can) = can_fire-ready P T i b ready in act_there P (instance_at T i).kind (wires (instance_at T i)) b x can.acts

-- and its instance is there
pub live-there : (P : Program) (T : Table) (i b : ℕ) → is_ready P T (Fire i b) ≡ true → i < length T
live-there P T i b ready = let (x, can) = can_fire-ready P T i b ready in live_within T i can.live
