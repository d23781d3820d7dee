-- The block of a plan comes to what its module means, and calls what it calls.
use Rattle.std.specs.Prelude.{Option, Some, None, ◌≡◌, ℕ, ◌&&◌, is_some, if◌then◌else◌, Bool, true, false, List, [], ◌∷◌, ◌++◌, map}
use Rattle.std.specs.Option.{option_map, unwrap_or}
use Rattle.std.proofs.Common.{refl, ◌∙◌, ap, inl, inr}
use Rattle.codex_values.specs.Value.{Value}
use Rattle.two_d.specs.Programs.{Program, module_at, box_count}
use Rattle.two_d.specs.Sound.{IsSound}
use Rattle.two_d.specs.Meaning.{Inputs, Effect, Done, Starts, Meaning, Answers, act, look_of, test_of, is_known, all_known, summary_of, meaning_of}
use Rattle.two_d.specs.Walks.{Visit, Returns, visit, visits}
use Rattle.two_d.proofs.Below.{all_below-fails}
use Rattle.two_d.proofs.Depth.{known_at}
use Rattle.two_d.proofs.Sourced.{IsAmong, among_order}
use Rattle.lower_plan.specs.declared.plan.Plan.{Plan}
use Rattle.lower_plan.specs.declared.plan.PlanStep.{PlanStep}
use Rattle.lower_plan.specs.Plans.{IsPlan}
use Rattle.lower_emit.specs.Stands.{TextTrail, Ending}
use Rattle.lower_emit.specs.Boxes.{Box}
use Rattle.lower_emit.specs.KnownOutcomes.{Call, Known, came_of, known_of, texts_of}
use Rattle.lower_emit.specs.inner.Firing.{call_of, fired_wires, is_answered, all_answered, entry_wires}
use Rattle.lower_emit.specs.inner.Trips.{Trips, trip, trips_of, came_if, block_came, came_to}
use Rattle.lower_emit.specs.Plans.{block_of}
use Rattle.lower_emit.proofs.Turns.{call_in}
use Rattle.lower_emit.proofs.Push.{calls_of, push_says, push_calls}

-- all these calls are answered
abbrev answered : Known → List (Option Call) → Bool
answered known [] = true
answered known (c ∷ cs) = is_answered known c && answered known cs

answered_is : (known : Known) (boxes : List Box) (wires : ℕ → Option Value) → all_answered known boxes wires ≡ answered known (calls_of known boxes wires)
answered_is known [] wires = refl
answered_is known (box ∷ boxes) wires = ap (λ t. is_answered known (call_of box wires) && t) (answered_is known boxes (fired_wires known box wires))

-- the calls and returns of these calls
abbrev trips_along : Trips → Known → ℕ → List (Option Call) → List Visit
trips_along trips known m [] = []
trips_along trips known m (c ∷ cs) = trip trips known m c (trips_along trips known m cs)

trips_is : (trips : Trips) (known : Known) (m : ℕ) (boxes : List Box) (wires : ℕ → Option Value) → trips_of trips known m boxes wires ≡ trips_along trips known m (calls_of known boxes wires)
trips_is trips known m [] wires = refl
trips_is trips known m (box ∷ boxes) wires = ap (trip trips known m (call_of box wires)) (trips_is trips known m boxes (fired_wires known box wires))

came_from : (v w : Option Value) (k l : Option TextTrail) → v ≡ w → k ≡ l → (λ (c : Ending). c) (record { value = v; mark = k }) ≡ (λ (c : Ending). c) (record { value = w; mark = l })
came_from v w k l e f = rw (e, f) refl

module _ (P : Program) (answer : Answers) where
  abbrev known : Known
  known = known_of (texts_of P) answer

  test_is : (x : Option Effect) → is_answered known (call_in x) ≡ test_of (is_known answer) x
  test_is None = refl
  test_is (Some (Done c)) = refl
  test_is (Some (Starts j a)) = by (answer j a)
    where
      by : (r : Option Meaning) → is_some (option_map (λ (r : Meaning). came_of (texts_of P) r.outcome) r) ≡ unwrap_or (option_map (λ (r : Meaning). true) r) false
      by None = refl
      by (Some r) = refl

  visit_is : (trips : Trips) (m : ℕ) (x : Option Effect) (rest : List Visit) → trip trips known m (call_in x) rest ≡ visit trips answer m x rest
  visit_is trips m None rest = refl
  visit_is trips m (Some (Done c)) rest = refl
  visit_is trips m (Some (Starts j a)) rest = by (answer j a)
    where
      by : (r : Option Meaning) → trips j a ++ (if is_some (option_map (λ (r : Meaning). came_of (texts_of P) r.outcome) r) then Returns m ∷ rest else []) ≡ trips j a ++ (if is_some r then Returns m ∷ rest else [])
      by None = refl
      by (Some r) = refl

  module _ (m : ℕ) (acts : ℕ → Option Effect) where
    abbrev calls_at : List ℕ → List (Option Call)
    calls_at bs = map (λ (b : ℕ). call_in (acts b)) bs

    visits_are : (trips : Trips) (bs : List ℕ) → trips_along trips known m (calls_at bs) ≡ visits trips answer m acts bs
    visits_are trips [] = refl
    visits_are trips (b ∷ bs) = visit_is trips m (acts b) (trips_along trips known m (calls_at bs)) ∙ ap (visit trips answer m (acts b)) (visits_are trips bs)

    all_true : ((b : ℕ) → test_of (is_known answer) (acts b) ≡ true) → (bs : List ℕ) → answered known (calls_at bs) ≡ true
    all_true h [] = refl
    all_true h (b ∷ bs) = rw (test_is (acts b), h b) (all_true h bs)

    one_false : (b : ℕ) → test_of (is_known answer) (acts b) ≡ false → (bs : List ℕ) → IsAmong b bs → answered known (calls_at bs) ≡ false
    one_false b e [] among = absurd among
    one_false b e (c ∷ cs) (inl is) = ap (λ t. t && answered known (calls_at cs)) (test_is (acts c) ∙ (ap (λ d. test_of (is_known answer) (acts d)) is ∙ e))
    one_false b e (c ∷ cs) (inr among) = ap (λ t. is_answered known (call_in (acts c)) && t) (one_false b e cs among) ∙ by (is_answered known (call_in (acts c)))
      where
        by : (t : Bool) → (t && false) ≡ false
        by true = refl
        by false = refl

module _ (P : Program) (answer : Answers) (a : Inputs) (p : Plan) (plan : IsPlan P p) (sound : IsSound (module_at P p.«module»)) where
  abbrev pub m : ℕ
  m = p.«module»

  abbrev pub order : List ℕ
  order = map (λ (step : PlanStep). step.bx) p.steps.items

  abbrev pub first_wires : ℕ → Option Value
  first_wires = entry_wires (block_of P p) a.north a.west

  all_are : answered (known_of (texts_of P) answer) (calls_at P answer m (act P m (look_of P answer m a)) order) ≡ all_known P answer m (look_of P answer m a)
  all_are = by (all_known P answer m (look_of P answer m a)) refl
    where
      by : (t : Bool) → all_known P answer m (look_of P answer m a) ≡ t → answered (known_of (texts_of P) answer) (calls_at P answer m (act P m (look_of P answer m a)) order) ≡ t
      by true e = all_true P answer m (act P m (look_of P answer m a)) (known_at P answer m (look_of P answer m a) e) order
      by false e =
          let (b, lt, fails) = all_below-fails (box_count P m) _ e in
          one_false P answer m (act P m (look_of P answer m a)) b fails order (among_order P m order plan.order.valid b lt)

  -- What is known of a block is what its module means.
  pub push_came : came_to (known_of (texts_of P) answer) (block_of P p) a ≡ known_of (texts_of P) (meaning_of P answer) m a
  unfolding meaning_of
  push_came = ap (λ t. came_if t (block_came (known_of (texts_of P) answer) (block_of P p) a)) known_is ∙ by (all_known P answer m (look_of P answer m a))
    where
      known_is : all_answered (known_of (texts_of P) answer) (block_of P p).boxes first_wires ≡ all_known P answer m (look_of P answer m a)
      known_is = answered_is (known_of (texts_of P) answer) (block_of P p).boxes first_wires
          ∙ (ap (answered (known_of (texts_of P) answer)) (push_calls P answer a p plan sound) ∙ all_are)

      came_is : block_came (known_of (texts_of P) answer) (block_of P p) a ≡ came_of (texts_of P) (summary_of P answer m (look_of P answer m a)).outcome
      came_is = let says = push_says P answer a p plan sound in came_from _ _ _ _ says.value_is says.mark_is

      by : (t : Bool) → came_if t (block_came (known_of (texts_of P) answer) (block_of P p) a)
          ≡ option_map (λ (r : Meaning). came_of (texts_of P) r.outcome) (if t then Some (summary_of P answer m (look_of P answer m a)) else None)
      by true = ap Some came_is
      by false = refl

  -- Its calls and returns are those of the module.
  pub push_trips : (trips : Trips) → trips_of trips (known_of (texts_of P) answer) m (block_of P p).boxes first_wires ≡ visits trips answer m (act P m (look_of P answer m a)) order
  push_trips trips = trips_is trips (known_of (texts_of P) answer) m (block_of P p).boxes first_wires
      ∙ (ap (trips_along trips (known_of (texts_of P) answer) m) (push_calls P answer a p plan sound) ∙ visits_are P answer m (act P m (look_of P answer m a)) trips order)
