-- What holds in each state of a good program.
use Rattle.std.specs.Prelude.{◌≡◌, ℕ, ◌+◌, ◌<◌, Option, Some, None, List, [], ◌∷◌, ◌++◌, true, length, slice_set}
use Rattle.std.proofs.Common.{refl, arith, inl, inr}
use Rattle.std.proofs.lemmas.Bool.{cases_eq, cases_lt}
use Rattle.std.proofs.lemmas.List.{get_or-set_same, get_or-set_other, length-set, get_or_append_left, get_or_push, length_push}
use Rattle.two_d.specs.Good.{IsGood}
use Rattle.two_d.specs.Meaning.{Outcome, Effect, Done, Starts, mean}
use Rattle.two_d.specs.Programs.{Program}
use Rattle.two_d.specs.Steps.{Table, Instance, Event, Fire, End, nobody, instance_at, is_ready, step, start, after, deliver, wires, EachReady, IsStateOf}
use Rattle.two_d.proofs.Firing.{CanFire, can_fire-ready, step-fire}
use Rattle.two_d.proofs.Runs.{sound-run, sound-start}
use Rattle.two_d.proofs.State.{Sound, live_within}
use Rattle.two_d.proofs.Starting.{starts-there}

pub state_sound : (P : Program) (T : Table) → IsStateOf P T → (n : ℕ) × Sound P (mean P n) T
state_sound P T s = (length s.events + 0, rw s.is (sound-run P 0 (start P) s.events (sound-start P (mean P 0)) s.each_ready))

each_ready-more : (P : Program) (T : Table) (events : List Event) (e : Event) → EachReady P T events → is_ready P (after P T events) e ≡ true →
    EachReady P T (events ++ e ∷ [])
each_ready-more P T [] e each is = (is, tt)
each_ready-more P T (f ∷ events) e each is = (each.0, each_ready-more P (step P T f) events e each.1 is)

after-more : (P : Program) (T : Table) (events : List Event) (e : Event) → step P (after P T events) e ≡ after P T (events ++ e ∷ [])
after-more P T [] e = refl
after-more P T (f ∷ events) e = after-more P (step P T f) events e

-- an event that is ready leads to a state
pub state-step : (P : Program) (T : Table) (e : Event) → IsStateOf P T → is_ready P T e ≡ true → IsStateOf P (step P T e)
state-step P T e s is = record {
  events = s.events ++ e ∷ [];
  each_ready = each_ready-more P (start P) s.events e s.each_ready (rw s.is at is);
  is = rw s.is (after-more P (start P) s.events e);
}

pub state-start : (P : Program) → IsStateOf P (start P)
state-start P = record { events = []; each_ready = tt; is = refl }

-- each instance is of a module that is there
abbrev pub KindsFit : Program → Table → Type 0
KindsFit P T = (i : ℕ) → i < length T → (instance_at T i).kind < length P

kinds-set : (P : Program) (T : Table) (i : ℕ) (y : Instance) → KindsFit P T → y.kind ≡ (instance_at T i).kind → KindsFit P (slice_set T i y)
kinds-set P T i y fit same j lt = elim (cases_eq j i) [
  | inl is ↦ rw (is, get_or-set_same T i y nobody (omega (arith, lt, length-set T i y, is)), same) (fit i (omega (arith, lt, length-set T i y, is)))
  | inr other ↦ rw (get_or-set_other T i j y nobody other) (fit j (omega (arith, lt, length-set T i y)))
]

kinds-push : (P : Program) (T : Table) (y : Instance) → KindsFit P T → y.kind < length P → KindsFit P (T ++ y ∷ [])
kinds-push P T y fit fits j lt = elim (cases_lt j (length T)) [
  | inl before ↦ rw (get_or_append_left T (y ∷ []) nobody j before) (fit j before)
  | inr past ↦ rw (get_or_push T y nobody j (omega (arith, lt, past, length_push T y))) fits
]

kinds-deliver : (P : Program) (T : Table) (parent : Option (ℕ × ℕ)) (o : Outcome) → KindsFit P T → KindsFit P (deliver T parent o)
kinds-deliver P T None o fit = fit
kinds-deliver P T (Some p) o fit = kinds-set P T p.0 _ fit refl

pub kinds-step : (P : Program) (T : Table) (e : Event) → IsGood P → KindsFit P T → is_ready P T e ≡ true → KindsFit P (step P T e)
unfolding step
kinds-step P T (Fire i b) good fit is =
    let (x, fires) = can_fire-ready P T i b is in
    by x fires (fit i (live_within T i fires.live))
  where
    by : (x : Effect) → CanFire P T i b x → (instance_at T i).kind < length P → KindsFit P (step P T (Fire i b))
    by (Done c) fires lt = rw (step-fire P T i b (Done c) fires) (kinds-set P T i _ fit refl)
    by (Starts m a) fires lt =
        rw (step-fire P T i b (Starts m a) fires)
        (kinds-push P _ _ (kinds-set P T i _ fit refl) (starts-there P good (instance_at T i).kind lt (wires (instance_at T i)) b m a fires.acts))
kinds-step P T (End i) good fit is = kinds-deliver P _ _ _ (kinds-set P T i _ fit refl)

kinds-run : (P : Program) (T : Table) (events : List Event) → IsGood P → KindsFit P T → EachReady P T events → KindsFit P (after P T events)
kinds-run P T [] good fit each = fit
kinds-run P T (e ∷ events) good fit each = kinds-run P (step P T e) events good (kinds-step P T e good fit each.0) each.1

pub kinds_fit : (P : Program) (T : Table) → IsGood P → IsStateOf P T → KindsFit P T
kinds_fit P T good s = rw s.is (kinds-run P (start P) s.events good at_start s.each_ready)
  where
    at_start : KindsFit P (start P)
    at_start i lt = let only : i ≡ 0 = omega (arith, lt) in rw only good.main_there

-- a state has instance 0
pub state_there : (P : Program) (T : Table) → IsStateOf P T → 0 < length T
state_there P T s = let (n, sound) = state_sound P T s in sound.root.there
