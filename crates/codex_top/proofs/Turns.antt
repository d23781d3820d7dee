-- The modules of the instances, and the lines of the events, from event to event.
use Rattle.std.proofs.Common.{◌≡◌, ℕ, ◌+◌, ◌<◌, zero, suc, true, List, [], ◌∷◌, ◌++◌, length, take, get_or, Option, Some, None, refl, sym, ap, ◌∙◌, subst, add-one, inl, inr, arith}
use Rattle.std.specs.Prelude.{slice_set, slice_index, slice_index_or}
use Rattle.std.specs.Option.{option_map, option_and_then}
use Rattle.std.proofs.Math.Seq.{map-set_same, get_or-append_seam}
use Rattle.std.proofs.lemmas.List.{append_assoc, append-nil, get_or-map, length-map, length_push, map-append}
use Rattle.std.proofs.lemmas.Bool.{and_parts}
use Rattle.std.proofs.lemmas.Option.{slice_get_within}
use Rattle.two_d.specs.Good.{IsGood}
use Rattle.two_d.specs.Meaning.{Inputs, Outcome, Effect, Done, Starts, quiet, effect_of, inputs_of, act, mean}
use Rattle.two_d.specs.Programs.{BoxForm, Program, module_at, box_at, box_count}
use Rattle.two_d.specs.Trees.{Form, send, case, split, call}
use Rattle.two_d.specs.Steps.{Instance, Table, Event, Fire, End, nobody, instance_at, is_live, is_ready, wires, start, begun, set_cell, end_of, step, after, deliver, EachReady, Choice, events_of}
use Rattle.two_d.proofs.Firing.{CanFire, can_fire-ready, step-fire}
use Rattle.two_d.proofs.Picks.{events_by-picked}
use Rattle.two_d.proofs.Runs.{sound-start}
use Rattle.two_d.proofs.State.{live_within}
use Rattle.fire_core.proofs.StateLemmas.{KindsFit, kinds_fit}
use Rattle.fire_core.specs.Events.{event_of, events_shown}
use Rattle.fire_core.specs.declared.event.Event.{Event as LoggedEvent}
use Rattle.codex_top.specs.TraceCommand.{event_line, event_lines}
use Rattle.codex_top.specs.inner.Instances.{kinds_of, started_by, started, event_text, IsEventOf, IsStartedIf}

-- none or one
abbrev pub listed : Option ℕ → List ℕ
listed None = []
listed (Some x) = x ∷ []

started_of : Effect → Option ℕ
started_of (Done c) = None
started_of (Starts m a) = Some m

kinds-set : (T : Table) (i : ℕ) (y : Instance) → y.kind ≡ (instance_at T i).kind → kinds_of (slice_set T i y) ≡ kinds_of T
kinds-set T i y same = map-set_same (λ (x : Instance). x.kind) T i y nobody same

kinds-deliver : (T : Table) (parent : Option (ℕ × ℕ)) (o : Outcome) → kinds_of (deliver T parent o) ≡ kinds_of T
kinds-deliver T None o = refl
kinds-deliver T (Some p) o = kinds-set T p.0 _ refl

started-effect : (P : Program) (m b : ℕ) (c : Form) (a : Inputs) → started_by P c ≡ started_of (effect_of P m b c a)
unfolding started_of
started-effect P m b (send outs) a = refl
started-effect P m b (case x s t) a = refl
started-effect P m b (split x) a = refl
started-effect P m b (call name) a = refl

-- what a box starts is what its effect starts
started-acts : (P : Program) (m b : ℕ) (look : _) (x : Effect) → act P m look b ≡ Some x →
    option_and_then (λ (row : BoxForm). started_by P row.command) (box_at P m b) ≡ started_of x
started-acts P m b look x e = by_box (box_at P m b) e
  where
    by_inputs : (c : Form) (a : Option Inputs) → option_map (effect_of P m b c) a ≡ Some x → started_by P c ≡ started_of x
    by_inputs c None e = absurd (cc)
    by_inputs c (Some a) e = let is : effect_of P m b c a ≡ x = cc in started-effect P m b c a ∙ ap started_of is

    by_box : (o : Option BoxForm) → option_and_then (λ row. option_map (effect_of P m b row.command) (inputs_of look row)) o ≡ Some x →
        option_and_then (λ (row : BoxForm). started_by P row.command) o ≡ started_of x
    by_box None e = absurd (cc)
    by_box (Some row) e = by_inputs row.command (inputs_of look row) e

kinds-at : (T : Table) (i : ℕ) → i < length T → slice_index (kinds_of T) i ≡ (instance_at T i).kind
kinds-at T i lt = get_or-map (λ (x : Instance). x.kind) T i nobody 0 lt

-- a ready event adds the module of the instance that it starts
pub kinds-step : (P : Program) (T : Table) (e : Event) → is_ready P T e ≡ true → kinds_of (step P T e) ≡ kinds_of T ++ listed (started P (kinds_of T) e)
unfolding step started_of
kinds-step P T (Fire i b) is =
    let (x, fires) = can_fire-ready P T i b is in
    let kind = kinds-at T i (live_within T i fires.live) in
    by x fires (rw kind (started-acts P (instance_at T i).kind b (wires (instance_at T i)) x fires.acts))
  where
    by : (x : Effect) → CanFire P T i b x → started P (kinds_of T) (Fire i b) ≡ started_of x →
        kinds_of (step P T (Fire i b)) ≡ kinds_of T ++ listed (started P (kinds_of T) (Fire i b))
    by (Done c) fires starts = rw (step-fire P T i b (Done c) fires, starts) (kinds-set T i _ refl ∙ sym (append-nil (kinds_of T)))
    by (Starts m a) fires starts =
        rw (step-fire P T i b (Starts m a) fires, starts)
        (map-append (λ (x : Instance). x.kind) (set_cell T i b quiet) (begun P m (Some (i, b)) a ∷ []) ∙ ap (λ kinds. kinds ++ m ∷ []) (kinds-set T i _ refl))
kinds-step P T (End i) is =
    kinds-deliver _ (instance_at T i).parent (end_of P (instance_at T i)) ∙ kinds-set T i _ refl ∙ sym (append-nil (kinds_of T))

-- what stands at one of the events that are ready in their turn
pub record IsTurn (P : Program) (T : Table) (events : List Event) (k : ℕ) (e : Event) : Type 0 where
  pub ready : is_ready P (after P T (take k events)) e ≡ true
  pub goes : after P T (take (suc k) events) ≡ step P (after P T (take k events)) e
  pub lines : event_lines P T (take (suc k) events) ≡ event_lines P T (take k events) ++ event_line P (after P T (take k events)) e
  pub rest : List ℕ
  pub all : event_lines P T (take (suc k) events) ++ rest ≡ event_lines P T events

pub turn_at : (P : Program) (T : Table) (events : List Event) (k : ℕ) (d : Event) → k < length events → EachReady P T events →
    IsTurn P T events k (get_or events k d)
turn_at P T [] k d lt each = absurd (omega (arith, lt))
turn_at P T (e ∷ events) zero d lt each = record {
  ready = each.0;
  goes = refl;
  lines = append-nil (event_line P T e);
  rest = event_lines P (step P T e) events;
  all = ap (λ line. line ++ event_lines P (step P T e) events) (append-nil (event_line P T e));
}
turn_at P T (e ∷ events) (suc k) d lt each =
    let t = turn_at P (step P T e) events k d (omega (arith, lt)) each.1 in
    record {
      ready = t.ready;
      goes = t.goes;
      lines = ap (λ lines. event_line P T e ++ lines) t.lines ∙ sym (append_assoc (event_line P T e) (event_lines P (step P T e) (take k events)) _);
      rest = t.rest;
      all = append_assoc (event_line P T e) (event_lines P (step P T e) (take (suc k) events)) t.rest ∙ ap (λ lines. event_line P T e ++ lines) t.all;
    }

acts-box : (P : Program) (m b : ℕ) (look : _) (x : Effect) → act P m look b ≡ Some x → b < box_count P m
acts-box P m b look x e = by (box_at P m b) refl e
  where
    by : (o : Option BoxForm) → box_at P m b ≡ o → option_and_then (λ row. option_map (effect_of P m b row.command) (inputs_of look row)) o ≡ Some x → b < box_count P m
    by None is e = absurd (cc)
    by (Some row) is e = slice_get_within (module_at P m).boxes b row is

-- the instance of a ready event is there, and its box
ready-event : (P : Program) (T : Table) (e : Event) → is_ready P T e ≡ true → KindsFit P T → IsEventOf P (kinds_of T) e
unfolding is_ready
ready-event P T (Fire i b) is fit =
    let (x, fires) = can_fire-ready P T i b is in
    let there = live_within T i fires.live in
    let kind = kinds-at T i there in
    (rw (length-map T (λ (y : Instance). y.kind)) there, rw kind (fit i there, acts-box P (instance_at T i).kind b (wires (instance_at T i)) x fires.acts))
ready-event P T (End i) is fit =
    let live = (and_parts (is_live (instance_at T i)) _ is).0 in
    rw (length-map T (λ (y : Instance). y.kind)) (live_within T i live)

-- where a table has one instance more, it is of the module that was found
next_kinds : (P : Program) (kinds : List ℕ) (S : Table) (wanted found : Option ℕ) → KindsFit P S → kinds_of S ≡ kinds ++ listed wanted → IsStartedIf P wanted found →
    kinds_of S ≡ kinds ++ listed found
next_kinds P kinds S wanted (Some m) fit is same = is ∙ ap (λ w. kinds ++ listed w) same
next_kinds P kinds S wanted None fit is same = elim same [
  | inl none ↦ is ∙ ap (λ w. kinds ++ listed w) none
  | inr past ↦
      let more : kinds_of S ≡ kinds ++ length P ∷ [] = is ∙ ap (λ w. kinds ++ listed w) past in
      let long : length S ≡ length kinds + 1 = sym (length-map S (λ (y : Instance). y.kind)) ∙ ap length more ∙ length_push kinds (length P) in
      let last : slice_index (kinds_of S) (length kinds) ≡ length P = ap (λ xs. slice_index xs (length kinds)) more ∙ get_or-append_seam kinds (length P) [] 0 in
      let at = kinds-at S (length kinds) (omega (arith, long)) in
      let small = fit (length kinds) (omega (arith, long)) in
      absurd (omega (arith, last, at, small))
]

each-take : (P : Program) (T : Table) (events : List Event) (k : ℕ) → EachReady P T events → EachReady P T (take k events)
each-take P T [] zero each = tt
each-take P T [] (suc k) each = tt
each-take P T (e ∷ events) zero each = tt
each-take P T (e ∷ events) (suc k) each = (each.0, each-take P (step P T e) events k each.1)

-- what is known where one of the events comes, of so many before it and with it, and the instances are of these modules
pub record IsHere (P : Program) (events : List Event) (k n : ℕ) (e : Event) (kinds : List ℕ) : Type 0 where
  pub is_event : IsEventOf P kinds e
  pub next : (found : Option ℕ) → IsStartedIf P (started P kinds e) found → kinds ++ listed found ≡ kinds_of (after P (start P) (take n events))
  pub lines : event_lines P (start P) (take n events) ≡ event_lines P (start P) (take k events) ++ event_text P kinds e
  pub rest : List ℕ
  pub all : (event_lines P (start P) (take k events) ++ event_text P kinds e) ++ rest ≡ event_lines P (start P) events

line_is : (P : Program) (T : Table) (e : Event) → IsEventOf P (kinds_of T) e → event_line P T e ≡ event_text P (kinds_of T) e
line_is P T (Fire i b) there =
    let kind = kinds-at T i (rw (length-map T (λ (y : Instance). y.kind)) at there.0) in
    rw kind refl
line_is P T (End i) there = refl

here : (P : Program) → IsGood P → (events : List Event) → EachReady P (start P) events → (k : ℕ) (d : Event) → k < length events → (kinds : List ℕ) →
    kinds ≡ kinds_of (after P (start P) (take k events)) → IsHere P events k (suc k) (get_or events k d) kinds
here P good events each k d lt kinds is =
    let T : Table = after P (start P) (take k events) in
    let e : Event = get_or events k d in
    let t = turn_at P (start P) events k d lt each in
    let fit : (n : ℕ) → KindsFit P (after P (start P) (take n events)) =
    λ n. kinds_fit P (after P (start P) (take n events)) good (record { events = take n events; each_ready = each-take P (start P) events n each; is = refl }) in
    let there : IsEventOf P (kinds_of T) e = ready-event P T e t.ready (fit k) in
    let steps : kinds_of (after P (start P) (take (suc k) events)) ≡ kinds_of T ++ listed (started P (kinds_of T) e) = rw t.goes (kinds-step P T e t.ready) in
    let lines = t.lines ∙ ap (λ line. event_lines P (start P) (take k events) ++ line) (line_is P T e there) in
    rw is (record {
      is_event = there;
      next = λ found same. sym (next_kinds P (kinds_of T) _ (started P (kinds_of T) e) found (fit (suc k)) steps same);
      lines = lines;
      rest = t.rest;
      all = ap (λ text. text ++ t.rest) (sym lines) ∙ t.all;
    })

-- the same of a log
pub here_of : (P : Program) → IsGood P → (log : List LoggedEvent) → EachReady P (start P) (events_shown log) → (k : ℕ) (d : LoggedEvent) → k < length log → (kinds : List ℕ) →
    kinds ≡ kinds_of (after P (start P) (take k (events_shown log))) → IsHere P (events_shown log) k (k + 1) (event_of (slice_index_or log k d)) kinds
here_of P good log each k d lt kinds is =
    subst (λ n. IsHere P (events_shown log) k n (event_of (slice_index_or log k d)) kinds) (sym (add-one k))
    (subst (λ e. IsHere P (events_shown log) k (suc k) e kinds) (get_or-map event_of log k d (event_of d) lt)
    (here P good (events_shown log) each k (event_of d) (rw (length-map log event_of) lt) kinds is))

-- the events of an evaluation by picks are ready in their turn
pub ready_events : (P : Program) (picks : Choice) (n : ℕ) → EachReady P (start P) (events_of P picks n)
ready_events P picks n = (events_by-picked P picks n 0 0 (start P) (sound-start P (mean P 0))).ready
