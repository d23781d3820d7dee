-- The wires of a list of starts, one after the other.
use Rattle.std.proofs.Common.{◌≡◌, ℕ, ◌+◌, ◌<◌, List, [], ◌∷◌, ◌++◌, length, take, drop, map, get_or, option_map, Option, Some, None, Vec, Ok, Err, ap, sym, subst, ◌∙◌}
use Rattle.std.proofs.lemmas.List.{take_more, take-append-drop, map-append}
use Rattle.std.proofs.lemmas.Option.{slice_get_within, slice_get-get_or, slice_get-map, get_or_from_slice_get}
use Rattle.std.specs.Global.{Global}
use Rattle.std.specs.List.{slice_get}
use Rattle.two_d.specs.Faults.{TextFault}
use Rattle.two_d.specs.Ports.{Drawing}
use Rattle.two_d.specs.Reading.{Reading, Refuses, Gave, gave, goes_on, the, it, each, each_after, Then}
use Rattle.two_d.specs.Wires.{Position, StartsAt, Trace}
use Rattle.two_d.specs.Clean.{WireForm, IsWire, wire_at}
use Rattle.two_d.specs.declared.module.Origin.{Origin}
use Rattle.two_d.specs.declared.module.To.{To}
use Rattle.two_d.proofs.InOrder.{then_ok, gave_is, each_after_more, each_after_stops}
use Rattle.two_d.proofs.SomeCells.{wire_gave}
use Rattle.wire_trace.specs.declared.marks.Marks.{Marks}
use Rattle.wire_trace.specs.declared.starts.Start.{Start}
use Rattle.wire_trace.specs.declared.wire.Wire.{Wire}
use Rattle.wire_trace.specs.Answers.{forms_of}
use Rattle.wire_trace.specs.inner.Positions.{position_of}
use Rattle.wire_trace.specs.inner.Starts.{positions_of, HaveOrigins}
use Rattle.wire_trace.specs.inner.Traces.{AreOccupied, IsTraced}
use Rattle.wire_trace.proofs.EachLemmas.{cut}

-- one more at the end
pub each_more : {F A B : Type 0} (k : A → Reading F B) (xs : List A) (x : A) (ys : List B) (y : B) → each k xs (Ok ys) → k x (Ok y) → each k (xs ++ x ∷ []) (Ok (ys ++ y ∷ []))
each_more k [] x ys y done here =
    let same : ys ≡ [] = (let e = gave_is [] (Ok ys) done in cc) in
    subst (λ l. each k (x ∷ []) (Ok (l ++ y ∷ []))) (sym same) (goes_on y here (goes_on [] gave gave))
each_more k (z ∷ xs) x ys y done here =
    let first = then_ok (k z) (λ w. Then (each k xs) (λ ws. Gave (w ∷ ws))) ys done in
    let rest = then_ok (each k xs) (λ ws. Gave (first.0 ∷ ws)) ys first.2 in
    let same : ys ≡ first.0 ∷ rest.0 = (let e = gave_is (first.0 ∷ rest.0) (Ok ys) rest.2 in cc) in
    subst (λ l. each k (z ∷ (xs ++ x ∷ [])) (Ok (l ++ y ∷ []))) (sym same) (goes_on first.0 first.1 (goes_on (rest.0 ++ y ∷ []) (each_more k xs x rest.0 y rest.1 here) gave))

take_next : {A : Type 0} (xs : List A) (n : ℕ) (x : A) → slice_get xs n ≡ Some x → take (n + 1) xs ≡ take n xs ++ x ∷ []
take_next xs n x at = take_more xs n x (slice_get_within xs n x at) ∙ ap (λ y. take n xs ++ y ∷ []) (get_or_from_slice_get xs n x x at)

cut_at : {A : Type 0} (xs : List A) (n : ℕ) (x : A) → slice_get xs n ≡ Some x → take n xs ++ x ∷ drop (n + 1) xs ≡ xs
cut_at xs n x at = ap (λ l. take n xs ++ l) (sym (cut xs n x at)) ∙ take-append-drop n xs

-- the wires of the first n starts
pub record AreBegun (m : Drawing) (starts : List Position) (n : ℕ) (marks : Marks) (wires : List WireForm) : Type 0 where
  pub traces : List Trace
  pub read : each_after (wire_at m) [] (take n starts) (Ok traces)
  pub occupied : AreOccupied m marks traces
  pub shown : each {F = TextFault} (λ trace. the (IsWire m trace)) traces (Ok wires)

pub begun_first : (m : Drawing) (starts : List Position) (marks : Marks) → AreOccupied m marks [] → AreBegun m starts 0 marks []
begun_first m starts marks none = record { traces = []; read = gave; occupied = none; shown = gave }

pub begun_next : (m : Drawing) (starts : List Position) (n : ℕ) (old new : Marks) (wires : List WireForm) (start : Position) (from : Origin) (to : To) → slice_get starts n ≡ Some start → StartsAt m start from
    → ((earlier : List Trace) → AreOccupied m old earlier → IsTraced m earlier start to new) → AreBegun m starts n old wires → AreBegun m starts (n + 1) new (wires ++ (record { from = from; to = to }) ∷ [])
begun_next m starts n old new wires start from to at begins answers begun =
    let t = answers begun.traces begun.occupied in
    let is = wire_gave m start (from, begins) begun.traces t.trace t.read in
    record {
      traces = begun.traces ++ t.trace ∷ [];
      read = subst (λ xs. each_after (wire_at m) [] xs (Ok (begun.traces ++ t.trace ∷ []))) (sym (take_next starts n start at)) (each_after_more (wire_at m) [] (take n starts) begun.traces start t.trace begun.read t.read);
      occupied = t.occupied;
      shown = each_more (λ trace. the (IsWire m trace)) begun.traces t.trace wires (record { from = from; to = to }) begun.shown
          (it (record { from = from; to = to }) (record { first = start; last = t.last; is_first = is.0.way.first; is_last = t.is_last; starts = begins; ends = t.ends }));
    }

refused_at : (m : Drawing) (starts : List Position) (n : ℕ) (start : Position) (traces : List Trace) (fault : Option TextFault) → slice_get starts n ≡ Some start → each_after (wire_at m) [] (take n starts) (Ok traces)
    → Refuses (wire_at m traces start) fault → Refuses (each_after (wire_at m) [] starts) fault
refused_at m starts n start traces None at read bad = tt
refused_at m starts n start traces (Some f) at read bad =
    subst (λ xs. each_after (wire_at m) [] xs (Err f)) (cut_at starts n start at) (each_after_stops (wire_at m) [] (take n starts) (drop (n + 1) starts) traces start f read bad)

pub begun_refused : (m : Drawing) (starts : List Position) (n : ℕ) (marks : Marks) (wires : List WireForm) (start : Position) (fault : Option TextFault) → slice_get starts n ≡ Some start
    → ((earlier : List Trace) → AreOccupied m marks earlier → Refuses (wire_at m earlier start) fault) → AreBegun m starts n marks wires → Refuses (each_after (wire_at m) [] starts) fault
begun_refused m starts n marks wires start fault at bad begun = refused_at m starts n start begun.traces fault at begun.read (bad begun.traces begun.occupied)

abbrev form : Wire → WireForm
form w = record { from = w.from; to = w.to }

start_there : (starts : List Start) (n : ℕ) (start : Start) → n < length starts → slice_get (positions_of starts) n ≡ Some (position_of (get_or starts n start).at)
start_there starts n start less =
    slice_get-map (λ (s : Start). position_of s.at) starts n ∙ ap (option_map (λ (s : Start). position_of s.at)) (slice_get-get_or starts n start less)

pub next_start : (m : Drawing) (starts : List Start) (n : ℕ) (start : Start) (old new : Marks) (wires more : Vec Wire Global) (to : To) → n < length starts → HaveOrigins m starts
    → ((earlier : List Trace) → AreOccupied m old earlier → IsTraced m earlier (position_of (get_or starts n start).at) to new)
    → more.items ≡ wires.items ++ (record { from = (get_or starts n start).from; to = to }) ∷ [] → AreBegun m (positions_of starts) n old (forms_of wires) → AreBegun m (positions_of starts) (n + 1) new (forms_of more)
next_start m starts n start old new wires more to less shown answers pushed begun =
    let s = get_or starts n start in
    let forms : forms_of more ≡ forms_of wires ++ (record { from = s.from; to = to }) ∷ [] = ap (map form) pushed ∙ map-append form wires.items ((record { from = s.from; to = to }) ∷ []) in
    subst (AreBegun m (positions_of starts) (n + 1) new) (sym forms)
    (begun_next m (positions_of starts) n old new (forms_of wires) (position_of s.at) s.from to (start_there starts n start less) (shown n start less) answers begun)

pub none_begun : (m : Drawing) (starts : List Start) (marks : Marks) (wires : Vec Wire Global) → wires.items ≡ [] → AreOccupied m marks [] → AreBegun m (positions_of starts) 0 marks (forms_of wires)
none_begun m starts marks wires empty none =
    let forms : forms_of wires ≡ [] = ap (map form) empty in
    subst (AreBegun m (positions_of starts) 0 marks) (sym forms) (begun_first m (positions_of starts) marks none)

pub start_refused : (m : Drawing) (starts : List Start) (n : ℕ) (start : Start) (marks : Marks) (wires : Vec Wire Global) (fault : Option TextFault) → n < length starts
    → ((earlier : List Trace) → AreOccupied m marks earlier → Refuses (wire_at m earlier (position_of (get_or starts n start).at)) fault) → AreBegun m (positions_of starts) n marks (forms_of wires)
    → Refuses (each_after (wire_at m) [] (positions_of starts)) fault
start_refused m starts n start marks wires fault less bad begun =
    begun_refused m (positions_of starts) n marks (forms_of wires) (position_of (get_or starts n start).at) fault (start_there starts n start less) bad begun
