-- The parts of the reading of the wires, one after the other.
use Rattle.std.proofs.Common.{List, [], Option, Some, None, Vec, Result, Ok, Err}
use Rattle.std.specs.Prelude.{⊤}
use Rattle.std.specs.Global.{Global}
use Rattle.two_d.specs.Faults.{TextFault, stray}
use Rattle.two_d.specs.Places.{IsFirstPlace}
use Rattle.two_d.specs.Ports.{Drawing}
use Rattle.two_d.specs.Reading.{Refuses, Then, The, RefusedAt, goes_on, stops, it, each, each_after, refuse_at}
use Rattle.two_d.specs.Wires.{Position, Trace}
use Rattle.two_d.specs.Clean.{ports_at, AreStarts, wire_at, IsStray, WireForm, IsWire, wires_of}
use Rattle.umix_base.specs.declared.place.Place.{Place}
use Rattle.wire_trace.specs.declared.marks.Marks.{Marks}
use Rattle.wire_trace.specs.declared.starts.Start.{Start}
use Rattle.wire_trace.specs.declared.wire.Wire.{Wire}
use Rattle.wire_trace.specs.Answers.{forms_of}
use Rattle.wire_trace.specs.inner.Lists.{AreTraced}
use Rattle.wire_trace.specs.inner.Starts.{HasStarts, positions_of}
use Rattle.wire_trace.specs.inner.Traces.{AreOccupied}

pub all_starts : (m : Drawing) (starts : List Start) → HasStarts m (λ (_ : Place). ⊤) starts → AreStarts m (positions_of starts)
all_starts m starts has = record {
  in_order = has.in_order;
  each = λ s. ((λ there. ((has.each s).0 there).0), (λ is. (has.each s).1 (is, tt)));
}

-- each side of each box has one port at most
abbrev pub HavePorts : Drawing → Type 0
HavePorts m = (units : List (Unit {0})) × each (ports_at m) m.boxes (Ok units)

from_starts : (m : Drawing) → HavePorts m → (starts : List Position) → AreStarts m starts → (r : Result (List WireForm) TextFault)
    → Then (each_after (wire_at m) [] starts) (λ traces. Then (RefusedAt stray (IsFirstPlace (IsStray m traces))) (λ _. each (λ trace. The (IsWire m trace)) traces)) r → wires_of m r
from_starts m ports starts are r rest = goes_on ports.0 ports.1 (goes_on starts (it starts are) rest)

pub port_refused : (m : Drawing) (fault : Option TextFault) → Refuses (each (ports_at m) m.boxes) fault → Refuses (wires_of m) fault
port_refused m None bad = tt
port_refused m (Some f) bad = stops f bad

pub wire_refused : (m : Drawing) (starts : List Start) (fault : Option TextFault) → HavePorts m → HasStarts m (λ (_ : Place). ⊤) starts → Refuses (each_after (wire_at m) [] (positions_of starts)) fault → Refuses (wires_of m) fault
wire_refused m starts None ports has bad = tt
wire_refused m starts (Some f) ports has bad = from_starts m ports (positions_of starts) (all_starts m starts has) (Err f) (stops f bad)

cell_refused : (m : Drawing) (starts : List Position) (traces : List Trace) (fault : Option TextFault) → HavePorts m → AreStarts m starts → each_after (wire_at m) [] starts (Ok traces)
    → Refuses (refuse_at stray (IsFirstPlace (IsStray m traces))) fault → Refuses (wires_of m) fault
cell_refused m starts traces None ports are read bad = tt
cell_refused m starts traces (Some f) ports are read bad = from_starts m ports starts are (Err f) (goes_on traces read (stops f bad))

pub stray_refused_in : (m : Drawing) (starts : List Start) (marks : Marks) (wires : Vec Wire Global) (fault : Option TextFault) → HavePorts m → HasStarts m (λ (_ : Place). ⊤) starts → AreTraced m (positions_of starts) marks wires
    → ((traces : List Trace) → AreOccupied m marks traces → Refuses (refuse_at stray (IsFirstPlace (IsStray m traces))) fault) → Refuses (wires_of m) fault
stray_refused_in m starts marks wires fault ports has traced bad =
    cell_refused m (positions_of starts) traced.traces fault ports (all_starts m starts has) traced.read (bad traced.traces traced.occupied)

pub wires_read : (m : Drawing) (starts : List Start) (marks : Marks) (wires : Vec Wire Global) → HavePorts m → HasStarts m (λ (_ : Place). ⊤) starts → AreTraced m (positions_of starts) marks wires
    → ((traces : List Trace) → AreOccupied m marks traces → refuse_at stray (IsFirstPlace (IsStray m traces)) (Ok tt)) → wires_of m (Ok (forms_of wires))
wires_read m starts marks wires ports has traced free =
    from_starts m ports (positions_of starts) (all_starts m starts has) (Ok (forms_of wires)) (goes_on traced.traces traced.read (goes_on tt (free traced.traces traced.occupied) traced.shown))
