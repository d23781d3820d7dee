-- What the tracing of a list of wires answers.
use Rattle.std.specs.Prelude.{List, [], Result, Ok, MatchResult, Vec}
use Rattle.std.specs.Global.{Global}
use Rattle.two_d.specs.Faults.{TextFault}
use Rattle.two_d.specs.Ports.{Drawing}
use Rattle.two_d.specs.Reading.{Refuses, the, each, each_after}
use Rattle.two_d.specs.Wires.{Position, Trace}
use Rattle.two_d.specs.Clean.{IsWire, wire_at}
use Rattle.wire_trace.specs.declared.fault.WireFault.{WireFault}
use Rattle.wire_trace.specs.declared.marks.Marks.{Marks}
use Rattle.wire_trace.specs.declared.wire.Wire.{Wire}
use Rattle.wire_trace.specs.Answers.{forms_of, wire_fault_of}
use Rattle.wire_trace.specs.inner.Traces.{AreOccupied}

-- the traces of wires from these starts, each after those before it: they have been marked, and
-- these are their wires
pub record AreTraced (m : Drawing) (starts : List Position) (marks : Marks) (wires : Vec Wire Global) : Type 0 where
  pub traces : List Trace
  pub read : each_after (wire_at m) [] starts (Ok traces)
  pub occupied : AreOccupied m marks traces
  pub shown : each {F = TextFault} (λ trace. the (IsWire m trace)) traces (Ok (forms_of wires))

-- the wires, or the first fault
abbrev pub ListAnswers : Drawing → List Position → Result (Vec Wire Global) WireFault → Marks → Type 0
ListAnswers m starts result marks =
    MatchResult result (λ wires. AreTraced m starts marks wires)
    (λ e. Refuses (each_after (wire_at m) [] starts) (wire_fault_of e))
