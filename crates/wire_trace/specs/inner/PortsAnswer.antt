-- What the code answers of the ports of all boxes.
use Rattle.std.specs.Prelude.{List, Result, Ok, MatchResult}
use Rattle.two_d.specs.Ports.{Drawing}
use Rattle.two_d.specs.Reading.{each, Refuses}
use Rattle.two_d.specs.Clean.{ports_at}
use Rattle.wire_trace.specs.declared.fault.WireFault.{WireFault}
use Rattle.wire_trace.specs.Answers.{wire_fault_of}

-- each side has one port at most, or the fault is the first
abbrev pub PortsAnswer : Drawing → Result (Unit {0}) WireFault → Type 0
PortsAnswer m result =
    MatchResult result (λ _. (units : List (Unit {0})) × each (ports_at m) m.boxes (Ok units))
    (λ e. Refuses (each (ports_at m) m.boxes) (wire_fault_of e))
