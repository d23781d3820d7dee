-- What the tracing of one wire answers, and what the marks tell of the traces so far.
use Rattle.std.specs.Prelude.{◌≡◌, ◌↔◌, ◌-◌, List, [], ◌∷◌, ◌++◌, length, slice_get, Any, Some, Ok, Result, MatchResult}
use Rattle.two_d.specs.Places.{Covers}
use Rattle.two_d.specs.Ports.{Drawing}
use Rattle.two_d.specs.Reading.{Refuses}
use Rattle.two_d.specs.Wires.{Position, Trace, EndsAt, Collide}
use Rattle.two_d.specs.Clean.{wire_at}
use Rattle.two_d.specs.declared.module.To.{To}
use Rattle.wire_trace.specs.declared.fault.WireFault.{WireFault}
use Rattle.wire_trace.specs.declared.marks.Marks.{Marks}
use Rattle.wire_trace.specs.Answers.{wire_fault_of}
use Rattle.wire_trace.specs.inner.Ways.{IsOccupied}

-- a cell is occupied on an axis exactly where some trace passes it on that axis
abbrev pub AreOccupied : Drawing → Marks → List Trace → Type 0
AreOccupied m marks traces = (t : Position) → Covers m.frame t.place →
    IsOccupied marks t ↔ Any (Any (Collide m t)) traces

-- the trace of a wire, after earlier ones, which ends at an end and has been marked
pub record IsTraced (m : Drawing) (earlier : List Trace) (start : Position) (end : To) (marks : Marks) : Type 0 where
  pub trace : Trace
  pub read : wire_at m earlier start (Ok trace)
  pub last : Position
  pub is_last : slice_get trace (length trace - 1) ≡ Some last
  pub ends : EndsAt m last end
  pub occupied : AreOccupied m marks (earlier ++ trace ∷ [])

-- the end of the wire, or its first fault
abbrev pub TraceAnswers : Drawing → List Trace → Position → Result To WireFault → Marks → Type 0
TraceAnswers m earlier start result marks =
    MatchResult result (λ end. IsTraced m earlier start end marks)
    (λ e. Refuses (wire_at m earlier start) (wire_fault_of e))
