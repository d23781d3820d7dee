-- All lines were written but those of the callers that are left.
use Rattle.std.specs.Prelude.{◌≤◌, All, reverse, length}
use Rattle.two_d.specs.Texts.{caller_line, HasBox}
use Rattle.two_d.proofs.Written.{IsWriting}
use Rattle.two_d.proofs.texts.put_callers.Given as goal

abbrev pub invariant-loop-caller : goal.invariant-loop-caller
invariant-loop-caller g l = record {
  writing : IsWriting (caller_line l.program) l.initial.callers.items l.callers.items (g.S.Sink.written l.initial.sink) (g.S.Sink.written l.sink);
  later : g.S.Sink.faults l.initial.sink ≤ g.S.Sink.faults l.sink;
  boxes : All (HasBox l.program) (reverse l.callers.items);
}

abbrev pub decreases-loop-caller : goal.decreases-loop-caller
decreases-loop-caller g l = length l.callers.items
