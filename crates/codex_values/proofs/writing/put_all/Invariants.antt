-- The pieces so far were written.
use Rattle.std.proofs.Common.{◌≤◌, take}
use Rattle.std.specs.List.{flat_map}
use Rattle.codex_values.specs.Writing.{HasWritten}
use Rattle.codex_values.proofs.writing.put_all.Given as goal

abbrev pub invariant-loop-piece : goal.invariant-loop-piece
invariant-loop-piece g l = record {
  written : HasWritten (flat_map (λ piece. piece.now) (take l.piece-index l.pieces)) (g.S.Sink.written l.initial.sink) (g.S.Sink.written l.sink);
  later : g.S.Sink.faults l.initial.sink ≤ g.S.Sink.faults l.sink;
}
