-- What was written and what is on the stack are the printing.
use Rattle.std.specs.Prelude.{◌≤◌}
use Rattle.codex_values.specs.Value.{show}
use Rattle.codex_values.specs.Store.{value_at}
use Rattle.codex_values.specs.inner.Pieces.{IsPrinting, stack_weight}
use Rattle.codex_values.proofs.store.ValueStore.print.Given as goal

abbrev pub invariant-loop-piece : goal.invariant-loop-piece
invariant-loop-piece g l = record {
  printing : IsPrinting l.self l.stack.items (show (value_at l.self l.at)) (g.S.Sink.written l.initial.sink) (g.S.Sink.written l.sink);
  later : g.S.Sink.faults l.initial.sink ≤ g.S.Sink.faults l.sink;
}

abbrev pub decreases-loop-piece : goal.decreases-loop-piece
decreases-loop-piece g l = stack_weight l.self l.stack.items
