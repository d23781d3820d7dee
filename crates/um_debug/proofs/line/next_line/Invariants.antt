use Rattle.std.proofs.Common.{◌≡◌, ◌≤◌, length}
use Rattle.um_debug.proofs.Taking.{Taking}
use Rattle.um_debug.proofs.line.next_line.Given as goal

abbrev pub invariant-loop : goal.invariant-loop
invariant-loop g l = record {
  taking : Taking (g.I.Source.rest l.initial.commands) (g.I.Source.rest l.commands) l.line;
  many : length l.line ≡ l.counter;
  later : g.I.Source.faults l.initial.commands ≤ g.I.Source.faults l.commands;
}
