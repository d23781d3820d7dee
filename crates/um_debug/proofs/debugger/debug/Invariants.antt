use Rattle.std.proofs.Common.{◌≡◌, ◌≤◌, ℕ, List, length}
use Rattle.std.specs.Prelude.{is_some}
use Rattle.um_machine.specs.Runs.{seen_by}
use Rattle.um_debug.proofs.Debugged.{Passed, Obeyed}
use Rattle.um_debug.proofs.debugger.debug.Given as goal

abbrev pub invariant-loop : goal.invariant-loop
invariant-loop g l = record {
  lines : (lines : List (List ℕ)) × (length lines ≡ l.counter) × Passed (g.I.Source.rest l.initial.commands) (g.I.Source.rest l.commands) lines × Obeyed lines (seen_by g.J.Source g.O.Sink l.initial.machine l.initial.input l.initial.out) (seen_by g.J.Source g.O.Sink l.machine l.input l.out) l.points;
  limits : l.machine.limits ≡ l.initial.machine.limits;
  commands : is_some (g.I.Source.rest l.commands) ≡ is_some (g.I.Source.rest l.initial.commands);
  source : is_some (g.J.Source.rest l.input) ≡ is_some (g.J.Source.rest l.initial.input);
  sink : is_some (g.O.Sink.written l.out) ≡ is_some (g.O.Sink.written l.initial.out);
  asks : g.I.Source.faults l.initial.commands ≤ g.I.Source.faults l.commands;
  reads : g.J.Source.faults l.initial.input ≤ g.J.Source.faults l.input;
  writes : g.O.Sink.faults l.initial.out ≤ g.O.Sink.faults l.out;
}
