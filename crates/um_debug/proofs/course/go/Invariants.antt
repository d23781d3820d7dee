use Rattle.std.proofs.Common.{◌≡◌, ◌+◌, ◌≤◌, ◌<◌}
use Rattle.std.specs.Prelude.{is_some}
use Rattle.um_machine.specs.MachineView.{IsWhole}
use Rattle.um_machine.specs.Runs.{seen_by}
use Rattle.um_debug.specs.inner.Calls.{AreWords}
use Rattle.um_debug.proofs.Pointed.{Went}
use Rattle.um_debug.proofs.course.go.Given as goal

abbrev pub invariant-loop : goal.invariant-loop
invariant-loop g l = record {
  went : Went l.points l.counter (seen_by g.I.Source g.O.Sink l.initial.machine l.initial.input l.initial.out) (seen_by g.I.Source g.O.Sink l.machine l.input l.out);
  counted : l.machine.cycles ≤ l.initial.machine.cycles + l.counter;
  limits : l.machine.limits ≡ l.initial.machine.limits;
  whole : 0 < l.counter → IsWhole l.machine;
  source : is_some (g.I.Source.rest l.input) ≡ is_some (g.I.Source.rest l.initial.input);
  sink : is_some (g.O.Sink.written l.out) ≡ is_some (g.O.Sink.written l.initial.out);
  reads : g.I.Source.faults l.initial.input ≤ g.I.Source.faults l.input;
  writes : g.O.Sink.faults l.initial.out ≤ g.O.Sink.faults l.out;
  words : AreWords l.machine.arrays l.points.watches l.words;
}
