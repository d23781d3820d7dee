use Rattle.std.proofs.Common.{◌≡◌, ◌+◌, ◌≤◌, ℕ, false, List}
use Rattle.std.specs.Prelude.{is_some}
use Rattle.um_machine.specs.MachineView.{state_of}
use Rattle.um_machine.specs.Outside.{MayRest, MayHold}
use Rattle.um_machine.specs.inner.OperatorCalls.{placed}
use Rattle.um_machine.proofs.Cycles.{Made}
use Rattle.um_machine.proofs.machine.Machine.run.Given as goal

abbrev pub invariant-loop-made : goal.invariant-loop-made
invariant-loop-made g l = record {
  running : l.self.halted ≡ false;
  cycles : l.self.cycles ≡ l.initial.self.cycles;
  within : l.made ≤ l.cycles;
  limits : l.self.limits ≡ l.initial.self.limits;
  source : is_some (g.I.Source.rest l.input) ≡ is_some (g.I.Source.rest l.initial.input);
  sink : is_some (g.O.Sink.written l.out) ≡ is_some (g.O.Sink.written l.initial.out);
  reads : g.I.Source.faults l.initial.input ≤ g.I.Source.faults l.input;
  writes : g.O.Sink.faults l.initial.out ≤ g.O.Sink.faults l.out;
  made : (before : List ℕ → List ℕ) × ((left : List ℕ) → MayRest (g.I.Source.rest l.input) left → MayRest (g.I.Source.rest l.initial.input) (before left) × ((held : List ℕ) → MayHold (g.O.Sink.written l.initial.out) held → Made l.made l.initial.self (state_of l.initial.self (before left) held) (placed l.self l.finger (l.initial.self.cycles + l.made)) left (g.O.Sink.written l.out)));
}
