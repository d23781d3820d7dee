use Rattle.std.proofs.Common.{◌≡◌, ◌+◌, ◌≤◌, false}
use Rattle.std.specs.Prelude.{is_some}
use Rattle.um_machine.specs.declared.stop.Stop.TheVariants.{Budget}
use Rattle.um_machine.specs.MachineView.{IsWhole}
use Rattle.um_machine.specs.Runs.{seen_by, GoesFromTo, RunEnds}
use Rattle.um_image.proofs.Taking.{Takes}
use Rattle.um_image.proofs.counting.run_counted.Given as goal

abbrev pub invariant-loop : goal.invariant-loop
invariant-loop g l =
    let seen = seen_by g.I.Source g.O.Sink in
    record {
      running : l.machine.halted ≡ false;
      whole : IsWhole l.machine;
      limits : l.machine.limits ≡ l.initial.machine.limits;
      cycles : l.machine.cycles ≤ l.initial.machine.cycles + l.counter;
      fewer : l.initial.machine.cycles + l.taken ≤ l.machine.cycles;
      source : is_some (g.I.Source.rest l.input) ≡ is_some (g.I.Source.rest l.initial.input);
      sink : is_some (g.O.Sink.written l.out) ≡ is_some (g.O.Sink.written l.initial.out);
      reads : g.I.Source.faults l.initial.input ≤ g.I.Source.faults l.input;
      writes : g.O.Sink.faults l.initial.out ≤ g.O.Sink.faults l.out;
      run : GoesFromTo (seen l.initial.machine l.initial.input l.initial.out) (seen l.machine l.input l.out)
          (λ s t. RunEnds l.counter l.initial.machine l.machine s t Budget × Takes s t l.taken);
    }
