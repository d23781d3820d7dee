-- The machine of an image runs on, over an input whose first bytes were taken and a sink that has received something.
use Rattle.std.proofs.Common.{◌≡◌, ◌≤◌, ℕ, List, [], refl, subst}
use Rattle.std.specs.Prelude.{drop, option_map}
use Rattle.umix_base.specs.Causes.{Rose, KeepsTelling}
use Rattle.um_machine.specs.declared.stop.Stop.{Stop}
use Rattle.um_machine.specs.declared.stop.Stop.TheVariants.{ReadFault, WriteFault}
use Rattle.um_machine.specs.MachineView.{MachineView}
use Rattle.um_machine.specs.Outside.{MayRest}
use Rattle.um_machine.specs.Runs.{Seen, GoesFromTo, RunEnds}
use Rattle.um_machine.proofs.Alone.{runs_are_alone}
use Rattle.um_machine.proofs.Rests.{some_rest, rose_later}
use Rattle.codex_top.specs.Outside.{Stream, Streams}
use Rattle.codex_top.specs.ResumeCommand.{MachineEnds, ran}
use Rattle.codex_top.specs.RunCommand.{end_of_run}
use Rattle.codex_top.proofs.FromTheStart.{wrote_behind}

pub goes_on : (taken cycles made : ℕ) (m new : MachineView) (before : Streams) (mid : Stream) (now : Streams) (stop : Stop) →
    mid.bytes ≡ option_map (drop taken) before.input.bytes → before.input.faults ≤ mid.faults →
    GoesFromTo (record { machine = m; input = mid.bytes; output = before.output.bytes }) (record { machine = new; input = now.input.bytes; output = now.output.bytes }) (λ s t. RunEnds cycles m new s t stop) →
    KeepsTelling before.output.bytes now.output.bytes → (stop ≡ ReadFault → Rose mid.faults now.input.faults) → (stop ≡ WriteFault → Rose before.output.faults now.output.faults) →
    made ≡ new.cycles → MachineEnds m taken cycles before now (end_of_run cycles made stop)
goes_on taken cycles made m new before mid now stop skipped later leads tells reads writes counted =
    let left = some_rest now.input.bytes in
    let was : Seen = record { machine = m; input = mid.bytes; output = before.output.bytes } in
    let is_now : Seen = record { machine = new; input = now.input.bytes; output = now.output.bytes } in
    let alone = runs_are_alone cycles was is_now left.0 stop tells left.1 leads in
    rw counted (ran new stop (record {
      input = alone.rest;
      had = subst (λ o. MayRest o alone.rest) skipped alone.may;
      rest = left.0;
      out = alone.out;
      stops = alone.ends;
      left = left.1;
      wrote = wrote_behind before.output.bytes now.output.bytes alone.out tells alone.wrote;
      reads = λ e. rose_later before.input.faults mid.faults now.input.faults later (reads e);
      writes = writes;
    }))
