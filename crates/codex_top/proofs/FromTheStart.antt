-- A run over a sink that has received something is the run from the start, whose bytes went behind.
use Rattle.std.proofs.Common.{◌≡◌, ℕ, List, [], ◌++◌, Option, Some, None, refl, ap, subst}
use Rattle.std.specs.Prelude.{option_map}
use Rattle.umix_base.specs.Causes.{Rose, KeepsTelling}
use Rattle.um_word.specs.State.{State}
use Rattle.um_machine.specs.declared.stop.Stop.{Stop}
use Rattle.um_machine.specs.declared.stop.Stop.TheVariants.{ReadFault, WriteFault}
use Rattle.um_machine.specs.MachineView.{MachineView, state_of, machine_of}
use Rattle.um_machine.specs.Outside.{MayHold}
use Rattle.um_machine.specs.Runs.{Seen, GoesFromTo, RunEnds}
use Rattle.um_machine.proofs.Alone.{runs_are_alone}
use Rattle.um_machine.proofs.Rests.{some_rest}
use Rattle.codex_top.specs.Limits.{limits}
use Rattle.codex_top.specs.Outside.{Streams}
use Rattle.codex_top.specs.RunCommand.{end_of_run, ScrollEnds, ran}

-- what went out, where it is told
pub wrote_behind : (before now : Option (List ℕ)) (bytes : List ℕ) → KeepsTelling before now → ((held : List ℕ) → MayHold before held → MayHold now (held ++ bytes)) →
    now ≡ option_map (λ held. held ++ bytes) before
wrote_behind None None bytes k wrote = refl
wrote_behind None (Some x) bytes k wrote = cc
wrote_behind (Some y) None bytes k wrote = cc
wrote_behind (Some y) (Some x) bytes k wrote = ap Some (wrote y refl)

pub ran_from : (words : List ℕ) (cycles made : ℕ) (m new : MachineView) (before now : Streams) (stop : Stop) → m ≡ machine_of words limits →
    GoesFromTo (record { machine = m; input = before.input.bytes; output = before.output.bytes }) (record { machine = new; input = now.input.bytes; output = now.output.bytes }) (λ s t. RunEnds cycles m new s t stop) →
    KeepsTelling before.output.bytes now.output.bytes → (stop ≡ ReadFault → Rose before.input.faults now.input.faults) → (stop ≡ WriteFault → Rose before.output.faults now.output.faults) →
    made ≡ new.cycles → ScrollEnds words cycles before now (end_of_run cycles made stop)
ran_from words cycles made m new before now stop is leads tells reads writes counted =
    let left = some_rest now.input.bytes in
    let was : Seen = record { machine = m; input = before.input.bytes; output = before.output.bytes } in
    let is_now : Seen = record { machine = new; input = now.input.bytes; output = now.output.bytes } in
    let alone = runs_are_alone cycles was is_now left.0 stop tells left.1 leads in
    let t : State = state_of new left.0 alone.out in
    rw counted (ran t stop (record {
      input = alone.rest;
      had = alone.may;
      machine = new;
      stops = subst (λ c. RunEnds cycles c new (state_of c alone.rest []) t stop) is alone.ends;
      left = left.1;
      wrote = wrote_behind before.output.bytes now.output.bytes alone.out tells alone.wrote;
      reads = reads;
      writes = writes;
    }))
