-- What `resume` does with the machine of an image.
use Rattle.std.specs.Prelude.{◌≡◌, ℕ, List, [], drop, Err, option_map}
use Rattle.umix_base.specs.Causes.{Rose}
use Rattle.um_machine.specs.declared.stop.Stop.{Stop}
use Rattle.um_machine.specs.declared.stop.Stop.TheVariants.{ReadFault, WriteFault}
use Rattle.um_machine.specs.MachineView.{MachineView, state_of}
use Rattle.um_machine.specs.Outside.{MayRest}
use Rattle.um_machine.specs.Runs.{RunEnds}
use Rattle.codex_top.specs.declared.line.Line.TheVariants as line
use Rattle.codex_top.specs.Endings.{End}
use Rattle.codex_top.specs.Outside.{Streams, Received}
use Rattle.codex_top.specs.RunCommand.{end_of_run}

-- The machine of an image ran on, came to this machine, and stopped: its input may be taken to be that
-- of the source without as many bytes as it had taken. What is left of the source, what went out and
-- what failed is as of the run of a scroll.
pub record MachineRuns (saved : MachineView) (taken cycles : ℕ) (before now : Streams)
    (machine : MachineView) (stop : Stop) : Type 0 where
  pub input : List ℕ
  pub had : MayRest (option_map (drop taken) before.input.bytes) input
  pub rest : List ℕ
  pub out : List ℕ
  pub stops : RunEnds cycles saved machine (state_of saved input []) (state_of machine rest out) stop
  pub left : MayRest now.input.bytes rest
  pub wrote : Received out before.output now.output
  pub reads : stop ≡ ReadFault → Rose before.input.faults now.input.faults
  pub writes : stop ≡ WriteFault → Rose before.output.faults now.output.faults

-- how `resume` ends with the machine of an image: the bytes that it had taken couldn't be taken again,
-- and nothing was written; or it ran on
pub data MachineEnds (saved : MachineView) (taken cycles : ℕ) (before now : Streams) :
    End → Type 0 where
  untaken : now.output ≡ before.output → Rose before.input.faults now.input.faults →
      MachineEnds saved taken cycles before now (Err line.ReadFault)
  ran : (machine : MachineView) (stop : Stop) →
      MachineRuns saved taken cycles before now machine stop →
      MachineEnds saved taken cycles before now (end_of_run cycles machine.cycles stop)
