-- What `run` does with the words of a scroll.
use Rattle.std.specs.Prelude.{◌≡◌, ℕ, ◌+◌, List, Ok, Err}
use Rattle.umix_base.specs.Causes.{Rose}
use Rattle.um_word.specs.State.{State, start_of}
use Rattle.um_machine.specs.declared.stop.Stop.{Stop}
use Rattle.um_machine.specs.declared.stop.Stop.TheVariants.{Halted, Budget, ArraysFull, WordsFull}
use Rattle.um_machine.specs.declared.stop.Stop.TheVariants.{ReadFault, WriteFault, Memory}
use Rattle.um_machine.specs.MachineView.{MachineView, machine_of}
use Rattle.um_machine.specs.Outside.{MayRest}
use Rattle.um_machine.specs.Runs.{RunEnds}
use Rattle.codex_top.specs.declared.line.Counted.TheVariants.{Cycles}
use Rattle.codex_top.specs.declared.line.Limit.TheVariants as limit
use Rattle.codex_top.specs.declared.line.Line.TheVariants as line
use Rattle.codex_top.specs.declared.end.Finish.TheVariants.{Done}
use Rattle.codex_top.specs.Endings.{End}
use Rattle.codex_top.specs.Limits.{limits}
use Rattle.codex_top.specs.Outside.{Streams, Received}

-- the end of a run that had so many cycles to make and stopped after so many were made
abbrev pub end_of_run : (cycles made : ℕ) → Stop → End
end_of_run cycles made Halted = Ok Done
end_of_run cycles made Budget = Err (line.Budget cycles Cycles)
end_of_run cycles made ReadFault = Err line.ReadFault
end_of_run cycles made WriteFault = Err line.WriteFault
end_of_run cycles made Memory = Err line.NoMemory
end_of_run cycles made (ArraysFull count) = Err (line.Limited (limit.ArraysFull count) (made + 1))
end_of_run cycles made (WordsFull count) = Err (line.Limited (limit.WordsFull count) (made + 1))
end_of_run cycles made stop = Err (line.Fault stop (made + 1))

-- The scroll was run from its start, under the limits and by the rule of identifiers, and stopped
-- in the state t: its input may be taken to be that of the source, whose rest is left; what the run
-- wrote went out; and where the outside failed, its count rose.
pub record ScrollRuns (words : List ℕ) (cycles : ℕ) (before now : Streams) (t : State)
    (stop : Stop) : Type 0 where
  pub input : List ℕ
  pub had : MayRest before.input.bytes input
  pub machine : MachineView
  pub stops : RunEnds cycles (machine_of words limits) machine (start_of words input) t stop
  pub left : MayRest now.input.bytes t.rest
  pub wrote : Received t.out before.output now.output
  pub reads : stop ≡ ReadFault → Rose before.input.faults now.input.faults
  pub writes : stop ≡ WriteFault → Rose before.output.faults now.output.faults

-- how a run of the words of a scroll ends
pub data ScrollEnds (words : List ℕ) (cycles : ℕ) (before now : Streams) : End → Type 0 where
  ran : (t : State) (stop : Stop) → ScrollRuns words cycles before now t stop →
      ScrollEnds words cycles before now (end_of_run cycles t.cycles stop)
