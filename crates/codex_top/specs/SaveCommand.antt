-- What `save` does with the words of a scroll.
use Rattle.std.specs.Prelude.{ℕ, List}
use Rattle.um_word.specs.State.{State}
use Rattle.um_machine.specs.declared.stop.Stop.{Stop}
use Rattle.um_machine.specs.MachineView.{MachineView, machine_of}
use Rattle.um_machine.specs.Outside.{MayRest}
use Rattle.um_image.specs.Image.{image_of}
use Rattle.um_image.specs.Laws.{IsSavedEnd, SavedRun}
use Rattle.codex_top.specs.Endings.{End}
use Rattle.codex_top.specs.Limits.{limits}
use Rattle.codex_top.specs.Outside.{Outside, Streams, Received, IsOnlyRead}
use Rattle.codex_top.specs.RunCommand.{end_of_run, ScrollRuns}
use Rattle.codex_top.specs.Sending.{FileWritten}

-- The scroll was run from its start under the limits, halted or made all its cycles, and came to this
-- machine, having taken so many bytes: its input may be taken to be that of the source, whose rest is
-- left, and what it wrote went out.
pub record ScrollSaved (words : List ℕ) (cycles : ℕ) (before now : Streams)
    (machine : MachineView) (taken : ℕ) : Type 0 where
  pub input : List ℕ
  pub had : MayRest before.input.bytes input
  pub rest : List ℕ
  pub out : List ℕ
  pub run : SavedRun cycles (machine_of words limits) machine input rest out taken
  pub left : MayRest now.input.bytes rest
  pub wrote : Received out before.output now.output

-- how `save` ends with the words of a scroll: where the run halted or made all its cycles, the image of
-- its machine is written into a file; where it didn't, it ends as `run` does, and no file changes
pub data SavesInto (out words : List ℕ) (cycles : ℕ) (before now : Outside) : End → Type 0 where
  saved : (machine : MachineView) (taken : ℕ) (end : End) →
      ScrollSaved words cycles before.streams now.streams machine taken →
      FileWritten out (image_of machine taken) before.shelf now.shelf end →
      SavesInto out words cycles before now end
  stopped : (t : State) (stop : Stop) →
      ScrollRuns words cycles before.streams now.streams t stop →
      (IsSavedEnd stop → ⊥) → IsOnlyRead before.shelf now.shelf →
      SavesInto out words cycles before now (end_of_run cycles t.cycles stop)
