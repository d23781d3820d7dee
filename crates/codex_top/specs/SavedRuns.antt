-- One run over two calls: `save`, and `resume` of what it wrote.
use Rattle.std.specs.Prelude.{◌≡◌, ◌≢◌, ℕ, ◌+◌, ◌^◌, ◌<◌, All, List, ◌++◌, slice_index, Some}
use Rattle.um_word.specs.Scroll.{scroll}
use Rattle.um_word.specs.State.{start_of}
use Rattle.um_machine.specs.declared.stop.Stop.{Stop}
use Rattle.um_machine.specs.MachineView.{MachineView, machine_of, state_of}
use Rattle.um_machine.specs.Runs.{RunEnds}
use Rattle.um_image.specs.Laws.{IsOwnEnd}
use Rattle.codex_top.specs.declared.status.Status.{Status}
use Rattle.codex_top.specs.declared.status.Status.TheVariants.{Done, Refused, ReadFault, WriteFault}
use Rattle.codex_top.specs.declared.status.Status.TheVariants.{Memory}
use Rattle.codex_top.specs.Calls.{Call, EachCall, Has, Wrote}
use Rattle.codex_top.specs.Completeness.{HasWithInput}
use Rattle.codex_top.specs.Endings.{IsTold}
use Rattle.codex_top.specs.Limits.{limits}
use Rattle.codex_top.specs.RunCommand.{end_of_run}
use Rattle.codex_top.specs.Words.{resumes, runs, saves}

-- a status that neither the outside nor want of memory gave
abbrev pub IsOwnStatus : Status → Type 0
IsOwnStatus ReadFault = ⊥
IsOwnStatus WriteFault = ⊥
IsOwnStatus Memory = ⊥
IsOwnStatus status = Unit {0}

-- `save` and `resume` are one run of n + m cycles, by the machine's definition, from the start of
-- these words and on this input. What it wrote went out in the two calls, one part behind the other;
-- what it left of the input is left after the second; and the second has the status and the line of
-- its end, at the run's own cycle. Only a budget line has the number m.
pub record AreOneRun (words input : List ℕ) (n m : ℕ) (save resume : Call) : Type 0 where
  pub first : List ℕ
  pub second : List ℕ
  pub wrote_first : Wrote first save
  pub wrote_second : Wrote second resume
  pub rest : List ℕ
  pub left : resume.now.streams.input.bytes ≡ Some rest
  pub machine : MachineView
  pub stop : Stop
  pub own : IsOwnEnd stop
  pub run : RunEnds (n + m) (machine_of words limits) machine (start_of words input)
      (state_of machine rest (first ++ second)) stop
  pub told : IsTold resume.err_before resume.err_now (end_of_run m machine.cycles stop)
      resume.status

-- `run` of n + m cycles is told as `resume` is: it wrote what the two wrote, and has the same
-- status, and the same line but for the number of a budget.
pub record AreToldAlike (n m : ℕ) (save resume run : Call) : Type 0 where
  pub first : List ℕ
  pub second : List ℕ
  pub wrote_first : Wrote first save
  pub wrote_second : Wrote second resume
  pub wrote_both : Wrote (first ++ second) run
  pub same : run.status ≡ resume.status
  pub made : ℕ
  pub stop : Stop
  pub resumed : IsTold resume.err_before resume.err_now (end_of_run m made stop) resume.status
  pub ran : IsTold run.err_before run.err_now (end_of_run (n + m) made stop) run.status

-- `save` was done, and the shelf still tells what it wrote, under its own name or another. Then
-- `resume` of that is never refused. And on the same input, which is one of bytes, both calls are one
-- run, unless the outside or want of memory ended the second; and each `run` of the scroll for as
-- many cycles is told alike, unless they ended that.
pub record SavedRuns (IsCall : Call → Type 0) : Type 0 where
  pub accepted : (file out image : List ℕ) (n : ℕ) →
      EachCall IsCall (saves file n out) (λ o. Unit {0})
      (λ save. save.status ≡ Done → Has out image save.now → (copy : List ℕ) (m : ℕ) →
      EachCall IsCall (resumes copy m) (Has copy image) (λ resume. resume.status ≢ Refused))
  pub one_run : (file out words input image : List ℕ) (n : ℕ) →
      ((at : ℕ) → slice_index words at < 2 ^ 32) → All (λ byte. byte < 256) input →
      EachCall IsCall (saves file n out) (HasWithInput file (scroll words) input)
      (λ save. save.status ≡ Done → Has out image save.now → (copy : List ℕ) (m : ℕ) →
      EachCall IsCall (resumes copy m) (HasWithInput copy image input)
      (λ resume. IsOwnStatus resume.status → AreOneRun words input n m save resume
      × ((other : List ℕ) →
      EachCall IsCall (runs other (n + m)) (HasWithInput other (scroll words) input)
      (λ run. IsOwnStatus run.status → AreToldAlike n m save resume run))))
