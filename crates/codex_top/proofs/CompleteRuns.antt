-- Completeness of the commands that run a machine.
use Rattle.std.proofs.Common.{◌≡◌, ◌⊎◌, ℕ, ◌≤◌, Bool, true, false, List, [], length, refl, sym, ap, ◌∙◌, subst, inl, inr}
use Rattle.std.specs.Prelude.{drop, option_map}
use Rattle.umix_base.specs.Causes.{Rose}
use Rattle.um_word.specs.Loads.{state_in}
use Rattle.um_word.specs.Rule.{Identifiers, ruled}
use Rattle.um_word.specs.Run.{Standing, Stands, Failed}
use Rattle.um_word.specs.Scroll.{most_scroll_bytes, scroll}
use Rattle.um_word.specs.State.{State, start_of}
use Rattle.um_machine.specs.declared.stop.Stop.{Stop}
use Rattle.um_machine.specs.declared.stop.Stop.TheVariants as stop
use Rattle.um_machine.specs.MachineView.{MachineView, machine_of, state_of}
use Rattle.um_machine.specs.Outside.{MayRest}
use Rattle.um_machine.specs.Runs.{EndsAs, RunEnds}
use Rattle.um_machine.specs.Stops.{stop_of, unfailed_end}
use Rattle.um_image.specs.Image.{HasImage, image_of}
use Rattle.um_image.specs.Laws.{IsSavedEnd, SavedRun}
use Rattle.um_image.proofs.Both.{images_tell_apart}
use Rattle.um_image.proofs.Resumed.{saved_stands}
use Rattle.codex_top.specs.declared.status.Status.TheVariants as status
use Rattle.codex_top.specs.Calls.{Call, Has, IsOfCodex, Wrote, status_of_end}
use Rattle.codex_top.specs.Commands.{ResumeEnds, RunCommandEnds, SaveEnds}
use Rattle.codex_top.specs.Completeness.{AnswersAs, HasWithInput, IsUnfailed, RunsComplete, SaveAnswers, machine_in, stop_in}
use Rattle.codex_top.specs.Endings.{End}
use Rattle.codex_top.specs.Limits.{limits}
use Rattle.codex_top.specs.Reading.{IsImageOf, IsNoImage, IsNoScroll, IsScroll}
use Rattle.codex_top.specs.ResumeCommand.{MachineEnds}
use Rattle.codex_top.specs.ResumeCommand as resuming
use Rattle.codex_top.specs.RunCommand.{ScrollEnds, end_of_run}
use Rattle.codex_top.specs.RunCommand as running
use Rattle.codex_top.specs.SaveCommand.{SavesInto}
use Rattle.codex_top.specs.SaveCommand as saving
use Rattle.codex_top.specs.Sending.{FileWritten}
use Rattle.codex_top.specs.Sending as sending
use Rattle.codex_top.specs.Words.{Asks}
use Rattle.codex_top.specs.Words as jobs
use Rattle.codex_top.proofs.Compiled.{AreWords, right_scroll, run_on, words_read}
use Rattle.codex_top.proofs.Complete.{EndsWith, IsOrWants, begun, call_gives, unfailed_status}
use Rattle.codex_top.proofs.Ended.{ended}
use Rattle.codex_top.proofs.Headlines.{is_written}
use Rattle.codex_top.proofs.Resuming.{right_image}

-- the end of a run that stands so
abbrev pub run_end : ℕ → Standing Identifiers → End
run_end cycles x = end_of_run cycles (state_in x).cycles (stop_in x)

halts_or_spent : (halted : Bool) → IsSavedEnd (unfailed_end halted)
halts_or_spent true = tt
halts_or_spent false = tt

-- a machine under the program's limits is that of its state
same_machine : (m : MachineView) (rest out : List ℕ) → m.limits ≡ limits →
    m ≡ machine_in (state_of m rest out) m.identifiers
same_machine m rest out e = λ j. record {
  registers = m.registers;
  finger = m.finger;
  arrays = m.arrays;
  identifiers = m.identifiers;
  limits = e j;
  cycles = m.cycles;
  halted = m.halted;
}

module _ (c : Call) (unfailed : IsUnfailed c) (cycles : ℕ) where
  stood_so : (x : Standing Identifiers) (new : MachineView) (t : State) (why : Stop) →
      EndsAs x new t why → Wrote t.out c →
      EndsWith c (run_end cycles x) (state_in x).out (end_of_run cycles t.cycles why)
  stood_so (Stands u i) new t why e wrote = (
    ap (end_of_run cycles t.cycles) e.2
        ∙ ap (λ (v : State). end_of_run cycles v.cycles (unfailed_end v.halted)) (sym e.0),
    subst (λ (v : State). Wrote v.out c) (sym e.0) wrote,
  )
  stood_so (Failed u i fault) new t why e wrote = (
    ap (end_of_run cycles t.cycles) e.2
        ∙ ap (λ (v : State). end_of_run cycles v.cycles (stop_of fault)) (sym e.0),
    subst (λ (v : State). Wrote v.out c) (sym e.0) wrote,
  )

  -- a run of a machine in a call in which nothing outside failed
  ran_so : (old new : MachineView) (s t : State) (why : Stop) → RunEnds cycles old new s t why →
      (why ≡ stop.ReadFault → Rose c.before.streams.input.faults c.now.streams.input.faults) →
      (why ≡ stop.WriteFault → Rose c.before.streams.output.faults c.now.streams.output.faults) →
      Wrote t.out c → IsOrWants (EndsWith c
      (run_end cycles (ruled old.limits cycles old.identifiers s))
      (state_in (ruled old.limits cycles old.identifiers s)).out) (end_of_run cycles t.cycles why)
  ran_so old new s t stop.ReadFault h reads writes wrote = absurd (unfailed.input (reads refl))
  ran_so old new s t stop.WriteFault h reads writes wrote = absurd (unfailed.output (writes refl))
  ran_so old new s t stop.Memory h reads writes wrote = inr refl
  ran_so old new s t why h reads writes wrote =
      inl (stood_so (ruled old.limits cycles old.identifiers s) new t why h wrote)

  -- `run`
  module _ (file words input : List ℕ) (small : AreWords words)
      (few : length (scroll words) ≤ most_scroll_bytes)
      (held : HasWithInput file (scroll words) input c.before) where
    scroll_so : (end : End) → ScrollEnds words cycles c.before.streams c.now.streams end →
        IsOrWants (EndsWith c (run_end cycles (run_on words input cycles))
        (state_in (run_on words input cycles)).out) end
    scroll_so _ (running.ran t why ran) =
        let had : input ≡ ran.input = subst (λ bytes. MayRest bytes ran.input) held.told ran.had in
        subst (λ xs. IsOrWants (EndsWith c (run_end cycles (run_on words xs cycles))
        (state_in (run_on words xs cycles)).out) (end_of_run cycles t.cycles why)) (sym had)
        (ran_so (machine_of words limits) ran.machine (start_of words ran.input) t why ran.stops
        ran.reads ran.writes ran.wrote)

    pub run_so : (end : End) → RunCommandEnds file cycles c.before c.now end →
        IsOrWants (EndsWith c (run_end cycles (run_on words input cycles))
        (state_in (run_on words input cycles)).out) end
    run_so end ran =
        begun c unfailed IsScroll IsNoScroll file (scroll words) held.there
        (right_scroll words few) _ _ _
        (λ read e is work. scroll_so e (subst (λ (ws : List ℕ). ScrollEnds ws cycles
        c.before.streams c.now.streams e) (words_read words read.items small is.small is.of_words)
        work))
        end ran

  -- `resume`
  module _ (file input : List ℕ) (machine : MachineView) (taken : ℕ) (has : HasImage machine taken)
      (held : HasWithInput file (image_of machine taken) input c.before) where
    abbrev onward : MachineView → ℕ → Standing Identifiers
    onward m k = ruled m.limits cycles m.identifiers (state_of m (drop k input) [])

    abbrev IsOnward : MachineView → ℕ → End → Type 0
    IsOnward m k =
        IsOrWants (EndsWith c (run_end cycles (onward m k)) (state_in (onward m k)).out)

    machine_so : (m : MachineView) (k : ℕ) (end : End) →
        MachineEnds m k cycles c.before.streams c.now.streams end → IsOnward m k end
    machine_so m k _ (resuming.untaken same rose) = absurd (unfailed.input rose)
    machine_so m k _ (resuming.ran new why ran) =
        let had : drop k input ≡ ran.input =
        subst (λ bytes. MayRest (option_map (drop k) bytes) ran.input) held.told ran.had in
        subst (λ xs. IsOrWants (EndsWith c
        (run_end cycles (ruled m.limits cycles m.identifiers (state_of m xs [])))
        (state_in (ruled m.limits cycles m.identifiers (state_of m xs []))).out)
        (end_of_run cycles new.cycles why)) (sym had)
        (ran_so m new (state_of m ran.input []) (state_of new ran.rest ran.out) why ran.stops
        ran.reads ran.writes ran.wrote)

    pub resume_so : (end : End) → ResumeEnds file cycles c.before c.now end →
        IsOnward machine taken end
    resume_so end ran =
        begun c unfailed IsImageOf IsNoImage file (image_of machine taken) held.there
        (right_image machine taken has) _ _ _
        (λ it e is work.
        let one = images_tell_apart it.0 machine it.1 taken is.has has is.same in
        subst (λ k. IsOnward machine k e) one.1
        (subst (λ m. IsOnward m it.1 e) one.0 (machine_so it.0 it.1 e work)))
        end ran

  -- `save`
  module _ (file out words input : List ℕ) (small : AreWords words)
      (few : length (scroll words) ≤ most_scroll_bytes)
      (held : HasWithInput file (scroll words) input c.before) where
    abbrev IsKept : End → Type 0
    IsKept end = c.status ≡ status_of_end end →
        SaveAnswers out cycles (start_of words input) (run_on words input cycles) c

    -- a run that wasn't saved met a fault
    stopped_so : (x : Standing Identifiers) (new : MachineView) (t : State) (why : Stop) →
        (IsSavedEnd why → ⊥) → EndsAs x new t why → Wrote t.out c →
        c.status ≡ status_of_end (end_of_run cycles t.cycles why) →
        SaveAnswers out cycles (start_of words input) x c
    stopped_so (Stands u i) new t why other e wrote is = absurd (other
        (subst IsSavedEnd (sym e.2) (halts_or_spent t.halted)))
    stopped_so (Failed u i fault) new t why other e wrote is =
        let so = stood_so (Failed u i fault) new t why e wrote in
        record { ends = is ∙ ap status_of_end so.0; wrote = so.1 }

    unsaved : (new : MachineView) (t : State) (why : Stop) →
        RunEnds cycles (machine_of words limits) new (start_of words input) t why →
        (why ≡ stop.ReadFault → Rose c.before.streams.input.faults c.now.streams.input.faults) →
        (why ≡ stop.WriteFault → Rose c.before.streams.output.faults c.now.streams.output.faults) →
        (IsSavedEnd why → ⊥) → Wrote t.out c →
        IsOrWants IsKept (end_of_run cycles t.cycles why)
    unsaved new t stop.ReadFault h reads writes other wrote = absurd (unfailed.input (reads refl))
    unsaved new t stop.WriteFault h reads writes other wrote =
        absurd (unfailed.output (writes refl))
    unsaved new t stop.Memory h reads writes other wrote = inr refl
    unsaved new t why h reads writes other wrote = inl (λ is.
        stopped_so (run_on words input cycles) new t why other h wrote is)

    -- a run that was saved is kept
    kept : (machine : MachineView) (taken : ℕ) (rest wrote : List ℕ) →
        SavedRun cycles (machine_of words limits) machine input rest wrote taken → Wrote wrote c →
        (end : End) → FileWritten out (image_of machine taken) c.before.shelf c.now.shelf end →
        IsOrWants IsKept end
    kept machine taken rest wrote run received _ (sending.written w) = inl (λ is.
        subst (λ x. SaveAnswers out cycles (start_of words input) x c)
        (sym (saved_stands cycles (machine_of words limits) machine (start_of words input)
        (state_of machine rest wrote) run.stop run.own run.run))
        (record {
          answers = record { ends = is; wrote = received };
          taken = taken;
          takes = run.takes;
          filled = subst (λ m. Has out (image_of m taken) c.now) (same_machine machine rest wrote run.limits)
              (is_written c.before c.now out (image_of machine taken) held.there.files
              held.there.shelf_tells w);
        }))
    kept machine taken rest wrote run received _ (sending.cut w rose) =
        absurd (unfailed.writes rose)
    kept machine taken rest wrote run received _ (sending.no_memory same) = inr refl

    scroll_kept : (end : End) → SavesInto out words cycles c.before c.now end →
        IsOrWants IsKept end
    scroll_kept end (saving.saved machine taken _ x written) =
        let had : input ≡ x.input = subst (λ bytes. MayRest bytes x.input) held.told x.had in
        kept machine taken x.rest x.out (subst (λ xs. SavedRun cycles (machine_of words limits)
        machine xs x.rest x.out taken) (sym had) x.run) x.wrote end written
    scroll_kept _ (saving.stopped t why ran other only) =
        let had : input ≡ ran.input = subst (λ bytes. MayRest bytes ran.input) held.told ran.had in
        unsaved ran.machine t why
        (subst (λ xs. RunEnds cycles (machine_of words limits) ran.machine (start_of words xs) t
        why) (sym had) ran.stops) ran.reads ran.writes other ran.wrote

    pub save_so : (end : End) → SaveEnds file cycles out c.before c.now end →
        IsOrWants IsKept end
    save_so end ran =
        begun c unfailed IsScroll IsNoScroll file (scroll words) held.there
        (right_scroll words few) _ _ _
        (λ read e is work. scroll_kept e (subst (λ (ws : List ℕ). SavesInto out ws cycles
        c.before c.now e) (words_read words read.items small is.small is.of_words) work))
        end ran

    pub save_answers : IsOfCodex c → Asks c.words (jobs.saves file cycles out) →
        SaveAnswers out cycles (start_of words input) (run_on words input cycles) c
        ⊎ (c.status ≡ status.Memory)
    save_answers call asks =
        let e = ended (jobs.saves file cycles out) c call asks in
        let is = unfailed_status c unfailed (jobs.saves file cycles out) e in
        elim e.ends [
          | inl ran ↦ elim (save_so e.end ran) [
            | inl so ↦ inl (so is)
            | inr wants ↦ inr (is ∙ ap status_of_end wants)
          ]
          | inr none ↦ inr (is ∙ ap status_of_end none.0)
        ]

resumed_answers : (c : Call) → IsUnfailed c → (cycles : ℕ) (file input : List ℕ)
    (machine : MachineView) (taken : ℕ) (has : HasImage machine taken) →
    HasWithInput file (image_of machine taken) input c.before → IsOfCodex c →
    Asks c.words (jobs.resumes file cycles) →
    AnswersAs cycles (ruled limits cycles machine.identifiers
    (state_of machine (drop taken input) [])) c ⊎ (c.status ≡ status.Memory)
resumed_answers c unfailed cycles file input machine taken has held call asks =
    let x = ruled machine.limits cycles machine.identifiers
    (state_of machine (drop taken input) []) in
    subst (λ L. AnswersAs cycles (ruled L cycles machine.identifiers
    (state_of machine (drop taken input) [])) c ⊎ (c.status ≡ status.Memory)) has.saved.limits
    (call_gives c unfailed (jobs.resumes file cycles) call asks (run_end cycles x) (state_in x).out
    (λ end ran. resume_so c unfailed cycles file input machine taken has held end ran.1))

pub runs_complete : RunsComplete IsOfCodex
runs_complete = record {
  run = λ file words input cycles small few c call asks held unfailed.
      call_gives c unfailed (jobs.runs file cycles) call asks
      (run_end cycles (run_on words input cycles)) (state_in (run_on words input cycles)).out
      (λ end ran. run_so c unfailed cycles file words input small few held end ran.1);
  save = λ file out words input cycles small few c call asks held unfailed.
      save_answers c unfailed cycles file out words input small few held call asks;
  resume = λ file input machine taken cycles has c call asks held unfailed.
      resumed_answers c unfailed cycles file input machine taken has held call asks;
}
