-- Completeness of the commands.
use Rattle.std.proofs.Common.{◌≡◌, ◌⊎◌, ℕ, ◌+◌, ◌≤◌, true, List, [], ◌++◌, length, Some, None, refl, sym, ap, ◌∙◌, subst, inl, inr, arith}
use Rattle.std.specs.Prelude.{Result, Ok, Err}
use Rattle.std.specs.FinMap as map
use Rattle.umix_base.specs.Causes.{Rose}
use Rattle.umix_base.specs.declared.limits.Limits.{Limits}
use Rattle.um_asm.specs.Assembly.{assembled}
use Rattle.um_asm.specs.Listing.{listing}
use Rattle.um_debug.specs.declared.debugger.DebugEnd.{DebugEnd}
use Rattle.um_debug.specs.CommandLines.{Passes}
use Rattle.um_debug.specs.Debugging.{EndsBy, Fails, Debugs}
use Rattle.um_debug.specs.Debugging as debugging
use Rattle.um_debug.specs.Session.{Session}
use Rattle.um_word.specs.Scroll.{most_scroll_bytes, scroll}
use Rattle.um_word.specs.State.{State, start_of}
use Rattle.um_word.specs.Run.{Standing, Stands, Failed, run}
use Rattle.um_word.specs.Rule.{Identifiers, none_made, handed_out, SameStanding}
use Rattle.um_word.proofs.Orderly.{none_made_is_orderly}
use Rattle.um_word.proofs.Rules.{rules_are_legal}
use Rattle.um_machine.specs.declared.stop.Stop.{Stop}
use Rattle.um_machine.specs.declared.stop.Stop.TheVariants as stop
use Rattle.um_machine.specs.MachineView.{MachineView, machine_of}
use Rattle.um_machine.specs.Outside.{MayHold}
use Rattle.um_machine.specs.Runs.{EndsAs, RunEnds}
use Rattle.um_machine.specs.Stops.{unfailed_end}
use Rattle.um_machine.proofs.Rests.{some_held}
use Rattle.two_d.specs.Meaning.{Meaning}
use Rattle.two_d.specs.Program.{program_of}
use Rattle.two_d.specs.Programs.{Program}
use Rattle.two_d.specs.Steps.{Choice, HasMeaning}
use Rattle.two_d.specs.Texts.{text_of}
use Rattle.two_d.proofs.OneMeaning.{one_meaning}
use Rattle.type_sheet.specs.declared.line.SheetRow.{SheetRow}
use Rattle.type_sheet.specs.Fits.{fits_of}
use Rattle.type_sheet.specs.Sheets.{sheet_of}
use Rattle.type_sheet.proofs.Answered.{fits_one}
use Rattle.type_sheet.proofs.OneLine.{sheet_one}
use Rattle.grid_draw.specs.Answers.{NoneTooWide, size}
use Rattle.grid_draw.specs.declared.drawing.DrawFault.TheVariants.{TooWide, TooLong, Memory}
use Rattle.grid_draw.specs.Layout.{drawing_of}
use Rattle.lower_link.specs.Completes.{Completed, IsAmple, CompletesLaw}
use Rattle.lower_link.specs.Follows.{Follows}
use Rattle.lower_link.specs.Realises.{AreEnough, Realises}
use Rattle.lower_link.proofs.Completed.{completes}
use Rattle.codex_top.specs.declared.line.Line.{Line}
use Rattle.codex_top.specs.declared.line.Line.TheVariants as line
use Rattle.codex_top.specs.declared.end.Finish.TheVariants.{Done}
use Rattle.codex_top.specs.declared.status.Status.TheVariants as status
use Rattle.codex_top.specs.Calls.{Call, Has, IsOfCodex, Wrote, status_of_end}
use Rattle.codex_top.specs.Commands.{Begins, CompiledInto, JobEnds, accepted_line}
use Rattle.codex_top.specs.Commands as commands
use Rattle.codex_top.specs.Completeness.{Answers, CompiledComplete, EndsInTime, Fills, GridsComplete, IsUnfailed, ScrollsComplete, SelftestComplete, TypesComplete}
use Rattle.codex_top.specs.DebugCommand.{SessionSits, SessionEnds, end_of_session}
use Rattle.codex_top.specs.DebugCommand as sessions
use Rattle.codex_top.specs.Endings.{End}
use Rattle.codex_top.specs.Evaluating.{finish_of, IsMeantWithin, IsPrinted, OutcomeEnds}
use Rattle.codex_top.specs.Evaluating as evaluating
use Rattle.codex_top.specs.DrawCommand.{DrawingTold}
use Rattle.codex_top.specs.DrawCommand as drawings
use Rattle.codex_top.specs.Limits.{limits, most_grid_bytes, most_input_bytes, most_lines, most_text_bytes}
use Rattle.codex_top.specs.Outside.{Streams, Outside}
use Rattle.codex_top.specs.Reading.{IsInput, IsNoInput, IsNoProgram, IsNoScroll, IsNoSheet, IsNoText, IsProgram, IsScroll, IsSheetOf, IsText, ReadAs}
use Rattle.codex_top.specs.Reading as reading
use Rattle.codex_top.specs.RunCommand.{ScrollRuns, ScrollEnds, end_of_run}
use Rattle.codex_top.specs.RunCommand as runs
use Rattle.codex_top.specs.SelftestCommand.{Found, SelftestEnds, nine_lines}
use Rattle.codex_top.specs.SelftestCommand as selves
use Rattle.codex_top.specs.Sending.{IsSent, ScrollWritten, TextSent, end_after}
use Rattle.codex_top.specs.Sending as sending
use Rattle.codex_top.specs.TraceCommand.{EventsTold, trace_lines}
use Rattle.codex_top.specs.TraceCommand as tracing
use Rattle.codex_top.specs.TypeCommand.{FitTold, typed_line}
use Rattle.codex_top.specs.TypeCommand as typing
use Rattle.codex_top.specs.Typed.{HasSheet}
use Rattle.codex_top.specs.Words.{Job, Asks}
use Rattle.codex_top.specs.Words as jobs
use Rattle.codex_top.proofs.Compiled.{AreWords, right_scroll, run_on, words_read}
use Rattle.codex_top.proofs.Completing.{completed_by_rule}
use Rattle.codex_top.proofs.Ended.{Ended, ended, not_read, read_as, told_done, told_so}
use Rattle.codex_top.proofs.FileLemmas.{length-scroll}
use Rattle.codex_top.proofs.Headlines.{is_written, one_program, right_grid}
use Rattle.codex_top.proofs.Pieces.{received_none}

-- the call ended so, or for want of memory
abbrev pub IsOrWants : (IsSo : End → Type 0) → End → Type 0
IsOrWants IsSo end = IsSo end ⊎ (end ≡ Err line.NoMemory)

-- the call ended so, with this text written
abbrev pub EndsWith : (c : Call) (wanted : End) (text : List ℕ) → End → Type 0
EndsWith c wanted text end = (end ≡ wanted) × Wrote text c

-- the call is done without a text, and its file has the scroll of such words
pub record EndsFilled (c : Call) (out : List ℕ) (Is : List ℕ → Type 0) (end : End) : Type 0 where
  pub ends : end ≡ Ok Done
  pub wrote : Wrote [] c
  pub words : List ℕ
  pub is : Is words
  pub filled : Has out (scroll words) c.now

module _ (c : Call) (unfailed : IsUnfailed c) where
  -- the status of the end of a call in which nothing outside failed
  pub unfailed_status : (job : Job) (e : Ended job c) → c.status ≡ status_of_end e.end
  unfailed_status job e = elim (told_so c.err_before c.err_now e.end c.status e.told) [
    | inl is ↦ is
    | inr cut ↦ absurd (unfailed.err cut.1)
  ]

  -- what a command does, said of its call
  module _ (job : Job) (call : IsOfCodex c) (asks : Asks c.words job) (wanted : End) where
    pub call_ends : ((end : End) → JobEnds job c.before c.now end →
        IsOrWants (λ end. end ≡ wanted) end) →
        (c.status ≡ status_of_end wanted) ⊎ (c.status ≡ status.Memory)
    call_ends does =
        let e = ended job c call asks in
        let is = unfailed_status job e in
        elim e.ends [
          | inl ran ↦ elim (does e.end ran) [
            | inl so ↦ inl (is ∙ ap status_of_end so)
            | inr wants ↦ inr (is ∙ ap status_of_end wants)
          ]
          | inr none ↦ inr (is ∙ ap status_of_end none.0)
        ]

    pub call_gives : (text : List ℕ) → ((end : End) → JobEnds job c.before c.now end →
        IsOrWants (EndsWith c wanted text) end) →
        Answers (status_of_end wanted) text c ⊎ (c.status ≡ status.Memory)
    call_gives text does =
        let e = ended job c call asks in
        let is = unfailed_status job e in
        elim e.ends [
          | inl ran ↦ elim (does e.end ran) [
            | inl so ↦ inl (record { ends = is ∙ ap status_of_end so.0; wrote = so.1 })
            | inr wants ↦ inr (is ∙ ap status_of_end wants)
          ]
          | inr none ↦ inr (is ∙ ap status_of_end none.0)
        ]

  -- a command that fills a file
  pub call_fills : (job : Job) → IsOfCodex c → Asks c.words job → (out : List ℕ)
      (Is : List ℕ → Type 0) →
      ((end : End) → JobEnds job c.before c.now end → IsOrWants (EndsFilled c out Is) end) →
      ((words : List ℕ) × Is words × Fills out (scroll words) c) ⊎ (c.status ≡ status.Memory)
  call_fills job call asks out Is does =
      let e = ended job c call asks in
      let is = unfailed_status job e in
      elim e.ends [
        | inl ran ↦ elim (does e.end ran) [
          | inl so ↦ inl (
            so.words,
            so.is,
            record {
              answers = record { ends = is ∙ ap status_of_end so.ends; wrote = so.wrote };
              filled = so.filled;
            },
          )
          | inr wants ↦ inr (is ∙ ap status_of_end wants)
        ]
        | inr none ↦ inr (is ∙ ap status_of_end none.0)
      ]

  -- a command that begins with a file that is there, and with which nothing is wrong, works on it
  pub begun : {A : Type 0} (Is : List ℕ → A → Type 0) (IsWrong : List ℕ → Line → Type 0)
      (file bytes : List ℕ) → Has file bytes c.before →
      ((l : Line) → IsWrong bytes l → ⊥) → (Untouched : Type 0) (Work : A → End → Type 0)
      (IsSo : End → Type 0) →
      ((it : A) (end : End) → Is bytes it → Work it end → IsOrWants IsSo end) → (end : End) →
      Begins (ReadAs Is IsWrong file c.before.shelf c.now.shelf) Untouched Work end →
      IsOrWants IsSo end
  begun Is IsWrong file bytes has right Untouched Work IsSo works _ (commands.unread l read same) =
      elim (not_read Is IsWrong file bytes c.before c.now has right l read) [
        | inl failed ↦ absurd (unfailed.reads failed.1)
        | inr none ↦ inr (ap Err none)
      ]
  begun Is IsWrong file bytes has right Untouched Work IsSo works _ (commands.no_memory same) =
      inr refl
  begun Is IsWrong file bytes has right Untouched Work IsSo works end
      (commands.works it _ read work) =
      works it end (read_as Is IsWrong file bytes c.before c.now has it read) work

  -- what is sent and written
  text_sent : (text : List ℕ) (end : End) → TextSent text c.before.streams.output
      c.now.streams.output end → IsOrWants (EndsWith c (Ok Done) text) end
  text_sent text _ (sending.ends _ (sending.sent received)) = inl (refl, received)
  text_sent text _ (sending.ends _ (sending.cut k le received rose)) = absurd (unfailed.output rose)

  text_printed : (text : List ℕ) (wanted : End) (r : Result (Unit {0}) Line) →
      IsPrinted text c.before.streams.output c.now.streams.output r →
      IsOrWants (EndsWith c wanted text) (end_after r wanted)
  text_printed text wanted _ (evaluating.sent _ (sending.sent received)) = inl (refl, received)
  text_printed text wanted _ (evaluating.sent _ (sending.cut k le received rose)) =
      absurd (unfailed.output rose)
  text_printed text wanted _ (evaluating.no_memory k le received) = inr refl

  scroll_written : (file bytes : List ℕ) → Has file bytes c.before → (out words : List ℕ)
      (Is : List ℕ → Type 0) → Is words → (end : End) → c.now.streams ≡ c.before.streams →
      ScrollWritten out words c.before.shelf c.now.shelf end →
      IsOrWants (EndsFilled c out Is) end
  scroll_written file bytes has out words Is is _ same (sending.written w) =
      inl (record {
        ends = refl;
        wrote = ap (λ (s : Streams). s.output.bytes) same ∙ received_none
            c.before.streams.output.bytes;
        words = words;
        is = is;
        filled = is_written c.before c.now out (scroll words) has.files has.shelf_tells w;
      })
  scroll_written file bytes has out words Is is _ same (sending.cut w rose) =
      absurd (unfailed.writes rose)
  scroll_written file bytes has out words Is is _ same (sending.no_memory kept) = inr refl

-- commands on an accepted grid
module _ (file text : List ℕ) (P : Program) (is : program_of text (Ok P)) (c : Call)
    (has : Has file text c.before) (unfailed : IsUnfailed c) where
  grid_begun : (Untouched : Type 0) (Work : Program → End → Type 0) (IsSo : End → Type 0) →
      ((end : End) → Work P end → IsOrWants IsSo end) → (end : End) →
      Begins (ReadAs IsProgram IsNoProgram file c.before.shelf c.now.shelf) Untouched Work end →
      IsOrWants IsSo end
  grid_begun Untouched Work IsSo works =
      begun c unfailed IsProgram IsNoProgram file text has (right_grid text P is)
      Untouched Work IsSo
      (λ Q end read work. works end (subst (λ (R : Program). Work R end)
      (one_program text P Q is read.reads) work))

  check_done : (end : End) → JobEnds (jobs.checks file) c.before c.now end →
      IsOrWants (EndsWith c (Ok Done) (accepted_line P)) end
  check_done end ran = grid_begun _ _ _ (text_sent c unfailed (accepted_line P)) end ran.1

  compile_done : (out : List ℕ) (end : End) → JobEnds (jobs.compiles file out) c.before c.now end →
      IsOrWants (EndsFilled c out (Realises P)) end
  compile_done out end ran = grid_begun _ _ _ (λ e work. scroll_written c unfailed file text has
      out work.words (Realises P) work.realises e ran.0 work.written) end ran.1

  drawing_done : NoneTooWide P → size P ≤ most_grid_bytes → (end : End) →
      DrawingTold P c.before.streams.output c.now.streams.output end →
      IsOrWants (EndsWith c (Ok Done) (drawing_of P)) end
  drawing_done narrow short end (drawings.drawn _ drawable sent) =
      text_sent c unfailed (drawing_of P) end sent
  drawing_done narrow short _ (drawings.undrawn (TooWide n) (i, e, least) same) =
      absurd (narrow i least.holds)
  drawing_done narrow short _ (drawings.undrawn (TooLong n) (none, e, over) same) =
      absurd (omega (arith, e, over, short))
  drawing_done narrow short _ (drawings.undrawn Memory has same) = inr refl

  draw_done : NoneTooWide P → size P ≤ most_grid_bytes → (end : End) →
      JobEnds (jobs.draws file) c.before c.now end →
      IsOrWants (EndsWith c (Ok Done) (drawing_of P)) end
  draw_done narrow short end ran = grid_begun _ _ _ (drawing_done narrow short) end ran.1

  module _ (events : ℕ) (r : Meaning) (within : IsMeantWithin events P r) where
    outcome_done : (end : End) → OutcomeEnds events P c.before.streams.output c.now.streams.output
        end → IsOrWants (EndsWith c (Ok (finish_of r.outcome)) (text_of P r.outcome)) end
    outcome_done _ (evaluating.spent spent same) = let lt = spent r within.has in let le =
        within.within in absurd (omega (arith, lt, le))
    outcome_done _ (evaluating.told s printed means text) =
        subst (λ (m : Meaning). IsOrWants (EndsWith c (Ok (finish_of m.outcome))
        (text_of P m.outcome)) (end_after printed (Ok (finish_of s.outcome))))
        (one_meaning P s r means.has within.has) (text_printed c unfailed (text_of P s.outcome)
        (Ok (finish_of s.outcome)) printed text)

    eval_done : (picks : Choice) (end : End) → JobEnds (jobs.evaluates file picks events)
        c.before c.now end →
        IsOrWants (EndsWith c (Ok (finish_of r.outcome)) (text_of P r.outcome)) end
    eval_done picks end ran = grid_begun _ _ _ outcome_done end ran.1

    events_done : (picks : Choice) (end : End) → EventsTold P picks events c.before.streams.output
        c.now.streams.output end →
        IsOrWants (EndsWith c (Ok (finish_of r.outcome)) (trace_lines P picks events ++ text_of P
        r.outcome)) end
    events_done picks _ (tracing.spent printed spent text) = let lt = spent r within.has in let le =
        within.within in absurd (omega (arith, lt, le))
    events_done picks _ (tracing.told s printed means text) =
        subst (λ (m : Meaning). IsOrWants (EndsWith c (Ok (finish_of m.outcome))
        (trace_lines P picks events ++ text_of P m.outcome))
        (end_after printed (Ok (finish_of s.outcome))))
        (one_meaning P s r means.has within.has)
        (text_printed c unfailed (trace_lines P picks events ++ text_of P s.outcome)
        (Ok (finish_of s.outcome)) printed text)

    trace_done : (picks : Choice) (end : End) → JobEnds (jobs.traces file picks events)
        c.before c.now end →
        IsOrWants (EndsWith c (Ok (finish_of r.outcome)) (trace_lines P picks events ++ text_of P
        r.outcome)) end
    trace_done picks end ran = grid_begun _ _ _ (events_done picks) end ran.1

pub grids : GridsComplete IsOfCodex
grids = record {
  check = λ file text P is c call asks has unfailed.
      call_gives c unfailed (jobs.checks file) call asks (Ok Done) (accepted_line P)
      (check_done file text P is c has unfailed);
  compile = λ file out text P is c call asks has unfailed.
      call_fills c unfailed (jobs.compiles file out) call asks out (Realises P)
      (compile_done file text P is c has unfailed out);
  draw = λ file text P is narrow short c call asks has unfailed.
      call_gives c unfailed (jobs.draws file) call asks (Ok Done) (drawing_of P)
      (draw_done file text P is c has unfailed narrow short);
  eval = λ file text P picks events r is within c call asks has unfailed.
      call_gives c unfailed (jobs.evaluates file picks events) call asks (Ok (finish_of r.outcome))
      (text_of P r.outcome)
      (eval_done file text P is c has unfailed events r within picks);
  trace = λ file text P picks events r is within c call asks has unfailed.
      call_gives c unfailed (jobs.traces file picks events) call asks (Ok (finish_of r.outcome))
      (trace_lines P picks events ++ text_of P r.outcome)
      (trace_done file text P is c has unfailed events r within picks);
}

-- what was compiled runs
module _ (P : Program) (words : List ℕ) (blocks : List (ℕ × ℕ)) (small : AreWords words)
    (few : length (scroll words) ≤ most_scroll_bytes) (realises : Realises P words)
    (follows : Follows P words blocks) (r : Meaning) (means : HasMeaning P r)
    (ample : IsAmple P (r.instances + 1) (length (text_of P r.outcome)) limits)
    (cycles : ℕ) (enough : AreEnough P r cycles) (file : List ℕ) (c : Call)
    (has : Has file (scroll words) c.before) (unfailed : IsUnfailed c) where
  ended_done : (x : Standing Identifiers) (new : MachineView) (t : State) (why : Stop) →
      Completed (text_of P r.outcome) x → EndsAs x new t why → Wrote t.out c →
      IsOrWants (EndsWith c (Ok Done) (text_of P r.outcome)) (end_of_run cycles t.cycles why)
  ended_done (Stands s i) new t why h e received =
      let at : t ≡ s = sym e.0 in
      let halted : t.halted ≡ true = ap (λ (u : State). u.halted) at ∙ h.halted in
      let is : why ≡ stop.Halted = e.2 ∙ ap unfailed_end halted in
      inl (
        ap (end_of_run cycles t.cycles) is,
        subst (λ bytes. Wrote bytes c)
            (ap (λ (u : State). u.out) at ∙ h.writes) received,
      )
  ended_done (Failed s i f) new t why h e received = let clash : Some f ≡ None = h.faultless in
      absurd (cc)

  ran_done : (input : List ℕ) (new : MachineView) (t : State) (why : Stop) →
      RunEnds cycles (machine_of words limits) new (start_of words input) t why →
      (why ≡ stop.ReadFault → Rose c.before.streams.input.faults c.now.streams.input.faults) →
      (why ≡ stop.WriteFault → Rose c.before.streams.output.faults c.now.streams.output.faults) →
      Wrote t.out c →
      IsOrWants (EndsWith c (Ok Done) (text_of P r.outcome)) (end_of_run cycles t.cycles why)
  ran_done input new t stop.ReadFault h reading writing received =
      absurd (unfailed.input (reading refl))
  ran_done input new t stop.WriteFault h reading writing received =
      absurd (unfailed.output (writing refl))
  ran_done input new t stop.Memory h reading writing received = inr refl
  ran_done input new t why h reading writing received =
      ended_done (run_on words input cycles) new t why
      (completed_by_rule P words input blocks cycles r realises follows
      (omega (arith, few, length-scroll words)) means ample enough) h received

  scroll_done : (end : End) → ScrollEnds words cycles c.before.streams c.now.streams end →
      IsOrWants (EndsWith c (Ok Done) (text_of P r.outcome)) end
  scroll_done _ (runs.ran t why ran) = ran_done ran.input ran.machine t why ran.stops ran.reads
      ran.writes ran.wrote

  run_done : (end : End) → JobEnds (jobs.runs file cycles) c.before c.now end →
      IsOrWants (EndsWith c (Ok Done) (text_of P r.outcome)) end
  run_done end ran =
      begun c unfailed IsScroll IsNoScroll file (scroll words) has (right_scroll words few) _ _ _
      (λ read e is work. scroll_done e (subst (λ (ws : List ℕ). ScrollEnds ws cycles
      c.before.streams c.now.streams e) (words_read words read.items small is.small is.of_words)
      work))
      end ran.1

-- a shelf that tells its files has one content for each name
pub one_has : (o : Outside) (name xs ys : List ℕ) → Has name xs o → Has name ys o → xs ≡ ys
one_has o name xs ys f g =
    let files : Some f.files ≡ Some g.files = sym f.shelf_tells ∙ g.shelf_tells in
    let same : f.files ≡ g.files = cc in
    let e : Some xs ≡ Some ys = sym f.has ∙ ap (λ fs. map.get fs name) same ∙ g.has in
    cc

-- `run` of what `compile` wrote
module _ (file out text bytes : List ℕ) (P : Program) (r : Meaning) (is : program_of text (Ok P))
    (means : HasMeaning P r)
    (ample : IsAmple P (r.instances + 1) (length (text_of P r.outcome)) limits) (c : Call)
    (has : Has file text c.before) (wrote : Has out bytes c.now) where
  compiled_runs : (end : End) → end ≡ Ok Done → CompiledInto P out c.before.shelf c.now.shelf end →
      (copy : List ℕ) (cycles : ℕ) → AreEnough P r cycles →
      (d : Call) → IsOfCodex d → Asks d.words (jobs.runs copy cycles) → Has copy bytes d.before →
      IsUnfailed d → Answers status.Done (text_of P r.outcome) d ⊎ (d.status ≡ status.Memory)
  compiled_runs end done work copy cycles enough d call asks there unfailed =
      let same : bytes ≡ scroll work.words = one_has c.now out bytes (scroll work.words) wrote
      (kept work.words end done work.written) in
      call_gives d unfailed (jobs.runs copy cycles) call asks (Ok Done) (text_of P r.outcome)
      (run_done P work.words work.blocks work.small work.few work.realises work.follows r means
      ample cycles enough copy d (subst (λ bs. Has copy bs d.before) same there) unfailed)
    where
      kept : (words : List ℕ) (e : End) → e ≡ Ok Done → ScrollWritten out words c.before.shelf
          c.now.shelf e → Has out (scroll words) c.now
      kept words _ e (sending.written w) = is_written c.before c.now out (scroll words)
          has.files has.shelf_tells w
      kept words _ e (sending.cut w rose) = absurd (cc)
      kept words _ e (sending.no_memory same) = absurd (cc)

  compiled_from : (end : End) → end ≡ Ok Done → JobEnds (jobs.compiles file out)
      c.before c.now end → (copy : List ℕ) (cycles : ℕ) → AreEnough P r cycles →
      (d : Call) → IsOfCodex d → Asks d.words (jobs.runs copy cycles) → Has copy bytes d.before →
      IsUnfailed d → Answers status.Done (text_of P r.outcome) d ⊎ (d.status ≡ status.Memory)
  compiled_from end done ran = from end done ran.1
    where
      from : (e : End) → e ≡ Ok Done → commands.CompileEnds file out c.before.shelf c.now.shelf e →
          (copy : List ℕ) (cycles : ℕ) → AreEnough P r cycles →
          (d : Call) → IsOfCodex d → Asks d.words (jobs.runs copy cycles) →
          Has copy bytes d.before → IsUnfailed d → Answers status.Done (text_of P r.outcome) d ⊎
          (d.status ≡ status.Memory)
      from _ e (commands.unread l read only) = absurd (cc)
      from _ e (commands.no_memory only) = absurd (cc)
      from e done (commands.works Q _ read work) =
          compiled_runs e done
          (subst (λ (R : Program). CompiledInto R out c.before.shelf c.now.shelf e)
          (one_program text P Q is (read_as IsProgram IsNoProgram file text c.before c.now has Q
          read).reads) work)

pub compiled : CompiledComplete IsOfCodex
compiled file out text bytes P r is means ample c call asks has done wrote copy cycles enough d too
    runs there unfailed =
    let e = ended (jobs.compiles file out) c call asks in
    let so : e.end ≡ Ok Done = told_done c.err_before c.err_now e.end c.status done e.told in
    elim e.ends [
      | inl ran ↦ compiled_from file out text bytes P r is means ample c has wrote e.end so ran copy
          cycles enough d too runs there unfailed
      | inr none ↦ let f : Err line.NoMemory ≡ Ok Done = sym none.0 ∙ so in absurd (cc)
    ]

-- commands on texts and scrolls
right_text : (text words : List ℕ) → length text ≤ most_text_bytes → assembled text ≡ Ok words →
    (l : Line) → IsNoText text l → ⊥
right_text text words few is _ (reading.too_long many) = omega (arith, few, many)
right_text text words few is _ (reading.faulty fault fits faulty) =
    let clash : Ok words ≡ Err fault = sym is ∙ faulty in cc

one_text : (text xs ys : List ℕ) → assembled text ≡ Ok xs → assembled text ≡ Ok ys → ys ≡ xs
one_text text xs ys f g = let e : Ok ys ≡ Ok xs = sym g ∙ f in cc

these_words : (out words : List ℕ) (c : Call) →
    ((ws : List ℕ) × (ws ≡ words) × Fills out (scroll ws) c) ⊎ (c.status ≡ status.Memory) →
    Fills out (scroll words) c ⊎ (c.status ≡ status.Memory)
these_words out words c (inl (ws, same, fills)) =
    inl (subst (λ xs. Fills out (scroll xs) c) same fills)
these_words out words c (inr none) = inr none

right_input : (bytes : List ℕ) → length bytes ≤ most_input_bytes → (l : Line) → IsNoInput bytes l →
    ⊥
right_input bytes few _ (reading.too_long many) = omega (arith, few, many)

module _ (c : Call) (unfailed : IsUnfailed c) where
  asm_done : (file out text words : List ℕ) → length text ≤ most_text_bytes →
      assembled text ≡ Ok words → Has file text c.before → (end : End) →
      JobEnds (jobs.assembles file out) c.before c.now end →
      IsOrWants (EndsFilled c out (λ ws. ws ≡ words)) end
  asm_done file out text words few is has end ran =
      begun c unfailed IsText IsNoText file text has (right_text text words few is) _ _ _
      (λ ws e read work. scroll_written c unfailed file text has out ws.items (λ xs. xs ≡ words)
      (one_text text words ws.items is read.assembles) e ran.0 work) end ran.1

  dis_done : (file words : List ℕ) → AreWords words → length (scroll words) ≤ most_scroll_bytes →
      Has file (scroll words) c.before → (end : End) →
      JobEnds (jobs.lists file) c.before c.now end → IsOrWants
      (EndsWith c (Ok Done) (listing words)) end
  dis_done file words small few has end ran =
      begun c unfailed IsScroll IsNoScroll file (scroll words) has (right_scroll words few) _ _ _
      (λ ws e read work. text_sent c unfailed (listing words) e
      (subst (λ xs. TextSent (listing xs) c.before.streams.output c.now.streams.output e)
      (words_read words ws.items small read.small read.of_words) work))
      end ran.1

  module _ (commands_ : List ℕ) (told : c.before.streams.input.bytes ≡ Some commands_)
      (in_time : EndsInTime commands_) where
    by_cause : (why : Stop) (end : DebugEnd) → EndsBy ⊥ (Rose c.before.streams.output.faults
        c.now.streams.output.faults) why end →
        IsOrWants (λ end. end ≡ Ok Done) (end_of_session end)
    by_cause stop.ReadFault end e = absurd e.1
    by_cause stop.WriteFault end e = absurd (unfailed.output e.1)
    by_cause stop.Memory end e = inr (ap end_of_session e)
    by_cause _ end e = absurd e

    failed : (L : Limits) (taken : List ℕ) (s : Session) (j : Identifiers) (t : State)
        (end : DebugEnd) →
        Fails L taken s ⊥ (Rose c.before.streams.output.faults c.now.streams.output.faults)
        j t end → IsOrWants (λ end. end ≡ Ok Done) (end_of_session end)
    failed L taken s j t _ (debugging.at_cycle why end cut e) = by_cause why end e
    failed L taken s j t _ (debugging.at_reply k cut rose) = absurd (unfailed.output rose)
    failed L taken s j t _ (debugging.no_memory cut) = inr refl

    debugged : (L : Limits) (given rest : List ℕ) (s : Session) (i : Identifiers) (t : State)
        (end : DebugEnd) → given ≡ commands_ →
        Debugs L most_lines given rest s (Rose c.before.streams.input.faults
        c.now.streams.input.faults) ⊥ (Rose c.before.streams.output.faults
        c.now.streams.output.faults) i t end →
        IsOrWants (λ end. end ≡ Ok Done) (end_of_session end)
    debugged L given rest s _ _ _ is (debugging.turns_made lines t passes many obeys) =
        absurd (in_time lines rest (subst (λ bs. Passes bs lines rest) is passes) many)
    debugged L given rest s _ _ _ is (debugging.no_line lines t passes none fewer obeys) = inl refl
    debugged L given rest s _ _ _ is (debugging.quits lines last t passes fewer quit obeys) =
        inl refl
    debugged L given rest s _ _ _ is (debugging.unread lines part t passes fewer begun plain obeys
        rose) = absurd (unfailed.input rose)
    debugged L given rest s _ _ _ is (debugging.fails lines taken last t j u end passes fewer line
        other obeys fails) = failed L taken t j u end fails

    session_done : (ws xs : List ℕ) (end : End) → SessionEnds ws xs c.before.streams c.now.streams
        end → IsOrWants (λ end. end ≡ Ok Done) end
    session_done ws xs _ (sessions.sat end sits) =
        let held = some_held c.before.streams.output.bytes in
        let x = sits.sits held.0 held.1 in
        let given : commands_ ≡ sits.commands = subst (λ b. MayHold b sits.commands)
        told sits.had in
        debugged _ sits.commands sits.rest _ sits.identifiers x.0 end (sym given) x.2

    debug_done : (file words input bytes : List ℕ) → length (scroll words) ≤ most_scroll_bytes →
        length bytes ≤ most_input_bytes →
        Has file (scroll words) c.before → Has input bytes c.before → (end : End) →
        JobEnds (jobs.debugs file input) c.before c.now end → IsOrWants (λ end. end ≡ Ok Done) end
    debug_done file words input bytes few short has there end ran =
        begun c unfailed IsScroll IsNoScroll file (scroll words) has (right_scroll words few) _ _ _
        (λ ws e read work. begun c unfailed IsInput IsNoInput input bytes there
        (right_input bytes short) _ _ _
        (λ xs u is sat. session_done ws.items xs.items u sat) e work)
        end ran.1

pub scrolls : ScrollsComplete IsOfCodex
scrolls = record {
  asm = λ file out text words few is c call asks has unfailed.
      these_words out words c (call_fills c unfailed (jobs.assembles file out) call asks out
      (λ ws. ws ≡ words) (asm_done c unfailed file out text words few is has));
  dis = λ file words small few c call asks has unfailed.
      call_gives c unfailed (jobs.lists file) call asks (Ok Done) (listing words)
      (dis_done c unfailed file words small few has);
  debug = λ file words input bytes commands few short in_time c call asks has unfailed.
      call_ends c unfailed (jobs.debugs file input) call asks (Ok Done)
      (debug_done c unfailed commands has.told in_time file words input bytes few short
      has.scroll_there has.input_there);
}

-- `selftest`
told_selves : (number : ℕ) (c : Call) → IsUnfailed c → (end : End) →
    SelftestEnds number c.before.streams.output c.now.streams.output end →
    ((found : Found number) × EndsWith c (Ok Done) (nine_lines number found) end)
    ⊎ (end ≡ Err line.NoMemory)
told_selves number c unfailed end (selves.told found _ sent) =
    elim (text_sent c unfailed (nine_lines number found) end sent) [
      | inl so ↦ inl (found, so)
      | inr none ↦ inr none
    ]
told_selves number c unfailed _ (selves.no_memory same) = inr refl

pub selftest : SelftestComplete IsOfCodex
selftest number c call asks held unfailed =
    let e = ended (jobs.selftests number) c call asks in
    let is = unfailed_status c unfailed (jobs.selftests number) e in
    elim e.ends [
      | inl ran ↦ elim (told_selves number c unfailed e.end ran.2) [
        | inl so ↦ inl (so.0, record { ends = is ∙ ap status_of_end so.1.0; wrote = so.1.1 })
        | inr none ↦ inr (is ∙ ap status_of_end none)
      ]
      | inr none ↦ inr (is ∙ ap status_of_end none.0)
    ]

-- `type`
right_sheet : (P : Program) (lines : List ℕ) (rows : List SheetRow) → sheet_of lines (Ok rows) →
    (l : Line) → IsNoSheet P lines l → ⊥
right_sheet P lines rows is _ (reading.faulty fault bad) =
    let clash : Ok rows ≡ Err fault = sheet_one lines (Ok rows) (Err fault) is bad in cc

fit_done : (P : Program) (rows : List SheetRow) → fits_of P rows (Ok tt) → (c : Call) →
    IsUnfailed c → (end : End) →
    FitTold P rows c.before.streams.output c.now.streams.output end →
    IsOrWants (EndsWith c (Ok Done) (typed_line P rows)) end
fit_done P rows fit c unfailed end (typing.fits _ _ safe sent) =
    text_sent c unfailed (typed_line P rows) end sent
fit_done P rows fit c unfailed _ (typing.unfit fault bad same) =
    let clash : Ok tt ≡ Err fault = fits_one P rows (Ok tt) (Err fault) fit bad in absurd (cc)

module _ (file text sheet lines : List ℕ) (P : Program) (rows : List SheetRow)
    (is : program_of text (Ok P)) (reads : sheet_of lines (Ok rows)) (fit : fits_of P rows (Ok tt))
    (c : Call) (has : HasSheet file text sheet lines c.before) (unfailed : IsUnfailed c) where
  sheet_done : (others : List SheetRow) (end : End) → sheet_of lines (Ok others) →
      FitTold P others c.before.streams.output c.now.streams.output end →
      IsOrWants (EndsWith c (Ok Done) (typed_line P rows)) end
  sheet_done others end read told =
      let e : Ok others ≡ Ok rows = sheet_one lines (Ok others) (Ok rows) read reads in
      let same : others ≡ rows = cc in
      fit_done P rows fit c unfailed end (subst (λ (xs : List SheetRow). FitTold P xs
      c.before.streams.output c.now.streams.output end) same told)

  types_done : (end : End) → JobEnds (jobs.types file sheet) c.before c.now end →
      IsOrWants (EndsWith c (Ok Done) (typed_line P rows)) end
  types_done end ran = grid_begun file text P is c has.program_there unfailed _ _ _
      (λ e work. begun c unfailed IsSheetOf (IsNoSheet P) sheet lines has.sheet_there
      (right_sheet P lines rows reads) _ _ _ sheet_done e work) end ran.1

pub typed : TypesComplete IsOfCodex
typed file text sheet lines P rows is reads fit c call asks has unfailed =
    call_gives c unfailed (jobs.types file sheet) call asks (Ok Done) (typed_line P rows)
    (types_done file text sheet lines P rows is reads fit c has unfailed)
