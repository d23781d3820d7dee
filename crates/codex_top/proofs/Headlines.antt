-- The headline: the commands of a grid, and the files between them.
use Rattle.std.proofs.Common.{◌≡◌, ◌⊎◌, ℕ, ◌+◌, ◌≤◌, Bool, true, not, is_some, List, length, take, drop, Option, Some, None, refl, sym, ap, ◌∙◌, subst, inl, inr, arith, take-append-drop}
use Rattle.std.specs.Prelude.{cond, Result, Ok, Err}
use Rattle.std.specs.FinMap as map
use Rattle.std.specs.Cmp.Lexicographic.{nat_list_cmp_total}
use Rattle.std.proofs.lemmas.Bool.{cases_Bool}
use Rattle.std.proofs.lemmas.Cmp.{eq_by_cmp_equiv}
use Rattle.umix_base.specs.Files.{Files, WritesFile}
use Rattle.um_word.specs.Scroll.{scroll}
use Rattle.two_d.specs.Meaning.{Meaning, Outcome, mean}
use Rattle.two_d.specs.Faults.{TextFault}
use Rattle.two_d.specs.Program.{program_of}
use Rattle.two_d.specs.Texts.{text_of}
use Rattle.two_d.specs.Programs.{Program}
use Rattle.two_d.specs.Steps.{Choice, Event, Table, EachReady, HasMeaning, IsStateOf, after, instance_at, is_live, start}
use Rattle.two_d.proofs.OneMeaning.{one_meaning}
use Rattle.two_d.proofs.Progress.{progress}
use Rattle.two_d.proofs.Runs.{run_means, run_counts, run_shorter}
use Rattle.two_d.proofs.SomeProgram.{one_reading}
use Rattle.box_parse.proofs.Commands.{some_command, one_command_of_box}
use Rattle.fire_core.proofs.StateLemmas.{state_sound}
use Rattle.codex_top.specs.declared.line.Line.{Line}
use Rattle.codex_top.specs.declared.line.Line.TheVariants as line
use Rattle.codex_top.specs.declared.end.Finish.{Finish}
use Rattle.codex_top.specs.declared.end.Finish.TheVariants.{Done}
use Rattle.codex_top.specs.declared.status.Status.{Status}
use Rattle.codex_top.specs.declared.status.Status.TheVariants as status
use Rattle.codex_top.specs.Calls.{Call, Has, IsOfCodex, Wrote}
use Rattle.codex_top.specs.Commands.{Begins, CheckEnds, CompileEnds, CompiledInto, EvalEnds, accepted_line}
use Rattle.codex_top.specs.Commands as commands
use Rattle.codex_top.specs.Endings.{End, IsTold}
use Rattle.codex_top.specs.Endings as endings
use Rattle.codex_top.specs.Evaluating.{IsMeantWithin, OutcomeEnds, finish_of}
use Rattle.codex_top.specs.Evaluating as evaluating
use Rattle.codex_top.specs.Headline.{CompileStops, EvalStops, EveryOrderAgrees, Headline, IsAccepted, IsCompiled, IsCutShort, IsTied, Target}
use Rattle.codex_top.specs.Headline as headlines
use Rattle.codex_top.specs.Outside.{Outside}
use Rattle.codex_top.specs.Reading.{IsNoProgram, IsProgram, ProgramRead}
use Rattle.codex_top.specs.Reading as reading
use Rattle.codex_top.specs.Sending.{ScrollWritten, TextSent}
use Rattle.codex_top.specs.Sending as sending
use Rattle.codex_top.specs.Words.{Asks}
use Rattle.codex_top.specs.Words as jobs
use Rattle.codex_top.proofs.Compiled.{run_tells}
use Rattle.codex_top.proofs.Ended.{Ended, IsCutEnd, cut_of, cut_status, ended, not_read, read_as, told_done, told_end, told_finish}
use Rattle.codex_top.proofs.Ended as ends

-- in whatever order events are made
running : (T : Table) → (instance_at T 0).outcome ≡ None → is_live (instance_at T 0) ≡ true
running T none = ap (λ (o : Option Outcome). not (is_some o)) none

longest : (P : Program) (r : Meaning) (events : List Event) → HasMeaning P r →
    EachReady P (start P) events → length events ≤ r.firings + r.instances
longest P r events has each = elim (cases_Bool (is_live (instance_at (after P (start P) events) 0))) [
  | inl up ↦ omega (arith, run_shorter P has.depth r has.means events each up)
  | inr down ↦ omega (arith, (run_counts P has.depth r has.means events each down).2)
]

state_means : (P : Program) (T : Table) (o : Outcome) → IsStateOf P T →
    (instance_at T 0).outcome ≡ Some o → (r : Meaning) × HasMeaning P r × (r.outcome ≡ o)
state_means P T o s e =
    let (n, r, means, same) = run_means P s.events s.each_ready o
    (ap (λ (U : Table). (instance_at U 0).outcome) (sym s.is) ∙ e) in
    (r, record { depth = n; means = means }, same)

every_order : (P : Program) → EveryOrderAgrees P
every_order P = record {
  agrees = state_means P;
  some_ready = λ T s none. let (n, sound) = state_sound P T s in
      progress P (mean P n) T sound (running T none);
  ends = longest P;
}

-- a text has one reading
pub one_reading_of : (text : List ℕ) (r s : Result Program TextFault) → program_of text r →
    program_of text s → r ≡ s
one_reading_of text r s a b = let w = one_reading some_command one_command_of_box text in
    sym (w.2 r a) ∙ w.2 s b

pub one_program : (text : List ℕ) (P Q : Program) → program_of text (Ok P) →
    program_of text (Ok Q) → Q ≡ P
one_program text P Q is other = let e = one_reading_of text (Ok P) (Ok Q) is other in cc

-- an accepted grid has no fault
pub right_grid : (text : List ℕ) (P : Program) → program_of text (Ok P) → (l : Line) →
    IsNoProgram text l → ⊥
right_grid text P is _ (reading.faulty fault faulty) = let e =
    one_reading_of text (Ok P) (Err fault) is faulty in cc

-- what was written is there
pub is_written : (o n : Outside) (name bytes : List ℕ) (files : Files) →
    o.shelf.files ≡ Some files → WritesFile name bytes o.shelf.files n.shelf.files (Ok tt) →
    Has name bytes n
is_written o n name bytes files told w =
    record {
      files = map.insert files name bytes;
      shelf_tells = subst (λ (held : Option Files). WritesFile name bytes held n.shelf.files
          (Ok tt)) told w;
      has = map.get-insert nat_list_cmp_total files name bytes name
          ∙ ap (λ (b : Bool). cond b (Some bytes) (map.get files name))
          ((eq_by_cmp_equiv nat_list_cmp_total).refl name);
    }

-- a file that holds the text of an accepted grid
module _ (text : List ℕ) (P : Program) (is : program_of text (Ok P)) (file : List ℕ) (c : Call)
    (has : Has file text c.before) where
  grid_cut : (target : Target) (l : Line) →
      ProgramRead file c.before.shelf c.now.shelf (Err l) → IsCutEnd target c (Err l)
  grid_cut target l read = cut_of target c l (not_read IsProgram IsNoProgram file text c.before
      c.now has (right_grid text P is) l read)

  pub grid_read : (Q : Program) → ProgramRead file c.before.shelf c.now.shelf (Ok Q) → Q ≡ P
  grid_read Q read = one_program text P Q is (read_as IsProgram IsNoProgram file text c.before c.now
      has Q read).reads

  module _ (events : ℕ) where
    cut_text : (r : Meaning) (k : ℕ) (s : Status) → IsCutShort headlines.Output c s →
        IsMeantWithin events P r → Wrote (take k (text_of P r.outcome)) c → EvalStops P events c s
    cut_text r k s cut means received =
        headlines.cut_within r (take k (text_of P r.outcome)) (drop k (text_of P r.outcome)) s cut
        means (take-append-drop k (text_of P r.outcome)) received

    outcome_stops : (end : End) (s : Status) → OutcomeEnds events P c.before.streams.output
        c.now.streams.output end → IsTold c.err_before c.err_now end s → EvalStops P events c s
    outcome_stops _ _ (evaluating.spent few same) (endings.whole _ received later) =
        headlines.spent few same
    outcome_stops _ _ (evaluating.spent few same) (endings.cut _ k le received rose) =
        headlines.cut_before status.WriteFault (headlines.err_failed rose) same
    outcome_stops _ s (evaluating.told r _ means (evaluating.sent _ (sending.sent received))) told =
        subst (EvalStops P events c) (sym (told_finish c.err_before c.err_now (finish_of r.outcome)
        s told)) (headlines.told r means received)
    outcome_stops _ s (evaluating.told r _ means (evaluating.sent _
        (sending.cut k le received rose))) told =
        cut_text r k s (cut_status headlines.Output c (Err line.WriteFault) s
        (ends.output_failed refl rose) told) means received
    outcome_stops _ s (evaluating.told r _ means (evaluating.no_memory k le received)) told =
        cut_text r k s (cut_status headlines.Output c (Err line.NoMemory) s ends.no_memory told)
        means received

    eval_stops : (end : End) (s : Status) → EvalEnds file events c.before.shelf c.now.shelf
        c.before.streams.output c.now.streams.output end →
        IsTold c.err_before c.err_now end s → EvalStops P events c s
    eval_stops _ s (commands.unread l read same) told = headlines.cut_before s
        (cut_status headlines.Output c (Err l) s (grid_cut headlines.Output l read) told) same
    eval_stops _ s (commands.no_memory same) told = headlines.cut_before s
        (cut_status headlines.Output c (Err line.NoMemory) s ends.no_memory told) same
    eval_stops end s (commands.works Q _ read work) told =
        outcome_stops end s (subst (λ (R : Program). OutcomeEnds events R c.before.streams.output
        c.now.streams.output end) (grid_read Q read) work) told

  -- how `check` stops
  sent_stops : (end : End) (s : Status) → TextSent (accepted_line P) c.before.streams.output
      c.now.streams.output end → IsTold c.err_before c.err_now end s →
      (s ≡ status.Done) ⊎ IsCutShort headlines.Output c s
  sent_stops _ s (sending.ends _ (sending.sent received)) told =
      inl (told_finish c.err_before c.err_now Done s told)
  sent_stops _ s (sending.ends _ (sending.cut k le received rose)) told =
      inr (cut_status headlines.Output c (Err line.WriteFault) s (ends.output_failed refl rose)
      told)

  check_stops : (end : End) (s : Status) → CheckEnds file c.before.shelf c.now.shelf
      c.before.streams.output c.now.streams.output end → IsTold c.err_before c.err_now end s →
      (s ≡ status.Done) ⊎ IsCutShort headlines.Output c s
  check_stops _ s (commands.unread l read same) told =
      inr (cut_status headlines.Output c (Err l) s (grid_cut headlines.Output l read) told)
  check_stops _ s (commands.no_memory same) told =
      inr (cut_status headlines.Output c (Err line.NoMemory) s ends.no_memory told)
  check_stops end s (commands.works Q _ read work) told =
      sent_stops end s (subst (λ (R : Program). TextSent (accepted_line R) c.before.streams.output
      c.now.streams.output end) (grid_read Q read) work) told

  module _ (out : List ℕ) where
    written_stops : (words : List ℕ) (end : End) (s : Status) → IsCompiled IsOfCodex P words →
        ScrollWritten out words c.before.shelf c.now.shelf end →
        IsTold c.err_before c.err_now end s → CompileStops IsOfCodex P out c s
    written_stops words _ s compiled (sending.written w) told =
        subst (CompileStops IsOfCodex P out c) (sym (told_finish c.err_before c.err_now Done s
        told))
        (headlines.done words (is_written c.before c.now out (scroll words) has.files
        has.shelf_tells w) compiled)
    written_stops words _ s compiled (sending.cut w rose) told =
        headlines.cut_short s
        (cut_status headlines.File c (Err line.WriteFault) s (ends.write_failed refl rose) told)
    written_stops words _ s compiled (sending.no_memory same) told =
        headlines.cut_short s
        (cut_status headlines.File c (Err line.NoMemory) s ends.no_memory told)

    compile_stops : (end : End) (s : Status) → CompileEnds file out c.before.shelf c.now.shelf end →
        IsTold c.err_before c.err_now end s → CompileStops IsOfCodex P out c s
    compile_stops _ s (commands.unread l read only) told = headlines.cut_short s
        (cut_status headlines.File c (Err l) s (grid_cut headlines.File l read) told)
    compile_stops _ s (commands.no_memory only) told = headlines.cut_short s
        (cut_status headlines.File c (Err line.NoMemory) s ends.no_memory told)
    compile_stops end s (commands.works Q _ read work) told =
        let w = subst (λ (R : Program). CompiledInto R out c.before.shelf c.now.shelf end)
        (grid_read Q read) work in
        written_stops w.words end s
        (record {
          small = w.small;
          realises = w.realises;
          each_run = λ copy cycles d call asks there. run_tells P w.words w.blocks w.small w.few
              w.realises w.follows copy cycles d call there asks;
        }) w.written told

  eval_tied : (picks : _) (events : ℕ) → IsOfCodex c → Asks c.words
      (jobs.evaluates file picks events) → EvalStops P events c c.status
  eval_tied picks events call asks =
      let e = ended (jobs.evaluates file picks events) c call asks in
      elim e.ends [
        | inl ran ↦ eval_stops events e.end c.status ran.1 e.told
        | inr none ↦
            headlines.cut_before c.status
            (cut_status headlines.Output c e.end c.status (rw none.0 ends.no_memory) e.told)
            (ap (λ (o : Outside). o.streams.output) none.1)
      ]

  compile_tied : (out : List ℕ) → IsOfCodex c → Asks c.words (jobs.compiles file out) →
      CompileStops IsOfCodex P out c c.status
  compile_tied out call asks =
      let e = ended (jobs.compiles file out) c call asks in
      elim e.ends [
        | inl ran ↦ compile_stops out e.end c.status ran.1 e.told
        | inr none ↦ headlines.cut_short c.status (cut_status headlines.File c e.end c.status
            (rw none.0 ends.no_memory) e.told)
      ]

  check_tied : IsOfCodex c → Asks c.words (jobs.checks file) →
      (c.status ≡ status.Done) ⊎ IsCutShort headlines.Output c c.status
  check_tied call asks =
      let e = ended (jobs.checks file) c call asks in
      elim e.ends [
        | inl ran ↦ check_stops e.end c.status ran.1 e.told
        | inr none ↦ inr (cut_status headlines.Output c e.end c.status (rw none.0 ends.no_memory)
            e.told)
      ]

tied : (text : List ℕ) (P : Program) → program_of text (Ok P) → IsTied IsOfCodex text P
tied text P is = record {
  one_meaning = one_meaning P;
  every_order = every_order P;
  each_check = λ file c call asks has. check_tied text P is file c has call asks;
  each_eval = λ file picks events c call asks has. eval_tied text P is file c has picks events call
      asks;
  each_compile = λ file out c call asks has. compile_tied text P is file c has out call asks;
}

-- what is done begins with a program
module _ (file text : List ℕ) (c : Call) (call : IsOfCodex c) (has : Has file text c.before)
  where
    program_there : (Q : Program) → ProgramRead file c.before.shelf c.now.shelf (Ok Q) →
        IsAccepted text
    program_there Q read = (
      Q,
      (read_as IsProgram IsNoProgram file text c.before c.now has Q
          read).reads,
    )

    -- and so is each command that reads a grid and ends without a line
    accepts : (Untouched : Type 0) (Work : Program → End → Type 0) (end : End) (f : Finish) →
        end ≡ Ok f → Begins (ProgramRead file c.before.shelf c.now.shelf) Untouched Work end →
        IsAccepted text
    accepts Untouched Work _ f e (commands.unread l read same) = absurd (cc)
    accepts Untouched Work _ f e (commands.no_memory same) = absurd (cc)
    accepts Untouched Work end f e (commands.works Q _ read work) = program_there Q read

    -- where nothing was done the end has a line
    no_finish : (end : End) (f : Finish) → end ≡ Ok f → end ≡ Err line.NoMemory → IsAccepted text
    no_finish end f e none = let clash : Ok f ≡ Err line.NoMemory = sym e ∙ none in absurd (cc)

    checked : c.status ≡ status.Done → Asks c.words (jobs.checks file) → IsAccepted text
    checked done asks =
        let e = ended (jobs.checks file) c call asks in
        let d = told_done c.err_before c.err_now e.end c.status done e.told in
        elim e.ends [
          | inl ran ↦ accepts _ _ e.end Done d ran.1
          | inr none ↦ no_finish e.end Done d none.0
        ]

    evaluated : (picks : Choice) (events : ℕ) → (c.status ≡ status.Done) ⊎ (c.status ≡ status.Stuck) →
        Asks c.words (jobs.evaluates file picks events) → IsAccepted text
    evaluated picks events ends_so asks =
        let e = ended (jobs.evaluates file picks events) c call asks in
        let (f, d) = told_end c.err_before c.err_now e.end c.status ends_so e.told in
        elim e.ends [
          | inl ran ↦ accepts _ _ e.end f d ran.1
          | inr none ↦ no_finish e.end f d none.0
        ]

    compiled : (out : List ℕ) → c.status ≡ status.Done → Asks c.words (jobs.compiles file out) →
        IsAccepted text
    compiled out done asks =
        let e = ended (jobs.compiles file out) c call asks in
        let d = told_done c.err_before c.err_now e.end c.status done e.told in
        elim e.ends [
          | inl ran ↦ accepts _ _ e.end Done d ran.1
          | inr none ↦ no_finish e.end Done d none.0
        ]

pub headline : Headline IsOfCodex
headline = record {
  one_program = λ text P Q is other. sym (one_program text P Q is other);
  accepted = tied;
  checked = λ file text c call asks has done. checked file text c call has done asks;
  evaluated = λ file text picks events c call asks has ends_so.
      evaluated file text c call has picks events ends_so asks;
  compiled = λ file out text c call asks has done. compiled file text c call has out done asks;
}
