-- A run that one call saved and another resumed.
use Rattle.std.proofs.Common.{◌≡◌, ◌≢◌, ◌⊎◌, ℕ, ◌+◌, ◌<◌, ◌≤◌, All, List, [], ◌++◌, length, Option, Some, None, refl, sym, ap, ◌∙◌, subst, inl, inr, arith}
use Rattle.std.specs.Prelude.{drop, option_map, Ok, Err, Vec}
use Rattle.std.specs.declared.alloc.Global.{Global}
use Rattle.umix_base.specs.Causes.{KeepsTelling}
use Rattle.umix_base.specs.Files.{WritesFile}
use Rattle.um_word.specs.Rule.{Identifiers, none_made, ruled}
use Rattle.um_word.specs.Run.{Standing, Stands, Failed}
use Rattle.um_word.specs.Scroll.{most_scroll_bytes, scroll}
use Rattle.um_word.specs.State.{State, start_of}
use Rattle.um_machine.specs.declared.stop.Stop.{Stop}
use Rattle.um_machine.specs.declared.stop.Stop.TheVariants as stop
use Rattle.um_machine.specs.MachineView.{MachineView, machine_of, state_of}
use Rattle.um_machine.specs.Outside.{MayRest}
use Rattle.um_machine.specs.Stops.{unfailed_end}
use Rattle.um_machine.specs.Runs.{EndsAs, RunEnds}
use Rattle.um_image.specs.Image.{HasImage, image_of}
use Rattle.um_image.specs.Laws.{IsOwnEnd, IsSavedEnd, SavedRun}
use Rattle.um_image.proofs.Resumed.{resumed_runs_go_on}
use Rattle.um_image.proofs.Short.{images_are_short}
use Rattle.codex_top.specs.declared.line.Line.{Line}
use Rattle.codex_top.specs.declared.line.Line.TheVariants as line
use Rattle.codex_top.specs.declared.end.Finish.TheVariants.{Done}
use Rattle.codex_top.specs.declared.status.Status.{Status}
use Rattle.codex_top.specs.declared.status.Status.TheVariants as status
use Rattle.codex_top.specs.Calls.{Call, Has, IsOfCodex, status_of_end}
use Rattle.codex_top.specs.Commands.{ResumeEnds, RunCommandEnds, SaveEnds}
use Rattle.codex_top.specs.Commands as commands
use Rattle.codex_top.specs.Completeness.{HasWithInput}
use Rattle.codex_top.specs.Endings.{End, IsTold}
use Rattle.codex_top.specs.Limits.{limits}
use Rattle.codex_top.specs.Outside.{Received, Stream}
use Rattle.codex_top.specs.Reading.{IsImageOf, IsNoImage, IsNoScroll, IsScroll, ScrollRead}
use Rattle.codex_top.specs.Reading as reading
use Rattle.codex_top.specs.ResumeCommand.{MachineEnds, MachineRuns}
use Rattle.codex_top.specs.ResumeCommand as resuming
use Rattle.codex_top.specs.RunCommand.{ScrollEnds, end_of_run}
use Rattle.codex_top.specs.RunCommand as running
use Rattle.codex_top.specs.SaveCommand.{SavesInto, ScrollSaved}
use Rattle.codex_top.specs.SaveCommand as saving
use Rattle.codex_top.specs.SavedRuns.{AreOneRun, AreToldAlike, IsOwnStatus, SavedRuns}
use Rattle.codex_top.specs.Sending.{FileWritten}
use Rattle.codex_top.specs.Sending as sending
use Rattle.codex_top.specs.Words.{Asks}
use Rattle.codex_top.specs.Words as jobs
use Rattle.codex_top.proofs.Compiled.{AreWords, right_scroll, words_read}
use Rattle.codex_top.proofs.Complete.{one_has}
use Rattle.codex_top.proofs.Ended.{ended, not_read, read_as, told_done, told_so}
use Rattle.codex_top.proofs.Headlines.{is_written}

-- an image is no refusal's cause
pub right_image : (m : MachineView) (taken : ℕ) → HasImage m taken → (l : Line) →
    IsNoImage (image_of m taken) l → ⊥
right_image m taken has _ (reading.too_long over) =
    let few = images_are_short (image_of m taken) (m, taken, has, refl) in omega (arith, over, few)
right_image m taken has _ (reading.bad begun few why) = why.no_image (m, taken, has, refl)

-- a source or a shelf that tells now told before
pub told_before : {A : Type 0} (before now : Option A) (it : A) → KeepsTelling before now →
    now ≡ Some it → (was : A) × (before ≡ Some was)
told_before (Some was) now it keeps tells = (was, refl)
told_before None None it keeps tells = absurd (cc)
told_before None (Some it) _ keeps tells = absurd (cc)

pub told_now : {A : Type 0} (before now : Option A) (it : A) → KeepsTelling before now →
    before ≡ Some it → (is : A) × (now ≡ Some is)
told_now before (Some is) it keeps tells = (is, refl)
told_now None None it keeps tells = absurd (cc)
told_now (Some was) None it keeps tells = absurd (cc)

-- the rest that a telling source has
pub rest_told : (before now : Option (List ℕ)) (input rest : List ℕ) → KeepsTelling before now →
    before ≡ Some input → MayRest now rest → now ≡ Some rest
rest_told before (Some is) input rest keeps tells may = ap Some may
rest_told None None input rest keeps tells may = absurd (cc)
rest_told (Some was) None input rest keeps tells may = absurd (cc)

-- what `save` left that was done
pub record IsSaved (file out : List ℕ) (n : ℕ) (c : Call) : Type 0 where
  pub words : Vec ℕ Global
  pub read : ScrollRead file c.before.shelf c.now.shelf (Ok words)
  pub machine : MachineView
  pub taken : ℕ
  pub run : ScrollSaved words.items n c.before.streams c.now.streams machine taken
  pub written : WritesFile out (image_of machine taken) c.before.shelf.files c.now.shelf.files
      (Ok tt)

done_is_saved : (n made : ℕ) (why : Stop) → end_of_run n made why ≡ Ok Done → IsSavedEnd why
done_is_saved n made stop.Halted e = tt
done_is_saved n made stop.Budget e = tt
done_is_saved n made _ e = absurd (cc)

module _ (file out : List ℕ) (n : ℕ) (c : Call) where
  file_written : (bytes : List ℕ) (end : End) → end ≡ Ok Done →
      FileWritten out bytes c.before.shelf c.now.shelf end →
      WritesFile out bytes c.before.shelf.files c.now.shelf.files (Ok tt)
  file_written bytes _ e (sending.written w) = w
  file_written bytes _ e (sending.cut w rose) = absurd (cc)
  file_written bytes _ e (sending.no_memory same) = absurd (cc)

  work_saved : (words : Vec ℕ Global) → ScrollRead file c.before.shelf c.now.shelf (Ok words) →
      (end : End) → end ≡ Ok Done → SavesInto out words.items n c.before c.now end →
      IsSaved file out n c
  work_saved words read end e (saving.saved machine taken _ run written) = record {
    words = words;
    read = read;
    machine = machine;
    taken = taken;
    run = run;
    written = file_written (image_of machine taken) end e written;
  }
  work_saved words read _ e (saving.stopped t why ran other only) =
      absurd (other (done_is_saved n t.cycles why e))

  saved_so : (end : End) → end ≡ Ok Done → SaveEnds file n out c.before c.now end →
      IsSaved file out n c
  saved_so _ e (commands.unread l read same) = absurd (cc)
  saved_so _ e (commands.no_memory same) = absurd (cc)
  saved_so end e (commands.works words _ read work) = work_saved words read end e work

  pub saved_call : IsOfCodex c → Asks c.words (jobs.saves file n out) → c.status ≡ status.Done →
      IsSaved file out n c
  saved_call call asks done =
      let e = ended (jobs.saves file n out) c call asks in
      let so : e.end ≡ Ok Done = told_done c.err_before c.err_now e.end c.status done e.told in
      elim e.ends [
        | inl ran ↦ saved_so e.end so ran
        | inr none ↦ let clash : Err line.NoMemory ≡ Ok Done = sym none.0 ∙ so in absurd (cc)
      ]

  -- the file holds the image
  pub saved_bytes : (image : List ℕ) → IsOfCodex c → Has out image c.now →
      (s : IsSaved file out n c) → image ≡ image_of s.machine s.taken
  saved_bytes image call has s =
      let (files, tells) = told_before c.before.shelf.files c.now.shelf.files has.files
      call.counted.shelf.files has.shelf_tells in
      one_has c.now out image (image_of s.machine s.taken) has
      (is_written c.before c.now out (image_of s.machine s.taken) files tells s.written)

-- what a status tells of an end
module _ (before now : Stream) (end : End) (s : Status) (told : IsTold before now end s) where
  pub own_end : IsOwnStatus s → IsOwnStatus (status_of_end end)
  own_end own = elim (told_so before now end s told) [
    | inl is ↦ subst IsOwnStatus is own
    | inr cut ↦ absurd (subst IsOwnStatus cut.0 own)
  ]

pub own_stop : (cycles made : ℕ) (why : Stop) →
    IsOwnStatus (status_of_end (end_of_run cycles made why)) → IsOwnEnd why
own_stop cycles made stop.ReadFault own = own
own_stop cycles made stop.WriteFault own = own
own_stop cycles made stop.Memory own = own
own_stop cycles made _ own = tt

not_outside : (l : Line) (rose : Type 0) →
    ((l ≡ line.ReadFault) × rose) ⊎ (l ≡ line.NoMemory) → IsOwnStatus (status_of_end (Err l)) → ⊥
not_outside l rose (inl e) own = subst (λ k. IsOwnStatus (status_of_end (Err k))) e.0 own
not_outside l rose (inr e) own = subst (λ k. IsOwnStatus (status_of_end (Err k))) e own

-- how `resume` goes on with an image
pub record IsResumed (saved : MachineView) (taken m : ℕ) (d : Call) : Type 0 where
  pub read : MachineView
  pub count : ℕ
  pub has : HasImage read count
  pub same : image_of read count ≡ image_of saved taken
  pub machine : MachineView
  pub why : Stop
  pub runs : MachineRuns read count m d.before.streams d.now.streams machine why
  pub own : IsOwnEnd why
  pub told : IsTold d.err_before d.err_now (end_of_run m machine.cycles why) d.status

module _ (copy : List ℕ) (m : ℕ) (d : Call) (saved : MachineView) (taken : ℕ)
    (has : HasImage saved taken) (there : Has copy (image_of saved taken) d.before)
    (own : IsOwnStatus d.status) where
  machine_resumed : (it : MachineView × ℕ) → IsImageOf (image_of saved taken) it → (end : End) →
      IsTold d.err_before d.err_now end d.status →
      MachineEnds it.0 it.1 m d.before.streams d.now.streams end → IsResumed saved taken m d
  machine_resumed it is _ told (resuming.untaken same rose) =
      absurd (own_end d.err_before d.err_now (Err line.ReadFault) d.status told own)
  machine_resumed it is _ told (resuming.ran machine why runs) = record {
    read = it.0;
    count = it.1;
    has = is.has;
    same = is.same;
    machine = machine;
    why = why;
    runs = runs;
    own = own_stop m machine.cycles why
        (own_end d.err_before d.err_now (end_of_run m machine.cycles why) d.status told own);
    told = told;
  }

  resumed_so : (end : End) → IsTold d.err_before d.err_now end d.status →
      ResumeEnds copy m d.before d.now end → IsResumed saved taken m d
  resumed_so _ told (commands.unread l read same) =
      absurd (not_outside l _ (not_read IsImageOf IsNoImage copy (image_of saved taken) d.before
      d.now there (right_image saved taken has) l read)
      (own_end d.err_before d.err_now (Err l) d.status told own))
  resumed_so _ told (commands.no_memory same) =
      absurd (own_end d.err_before d.err_now (Err line.NoMemory) d.status told own)
  resumed_so end told (commands.works it _ read work) =
      machine_resumed it (read_as IsImageOf IsNoImage copy (image_of saved taken) d.before d.now
      there it read) end told work

  pub resumed_call : IsOfCodex d → Asks d.words (jobs.resumes copy m) → IsResumed saved taken m d
  resumed_call call asks =
      let e = ended (jobs.resumes copy m) d call asks in
      elim e.ends [
        | inl ran ↦ resumed_so e.end e.told ran.1
        | inr none ↦ absurd (subst (λ x. IsOwnStatus (status_of_end x)) none.0
            (own_end d.err_before d.err_now e.end d.status e.told own))
      ]

-- `resume` of an image isn't refused
module _ (copy : List ℕ) (m : ℕ) (d : Call) (saved : MachineView) (taken : ℕ)
    (has : HasImage saved taken) (there : Has copy (image_of saved taken) d.before) where
  run_unrefused : (cycles made : ℕ) (why : Stop) →
      status_of_end (end_of_run cycles made why) ≢ status.Refused
  run_unrefused cycles made stop.Halted e = cc
  run_unrefused cycles made stop.Budget e = cc
  run_unrefused cycles made stop.ReadFault e = cc
  run_unrefused cycles made stop.WriteFault e = cc
  run_unrefused cycles made stop.Memory e = cc
  run_unrefused cycles made (stop.ArraysFull count) e = cc
  run_unrefused cycles made (stop.WordsFull count) e = cc
  run_unrefused cycles made _ e = cc

  unread_unrefused : (l : Line) (rose : Type 0) →
      ((l ≡ line.ReadFault) × rose) ⊎ (l ≡ line.NoMemory) →
      status_of_end (Err l) ≢ status.Refused
  unread_unrefused l rose (inl is) e =
      let clash : status.ReadFault ≡ status.Refused =
      sym (ap (λ k. status_of_end (Err k)) is.0) ∙ e in cc
  unread_unrefused l rose (inr is) e =
      let clash : status.Memory ≡ status.Refused =
      sym (ap (λ k. status_of_end (Err k)) is) ∙ e in cc

  machine_unrefused : (it : MachineView × ℕ) (end : End) →
      MachineEnds it.0 it.1 m d.before.streams d.now.streams end →
      status_of_end end ≢ status.Refused
  machine_unrefused it _ (resuming.untaken same rose) e = cc
  machine_unrefused it _ (resuming.ran machine why runs) e = run_unrefused m machine.cycles why e

  end_unrefused : (end : End) → ResumeEnds copy m d.before d.now end →
      status_of_end end ≢ status.Refused
  end_unrefused _ (commands.unread l read same) =
      unread_unrefused l _ (not_read IsImageOf IsNoImage copy (image_of saved taken) d.before d.now
      there (right_image saved taken has) l read)
  end_unrefused _ (commands.no_memory same) = λ e. cc
  end_unrefused end (commands.works it _ read work) = machine_unrefused it end work

  pub unrefused : IsOfCodex d → Asks d.words (jobs.resumes copy m) → d.status ≢ status.Refused
  unrefused call asks refused =
      let e = ended (jobs.resumes copy m) d call asks in
      elim (told_so d.err_before d.err_now e.end d.status e.told) [
        | inl is ↦ elim e.ends [
          | inl ran ↦ end_unrefused e.end ran.1 (sym is ∙ refused)
          | inr none ↦
              let clash : status.Memory ≡ status.Refused =
              sym (is ∙ ap status_of_end none.0) ∙ refused in absurd (cc)
        ]
        | inr cut ↦ let clash : status.WriteFault ≡ status.Refused = sym cut.0 ∙ refused in
            absurd (cc)
      ]

-- a run that ended by its own stands as the definition's run
pub stands_own : (n : ℕ) (old new : MachineView) (s t : State) (why : Stop) → IsOwnEnd why →
    RunEnds n old new s t why → EndsAs (ruled old.limits n old.identifiers s) new t why
stands_own n old new s t stop.ReadFault own h = absurd own
stands_own n old new s t stop.WriteFault own h = absurd own
stands_own n old new s t stop.Memory own h = absurd own
stands_own n old new s t _ own h = h

-- and so two of them end alike
pub one_ending : (x : Standing Identifiers) (new other : MachineView) (t u : State)
    (why cause : Stop) → EndsAs x new t why → EndsAs x other u cause → (u ≡ t) × (cause ≡ why)
one_ending (Stands v i) new other t u why cause a b =
    let same : u ≡ t = sym b.0 ∙ a.0 in
    (same, b.2 ∙ ap (λ (w : State). unfailed_end w.halted) same ∙ sym a.2)
one_ending (Failed v i fault) new other t u why cause a b = (sym b.0 ∙ a.0, b.2 ∙ sym a.2)

-- the status doesn't tell how many cycles were to be made
end_alike : (n m made : ℕ) (why : Stop) →
    status_of_end (end_of_run n made why) ≡ status_of_end (end_of_run m made why)
end_alike n m made stop.Halted = refl
end_alike n m made stop.Budget = refl
end_alike n m made stop.ReadFault = refl
end_alike n m made stop.WriteFault = refl
end_alike n m made stop.Memory = refl
end_alike n m made _ = refl

-- an own status is that of the end
own_status : (before now : Stream) (end : End) (s : Status) → IsTold before now end s →
    IsOwnStatus s → s ≡ status_of_end end
own_status before now end s told own = elim (told_so before now end s told) [
  | inl is ↦ is
  | inr cut ↦ absurd (subst IsOwnStatus cut.0 own)
]

status_alike : (n m made : ℕ) (why : Stop) (e d : Call) →
    IsTold e.err_before e.err_now (end_of_run n made why) e.status →
    IsTold d.err_before d.err_now (end_of_run m made why) d.status →
    IsOwnStatus e.status → IsOwnStatus d.status → e.status ≡ d.status
status_alike n m made why e d ran resumed own its =
    own_status e.err_before e.err_now (end_of_run n made why) e.status ran own
    ∙ end_alike n m made why
    ∙ sym (own_status d.err_before d.err_now (end_of_run m made why) d.status resumed its)

-- how a `run` ended that ended by its own
pub record IsRun (words input : List ℕ) (cycles : ℕ) (e : Call) : Type 0 where
  pub machine : MachineView
  pub t : State
  pub why : Stop
  pub own : IsOwnEnd why
  pub stops : RunEnds cycles (machine_of words limits) machine (start_of words input) t why
  pub wrote : Received t.out e.before.streams.output e.now.streams.output
  pub told : IsTold e.err_before e.err_now (end_of_run cycles t.cycles why) e.status

module _ (file words input : List ℕ) (small : AreWords words)
    (few : length (scroll words) ≤ most_scroll_bytes) (cycles : ℕ) (e : Call)
    (held : HasWithInput file (scroll words) input e.before) (own : IsOwnStatus e.status) where
  scroll_ran : (end : End) → IsTold e.err_before e.err_now end e.status →
      ScrollEnds words cycles e.before.streams e.now.streams end → IsRun words input cycles e
  scroll_ran _ told (running.ran t why ran) =
      let had : input ≡ ran.input = subst (λ bytes. MayRest bytes ran.input) held.told ran.had in
      record {
        machine = ran.machine;
        t = t;
        why = why;
        own = own_stop cycles t.cycles why
            (own_end e.err_before e.err_now (end_of_run cycles t.cycles why) e.status told own);
        stops = subst (λ xs. RunEnds cycles (machine_of words limits) ran.machine
            (start_of words xs) t why) (sym had) ran.stops;
        wrote = ran.wrote;
        told = told;
      }

  run_so : (end : End) → IsTold e.err_before e.err_now end e.status →
      RunCommandEnds file cycles e.before e.now end → IsRun words input cycles e
  run_so _ told (commands.unread l read same) =
      absurd (not_outside l _ (not_read IsScroll IsNoScroll file (scroll words) e.before e.now
      held.there (right_scroll words few) l read)
      (own_end e.err_before e.err_now (Err l) e.status told own))
  run_so _ told (commands.no_memory same) =
      absurd (own_end e.err_before e.err_now (Err line.NoMemory) e.status told own)
  run_so end told (commands.works read _ is work) =
      let s = read_as IsScroll IsNoScroll file (scroll words) e.before e.now held.there read is in
      scroll_ran end told (subst (λ (ws : List ℕ). ScrollEnds ws cycles e.before.streams
      e.now.streams end) (words_read words read.items small s.small s.of_words) work)

  pub run_call : IsOfCodex e → Asks e.words (jobs.runs file cycles) → IsRun words input cycles e
  run_call call asks =
      let x = ended (jobs.runs file cycles) e call asks in
      elim x.ends [
        | inl ran ↦ run_so x.end x.told ran.1
        | inr none ↦ absurd (subst (λ y. IsOwnStatus (status_of_end y)) none.0
            (own_end e.err_before e.err_now x.end e.status x.told own))
      ]

-- the two calls
module _ (file out words input image : List ℕ) (n : ℕ) (small : AreWords words)
    (bytes : All (λ byte. byte < 256) input) (c : Call) (call : IsOfCodex c)
    (asks : Asks c.words (jobs.saves file n out))
    (held : HasWithInput file (scroll words) input c.before) (done : c.status ≡ status.Done)
    (has : Has out image c.now) (copy : List ℕ) (m : ℕ) (d : Call) (too : IsOfCodex d)
    (resumes : Asks d.words (jobs.resumes copy m)) (there : HasWithInput copy image input d.before)
    (own : IsOwnStatus d.status) where
  saved : IsSaved file out n c
  saved = saved_call file out n c call asks done

  resumed : IsResumed saved.machine saved.taken m d
  resumed = resumed_call copy m d saved.machine saved.taken saved.run.run.image
      (subst (λ xs. Has copy xs d.before) (saved_bytes file out n c image call has saved)
      there.there) own too resumes

  is_scroll : IsScroll (scroll words) saved.words
  is_scroll = read_as IsScroll IsNoScroll file (scroll words) c.before c.now held.there saved.words
      saved.read

  words_same : saved.words.items ≡ words
  words_same = words_read words saved.words.items small is_scroll.small is_scroll.of_words

  input_same : input ≡ saved.run.input
  input_same = subst (λ xs. MayRest xs saved.run.input) held.told saved.run.had

  first_run : SavedRun n (machine_of words limits) saved.machine input saved.run.rest saved.run.out
      saved.taken
  first_run = subst (λ xs. SavedRun n (machine_of words limits) saved.machine xs saved.run.rest
      saved.run.out saved.taken) (sym input_same)
      (subst (λ ws. SavedRun n (machine_of ws limits) saved.machine saved.run.input saved.run.rest
      saved.run.out saved.taken) words_same saved.run.run)

  skipped : drop resumed.count input ≡ resumed.runs.input
  skipped = subst (λ xs. MayRest (option_map (drop resumed.count) xs) resumed.runs.input)
      there.told resumed.runs.had

  both : RunEnds (n + m) (machine_of words limits) resumed.machine (start_of words input)
      (state_of resumed.machine resumed.runs.rest (saved.run.out ++ resumed.runs.out)) resumed.why
  both = resumed_runs_go_on n m saved.taken resumed.count (machine_of words limits) saved.machine
      resumed.read resumed.machine input saved.run.rest saved.run.out resumed.runs.rest
      resumed.runs.out resumed.why bytes first_run resumed.has resumed.same
      (subst (λ xs. RunEnds m resumed.read resumed.machine (state_of resumed.read xs [])
      (state_of resumed.machine resumed.runs.rest resumed.runs.out) resumed.why) (sym skipped)
      resumed.runs.stops) resumed.own

  one_run : AreOneRun words input n m c d
  one_run = record {
    first = saved.run.out;
    second = resumed.runs.out;
    wrote_first = saved.run.wrote;
    wrote_second = resumed.runs.wrote;
    rest = resumed.runs.rest;
    left = rest_told d.before.streams.input.bytes d.now.streams.input.bytes input
        resumed.runs.rest too.counted.streams.input.tells there.told resumed.runs.left;
    machine = resumed.machine;
    stop = resumed.why;
    own = resumed.own;
    run = both;
    told = resumed.told;
  }

  module _ (other : List ℕ) (e : Call) (third : IsOfCodex e)
      (runs : Asks e.words (jobs.runs other (n + m)))
      (also : HasWithInput other (scroll words) input e.before) (its : IsOwnStatus e.status) where
    told_alike : AreToldAlike n m c d e
    told_alike =
        let x = run_call other words input small is_scroll.few (n + m) e also its third runs in
        let same = one_ending (ruled limits (n + m) none_made (start_of words input))
        resumed.machine x.machine
        (state_of resumed.machine resumed.runs.rest (saved.run.out ++ resumed.runs.out)) x.t
        resumed.why x.why
        (stands_own (n + m) (machine_of words limits) resumed.machine (start_of words input)
        (state_of resumed.machine resumed.runs.rest (saved.run.out ++ resumed.runs.out)) resumed.why
        resumed.own both)
        (stands_own (n + m) (machine_of words limits) x.machine (start_of words input) x.t x.why
        x.own x.stops) in
        let cycles : x.t.cycles ≡ resumed.machine.cycles = ap (λ (t : State). t.cycles) same.0 in
        let told : IsTold e.err_before e.err_now
        (end_of_run (n + m) resumed.machine.cycles resumed.why) e.status =
        subst (λ k. IsTold e.err_before e.err_now (end_of_run (n + m) k resumed.why) e.status)
        cycles (subst (λ w. IsTold e.err_before e.err_now (end_of_run (n + m) x.t.cycles w)
        e.status) same.1 x.told) in
        record {
          first = saved.run.out;
          second = resumed.runs.out;
          wrote_first = saved.run.wrote;
          wrote_second = resumed.runs.wrote;
          wrote_both = subst (λ xs. Received xs e.before.streams.output e.now.streams.output)
              (ap (λ (t : State). t.out) same.0) x.wrote;
          same = status_alike (n + m) m resumed.machine.cycles resumed.why e d told resumed.told
              its own;
          made = resumed.machine.cycles;
          stop = resumed.why;
          resumed = resumed.told;
          ran = told;
        }

pub saved_runs : SavedRuns IsOfCodex
saved_runs = record {
  accepted = λ file out image n c call asks held done has copy m d too resumes there.
      let s = saved_call file out n c call asks done in
      unrefused copy m d s.machine s.taken s.run.run.image
      (subst (λ xs. Has copy xs d.before) (saved_bytes file out n c image call has s) there) too
      resumes;
  one_run = λ file out words input image n small bytes c call asks held done has copy m d too
      resumes there own. (
        one_run file out words input image n small bytes c call asks held done has copy m d too
            resumes there own,
        told_alike file out words input image n small bytes c call asks held done has copy m d too
            resumes there own,
      );
}
