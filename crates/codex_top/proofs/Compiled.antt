-- Runs by the rule of words that realise a program, and what `run` of their scroll tells.
use Rattle.std.proofs.Common.{◌≡◌, ◌⊎◌, ℕ, suc, ◌+◌, ◌^◌, ◌<◌, ◌≤◌, Bool, true, false, List, [], ◌∷◌, ◌++◌, length, take, drop, Option, Some, None, refl, sym, ap, ◌∙◌, subst, inl, inr, arith}
use Rattle.std.specs.Prelude.{slice_index, cond, Ok, Err}
use Rattle.std.specs.Int.{w32, to_be_bytes, from_be_bytes}
use Rattle.std.proofs.Math.Nat.{mul-mod_right}
use Rattle.std.proofs.lemmas.Nat.{from_be_bytes-to_be_bytes_4}
use Rattle.umix_base.specs.declared.limits.Limits.{Limits}
use Rattle.umix_base.specs.Causes.{Rose, KeepsTelling}
use Rattle.um_word.specs.Scroll.{scroll, most_scroll_bytes}
use Rattle.um_word.specs.declared.op.Op.{Op}
use Rattle.um_word.specs.declared.op.Op.TheVariants.{Input}
use Rattle.um_word.specs.State.{State, start_of}
use Rattle.um_word.specs.Table.{Fault, ArraysFull, WordsFull, Goes, cycle, op_under}
use Rattle.um_word.specs.Loads.{IsLimit, fault_in, state_in}
use Rattle.um_word.specs.Run.{Standing, Stands, Failed, run, run_by, going_on, run_after}
use Rattle.um_word.specs.Rule.{Identifiers, none_made, next_identifier, identifiers_left, ruled, handed_out, SameStanding}
use Rattle.um_word.proofs.Orderly.{none_made_is_orderly}
use Rattle.um_word.proofs.Rules.{rules_are_legal}
use Rattle.um_word.proofs.Runs.{runs_compose}
use Rattle.um_machine.specs.declared.stop.Stop.{Stop}
use Rattle.um_machine.specs.declared.stop.Stop.TheVariants as stop
use Rattle.um_machine.specs.MachineView.{MachineView, machine_of}
use Rattle.um_machine.specs.Outside.{MayRest}
use Rattle.um_machine.specs.Runs.{EndsAs, EndsEarly, RunEnds}
use Rattle.um_machine.specs.Stops.{MayFail, stop_of, unfailed_end}
use Rattle.two_d.specs.Meaning.{Meaning}
use Rattle.two_d.specs.Programs.{Program}
use Rattle.two_d.specs.Steps.{HasMeaning, HasNoOutcome}
use Rattle.two_d.specs.Texts.{text_of}
use Rattle.lower_link.specs.Follows.{Follows}
use Rattle.lower_link.specs.Realises.{AreEnough, Realised, Realises}
use Rattle.lower_link.proofs.Unasked.{asks_nothing}
use Rattle.codex_top.specs.declared.line.Counted.TheVariants.{Cycles}
use Rattle.codex_top.specs.declared.line.Limit.{Limit}
use Rattle.codex_top.specs.declared.line.Limit.TheVariants as limit
use Rattle.codex_top.specs.declared.line.Line.{Line}
use Rattle.codex_top.specs.declared.line.Line.TheVariants as line
use Rattle.codex_top.specs.declared.end.Finish.TheVariants.{Done}
use Rattle.codex_top.specs.declared.status.Status.{Status}
use Rattle.codex_top.specs.declared.status.Status.TheVariants as status
use Rattle.codex_top.specs.Calls.{Call, Has, IsOfCodex, Wrote}
use Rattle.codex_top.specs.Commands.{RunCommandEnds}
use Rattle.codex_top.specs.Commands as commands
use Rattle.codex_top.specs.Endings.{End, IsTold}
use Rattle.codex_top.specs.Endings as endings
use Rattle.codex_top.specs.Headline.{IsGoing, RunStops, RunTells, run_of}
use Rattle.codex_top.specs.Headline as headline
use Rattle.codex_top.specs.Limits.{limits}
use Rattle.codex_top.specs.Outside.{Streams, Outside}
use Rattle.codex_top.specs.Reading.{IsNoScroll, IsScroll, ScrollRead}
use Rattle.codex_top.specs.Reading as reading
use Rattle.codex_top.specs.RunCommand.{ScrollRuns, ScrollEnds, end_of_run}
use Rattle.codex_top.specs.RunCommand as runs
use Rattle.codex_top.specs.Words.{Asks}
use Rattle.codex_top.specs.Words as jobs
use Rattle.codex_top.proofs.Ended.{Ended, IsCutEnd, cut_of, cut_status, ended, not_read, read_as, told_finish}
use Rattle.codex_top.proofs.Ended as ends
use Rattle.codex_top.proofs.FileLemmas.{length-scroll}
use Rattle.codex_top.proofs.Inputs.{AsksNothing, same_fault, same_halt, same_out, same_run, standing_with}
use Rattle.codex_top.proofs.Pieces.{received_none}

-- words of 32 bits are told by their bytes
abbrev pub AreWords : List ℕ → Type 0
AreWords words = (at : ℕ) → slice_index words at < 2 ^ 32

pub same_scroll : (xs ys : List ℕ) → AreWords xs → AreWords ys → scroll xs ≡ scroll ys → xs ≡ ys
same_scroll [] [] f g e = refl
same_scroll [] (y ∷ ys) f g e = absurd (let n = ap length e in omega (arith, n))
same_scroll (x ∷ xs) [] f g e = absurd (let n = ap length e in omega (arith, n))
same_scroll (x ∷ xs) (y ∷ ys) f g e =
    let heads : to_be_bytes w32 x ≡ to_be_bytes w32 y = ap (take 4) e in
    let tails : scroll xs ≡ scroll ys = ap (drop 4) e in
    let head : x ≡ y = sym (from_be_bytes-to_be_bytes_4 x (f 0)) ∙ ap (from_be_bytes w32) heads
    ∙ from_be_bytes-to_be_bytes_4 y (g 0) in
    rw head (ap (λ zs. y ∷ zs) (same_scroll xs ys (λ at. f (suc at)) (λ at. g (suc at)) tails))

-- a scroll of words is one
pub right_scroll : (words : List ℕ) → length (scroll words) ≤ most_scroll_bytes → (l : Line) →
    IsNoScroll (scroll words) l → ⊥
right_scroll words few _ (reading.too_long over) = omega (arith, over, few)
right_scroll words few _ (reading.ragged within why) = why (rw (length-scroll words)
    (mul-mod_right 4 (length words)))

-- and no other
pub words_read : (words read : List ℕ) → AreWords words → AreWords read →
    scroll words ≡ scroll read → read ≡ words
words_read words read small fit e = same_scroll read words fit small (sym e)

module _ (P : Program) (input : List ℕ) (n : ℕ) where
  stood : (s t : State) (i : Identifiers) (j : List ℕ) → s ≡ t → Realised P input n (Stands t j) →
      Realised P input n (Stands s i)
  stood s t i j e h =
      subst (λ u. Realised P input n (Stands u i)) (sym e)
      (record {
        faults = h.faults;
        untaken = h.untaken;
        begins = h.begins;
        silent = h.silent;
        whole = h.whole;
        ends = h.ends;
      })

  failed : (s t : State) (i : Identifiers) (j : List ℕ) (f g : Fault) → s ≡ t → f ≡ g →
      Realised P input n (Failed t j g) → Realised P input n (Failed s i f)
  failed s t i j f g e same h =
      subst (λ u. Realised P input n (Failed u i f)) (sym e)
      (subst (λ x. Realised P input n (Failed t i x)) (sym same)
      (record {
        faults = h.faults;
        untaken = h.untaken;
        begins = h.begins;
        silent = h.silent;
        whole = h.whole;
        ends = h.ends;
      }))

  moved : (x : Standing Identifiers) (y : Standing (List ℕ)) → SameStanding x y →
      Realised P input n y → Realised P input n x
  moved (Stands s i) (Stands t j) e h = stood s t i j e h
  moved (Stands s i) (Failed t j g) e h = absurd e
  moved (Failed s i f) (Stands t j) e h = absurd e
  moved (Failed s i f) (Failed t j g) e h = failed s t i j f g e.0 e.1 h

-- the run of words on this input, for so many cycles, with the identifiers of the rule
abbrev pub run_on : (words input : List ℕ) → ℕ → Standing Identifiers
run_on words input cycles = ruled limits cycles none_made (start_of words input)

-- a run of words that realise a program does so also with identifiers by the rule
pub realised_by_rule : (P : Program) (words input : List ℕ) (n : ℕ) → Realises P words →
    length words ≤ limits.words → Realised P input n (run_on words input n)
realised_by_rule P words input n realises fits =
    let h = rules_are_legal limits n none_made (start_of words input) (omega arith)
    (none_made_is_orderly limits words fits) in
    moved P input n (run_on words input n) (run limits n (handed_out limits n none_made
    (start_of words input)) (start_of words input)) h.same
    (realises limits input n (handed_out limits n none_made (start_of words input)) fits h.legal)

-- a run of words that follow a program asks for no input
asked_nothing : (x : Standing Identifiers) (y : Standing (List ℕ)) → SameStanding x y →
    AsksNothing y → AsksNothing x
asked_nothing (Stands s i) (Stands t j) e none =
    subst AsksNothing (ap (λ u. Stands u j) (sym e)) none
asked_nothing (Stands s i) (Failed t j g) e none = absurd e
asked_nothing (Failed s i f) (Stands t j) e none = absurd e
asked_nothing (Failed s i f) (Failed t j g) e none =
    subst AsksNothing (ap (λ u. Stands u j) (sym e.0)) none

asks_no_input : (P : Program) (words input : List ℕ) (blocks : List (ℕ × ℕ)) (n : ℕ) →
    Follows P words blocks → length words ≤ limits.words → AsksNothing (run_on words input n)
asks_no_input P words input blocks n follows fits =
    let s : State = start_of words input in
    let h = rules_are_legal limits n none_made s (omega arith)
    (none_made_is_orderly limits words fits) in
    let f = follows.runs limits input n (handed_out limits n none_made s) fits h.legal in
    asked_nothing (run_on words input n) (run limits n (handed_out limits n none_made s) s) h.same
    (asks_nothing P words blocks _ (run limits n (handed_out limits n none_made s) s) _ f)

-- so it stands on no input as on this one
on_no_input : (P : Program) (words input : List ℕ) (blocks : List (ℕ × ℕ)) (n : ℕ) →
    Follows P words blocks → length words ≤ limits.words →
    run_of words n ≡ standing_with [] (run_on words input n)
on_no_input P words input blocks n follows fits =
    same_run [] limits n none_made (start_of words input)
    (λ m. asks_no_input P words input blocks m follows fits)

input_fails : (op : Option Op) → MayFail op stop.ReadFault →
    (c : ℕ) × (op ≡ Some (Input c))
input_fails (Some (Input c)) fails = (c, refl)
input_fails _ fails = absurd fails

unfailed_input : (P : Program) (words input : List ℕ) (blocks : List (ℕ × ℕ)) (n : ℕ) (at : State)
    (i : Identifiers) → Follows P words blocks → length words ≤ limits.words →
    run_on words input n ≡ Stands at i → at.halted ≡ false →
    MayFail (op_under at) stop.ReadFault → ⊥
unfailed_input P words input blocks n at i follows fits stands running fails =
    let (c, is) = input_fails (op_under at) fails in
    subst AsksNothing stands (asks_no_input P words input blocks n follows fits) running c is

-- one cycle that goes on
step_on : (L : Limits) (s : State) (i : Identifiers) (t : State) → s.halted ≡ false →
    cycle s L (next_identifier i) ≡ Goes t →
    run_by next_identifier identifiers_left L 1 i s ≡ Stands t (identifiers_left s i)
step_on L s i t running goes =
    ap (λ (b : Bool). cond b (Stands s i) (run_after (cycle s L (next_identifier i)) s i
    (λ u. Stands u (identifiers_left s i)))) running
    ∙ ap (λ r. run_after r s i (λ u. Stands u (identifiers_left s i))) goes

-- the run whose next cycle goes on
pub next_stands : (words input : List ℕ) (made : ℕ) (at next : State) (i : Identifiers) →
    run_on words input made ≡ Stands at i → at.halted ≡ false →
    cycle at limits (next_identifier i) ≡ Goes next →
    run_on words input (made + 1) ≡ Stands next (identifiers_left at i)
next_stands words input made at next i stands running goes =
    runs_compose next_identifier identifiers_left limits made 1 none_made (start_of words input)
    ∙ ap (λ x. going_on x (λ t j. run_by next_identifier identifiers_left limits 1 j t)) stands
    ∙ step_on limits at i next running goes

-- a source of which nothing was taken
same_rest : (before now : Option (List ℕ)) (input rest : List ℕ) → KeepsTelling before now →
    MayRest before input → MayRest now rest → rest ≡ input → now ≡ before
same_rest None None input rest k had left e = refl
same_rest None (Some b) input rest k had left e = cc
same_rest (Some a) None input rest k had left e = cc
same_rest (Some a) (Some b) input rest k had left e = ap Some (left ∙ e ∙ sym had)

-- the ends of a run of a compiled scroll that stands so, with what it wrote
pub data EndsRun (P : Program) (cycles : ℕ) (x : Standing Identifiers) (c : Call) :
    (wrote : List ℕ) → End → Type 0 where
  done : (r : Meaning) → HasMeaning P r → (state_in x).halted ≡ true →
      EndsRun P cycles x c (text_of P r.outcome) (Ok Done)
  out_of_cycles : IsGoing x → ((r : Meaning) → HasMeaning P r → AreEnough P r cycles → ⊥) →
      EndsRun P cycles x c (state_in x).out (Err (line.Budget cycles Cycles))
  limited : (fault : Fault) → fault_in x ≡ Some fault → IsLimit fault → (l : Limit) (k : ℕ) →
      EndsRun P cycles x c (state_in x).out (Err (line.Limited l k))
  cut_short : (wrote : List ℕ) (end : End) → IsCutEnd headline.Output c end →
      EndsRun P cycles x c wrote end

stops_so : (P : Program) (cycles : ℕ) (x : Standing Identifiers) (c : Call) (wrote : List ℕ)
    (end : End) (s : Status) → EndsRun P cycles x c wrote end →
    IsTold c.err_before c.err_now end s → RunStops P cycles x c wrote s
stops_so P cycles x c _ _ s (done r has halted) told =
    subst (λ t. RunStops P cycles x c (text_of P r.outcome) t)
    (sym (told_finish c.err_before c.err_now Done s told)) (headline.done r has halted)
stops_so P cycles x c _ _ _ (out_of_cycles goes few) (endings.whole _ received later) =
    headline.out_of_cycles goes few
stops_so P cycles x c wrote _ _ (out_of_cycles goes few) (endings.cut _ k le received rose) =
    headline.cut_short wrote status.WriteFault (headline.err_failed rose)
stops_so P cycles x c _ _ _ (limited fault failed is l k) (endings.whole _ received later) =
    headline.limited fault failed is
stops_so P cycles x c wrote _ _ (limited fault failed is l k) (endings.cut _ n le received rose) =
    headline.cut_short wrote status.WriteFault (headline.err_failed rose)
stops_so P cycles x c wrote end s (cut_short _ _ cut) told = headline.cut_short wrote s
    (cut_status headline.Output c end s cut told)

-- the same of a run that stands so but for the input that is left
ends_same : (P : Program) (cycles : ℕ) (r : List ℕ) (x : Standing Identifiers) (c : Call)
    (wrote : List ℕ) (end : End) → EndsRun P cycles x c wrote end →
    EndsRun P cycles (standing_with r x) c wrote end
ends_same P cycles r x c _ _ (done m has halted) = done m has (same_halt r x ∙ halted)
ends_same P cycles r x c _ _ (out_of_cycles goes few) =
    subst (λ out. EndsRun P cycles (standing_with r x) c out (Err (line.Budget cycles Cycles)))
    (same_out r x)
    (out_of_cycles (record {
      faultless = same_fault r x ∙ goes.faultless;
      running = same_halt r x ∙ goes.running;
    }) few)
ends_same P cycles r x c _ _ (limited fault failed is l k) =
    subst (λ out. EndsRun P cycles (standing_with r x) c out (Err (line.Limited l k)))
    (same_out r x) (limited fault (same_fault r x ∙ failed) is l k)
ends_same P cycles r x c wrote end (cut_short _ _ cut) = cut_short wrote end cut

-- what `run` tells, by its end
record EndTells (P : Program) (cycles : ℕ) (x : Standing Identifiers) (c : Call) (end : End) :
    Type 0 where
  wrote : List ℕ
  received : Wrote wrote c
  begins : (r : Meaning) → HasMeaning P r → (more : List ℕ) × (wrote ++ more ≡ text_of P r.outcome)
  silent : HasNoOutcome P → wrote ≡ []
  untaken : c.now.streams.input.bytes ≡ c.before.streams.input.bytes
  stops : EndsRun P cycles x c wrote end

tells_so : (P : Program) (words : List ℕ) (cycles : ℕ) (c : Call) (end : End) →
    EndTells P cycles (run_of words cycles) c end → IsTold c.err_before c.err_now end c.status →
    RunTells P words cycles c
tells_so P words cycles c end e told = record {
  wrote = e.wrote;
  received = e.received;
  begins = e.begins;
  silent = e.silent;
  untaken = e.untaken;
  stops = stops_so P cycles (run_of words cycles) c e.wrote end c.status e.stops told;
}

-- what a run on an input tells is told of the run on none
told_same : (P : Program) (cycles : ℕ) (x y : Standing Identifiers) (c : Call) (end : End) →
    y ≡ standing_with [] x → EndTells P cycles x c end → EndTells P cycles y c end
told_same P cycles x y c end e h = record {
  wrote = h.wrote;
  received = h.received;
  begins = h.begins;
  silent = h.silent;
  untaken = h.untaken;
  stops = subst (λ z. EndsRun P cycles z c h.wrote end) (sym e)
      (ends_same P cycles [] x c h.wrote end h.stops);
}

module _ (P : Program) (cycles : ℕ) (c : Call) where
  -- nothing was touched
  nothing_told : (x : Standing Identifiers) (end : End) → c.now.streams ≡ c.before.streams →
      IsCutEnd headline.Output c end → EndTells P cycles x c end
  nothing_told x end same cut = record {
    wrote = [];
    received = ap (λ (s : Streams). s.output.bytes) same ∙ received_none
        c.before.streams.output.bytes;
    begins = λ r has. (text_of P r.outcome, refl);
    silent = λ none. refl;
    untaken = ap (λ (s : Streams). s.input.bytes) same;
    stops = cut_short [] end cut;
  }

  module _ (tells : KeepsTelling c.before.streams.input.bytes c.now.streams.input.bytes)
      (input : List ℕ) (had : MayRest c.before.streams.input.bytes input)
      (t : State) (left : MayRest c.now.streams.input.bytes t.rest) (received : Wrote t.out c) where
    -- what a run wrote so far
    begun_told : (x : Standing Identifiers) (n : ℕ) (s : State) (i : Identifiers) (end : End) →
        Realised P input n (Stands s i) → t.out ≡ s.out → t.rest ≡ input →
        IsCutEnd headline.Output c end → EndTells P cycles x c end
    begun_told x n s i end h is rest cut = record {
      wrote = t.out;
      received = received;
      begins = λ r has. let (more, e) = h.begins r has in (more, ap (λ out. out ++ more) is ∙ e);
      silent = λ none. is ∙ h.silent none;
      untaken = same_rest c.before.streams.input.bytes c.now.streams.input.bytes input t.rest tells
          had left rest;
      stops = cut_short t.out end cut;
    }

    stands_told : (i : Identifiers) (b : Bool) → t.halted ≡ b →
        Realised P input cycles (Stands t i) → EndTells P cycles (Stands t i) c
        (end_of_run cycles t.cycles (unfailed_end b))
    stands_told i true halted h =
        let (r, has, whole) = h.whole halted in
        record {
          wrote = t.out;
          received = received;
          begins = h.begins;
          silent = h.silent;
          untaken = same_rest c.before.streams.input.bytes c.now.streams.input.bytes input t.rest
              tells had left h.untaken;
          stops = subst (λ wrote. EndsRun P cycles (Stands t i) c wrote (Ok Done)) (sym whole)
              (done r has halted);
        }
    stands_told i false running h = record {
      wrote = t.out;
      received = received;
      begins = h.begins;
      silent = h.silent;
      untaken = same_rest c.before.streams.input.bytes c.now.streams.input.bytes input t.rest tells
          had left h.untaken;
      stops = out_of_cycles (record { faultless = refl; running = running })
          (λ r has enough. elim (h.ends r has enough) [
            | inl halted ↦ let f : true ≡ false = sym halted ∙ running in absurd (cc)
            | inr fails ↦ let f : false ≡ true = fails in absurd (cc)
          ]);
    }

    limit_told : (i : Identifiers) (fault : Fault) → IsLimit fault → (l : Limit) (k : ℕ) →
        Realised P input cycles (Failed t i fault) →
        EndTells P cycles (Failed t i fault) c (Err (line.Limited l k))
    limit_told i fault is l k h = record {
      wrote = t.out;
      received = received;
      begins = h.begins;
      silent = h.silent;
      untaken = same_rest c.before.streams.input.bytes c.now.streams.input.bytes input t.rest tells
          had left h.untaken;
      stops = limited fault refl is l k;
    }

    failed_told : (i : Identifiers) (fault : Fault) → IsLimit fault →
        Realised P input cycles (Failed t i fault) →
        EndTells P cycles (Failed t i fault) c (end_of_run cycles t.cycles (stop_of fault))
    failed_told i (ArraysFull count) is h = limit_told i (ArraysFull count) is
        (limit.ArraysFull count) (t.cycles + 1) h
    failed_told i (WordsFull count) is h = limit_told i (WordsFull count) is
        (limit.WordsFull count) (t.cycles + 1) h
    failed_told i _ is h = absurd is

    stood_told : (x : Standing Identifiers) (new : MachineView) (why : Stop) →
        Realised P input cycles x → EndsAs x new t why →
        EndTells P cycles x c (end_of_run cycles t.cycles why)
    stood_told (Stands s i) new why h e =
        rw e.2 (subst (λ u. EndTells P cycles (Stands u i) c
        (end_of_run cycles t.cycles (unfailed_end t.halted))) (sym e.0)
        (stands_told i t.halted refl (subst (λ u. Realised P input cycles (Stands u i)) e.0 h)))
    stood_told (Failed s i fault) new why h e =
        rw e.2 (subst (λ u. EndTells P cycles (Failed u i fault) c
        (end_of_run cycles t.cycles (stop_of fault))) (sym e.0)
        (failed_told i fault h.faults (subst (λ u. Realised P input cycles (Failed u i fault))
        e.0 h)))

    module _ (words : List ℕ) (blocks : List (ℕ × ℕ)) (realises : Realises P words)
        (follows : Follows P words blocks) (fits : length words ≤ limits.words) where
      early_told : (new : MachineView) (why : Stop) (end : End)
          (h : EndsEarly cycles (machine_of words limits) new (start_of words input) t why) →
          IsCutEnd headline.Output c end → t.rest ≡ h.at.rest →
          (t.out ≡ h.at.out) ⊎ (t.out ≡ h.next.out) →
          EndTells P cycles (run_on words input cycles) c end
      early_told new why end h cut rest out =
          let here = subst (Realised P input h.made) h.stands
          (realised_by_rule P words input h.made realises fits) in
          let same : t.rest ≡ input = rest ∙ here.untaken in
          elim out [
            | inl is ↦ begun_told (run_on words input cycles) h.made h.at new.identifiers end here
                is same cut
            | inr is ↦
                begun_told (run_on words input cycles) (h.made + 1) h.next
                (identifiers_left h.at new.identifiers) end
                (subst (Realised P input (h.made + 1)) (next_stands words input h.made h.at h.next
                new.identifiers h.stands h.running h.goes)
                (realised_by_rule P words input (h.made + 1) realises fits))
                is same cut
          ]

      ran_told : (new : MachineView) (why : Stop) → (why ≡ stop.WriteFault →
          Rose c.before.streams.output.faults c.now.streams.output.faults) →
          RunEnds cycles (machine_of words limits) new (start_of words input) t why →
          EndTells P cycles (run_on words input cycles) c (end_of_run cycles t.cycles why)
      ran_told new stop.ReadFault writes h =
          absurd (unfailed_input P words input blocks h.made h.at new.identifiers follows fits
          h.stands h.running h.fails)
      ran_told new stop.WriteFault writes h =
          early_told new stop.WriteFault (Err line.WriteFault) h
          (ends.output_failed refl (writes refl))
          (elim h.remains [
            | inl e ↦ ap (λ (s : State). s.rest) e
            | inr e ↦ ap (λ (s : State). s.rest) e
          ])
          (elim h.remains [
            | inl e ↦ inl (ap (λ (s : State). s.out) e)
            | inr e ↦ inr (ap (λ (s : State). s.out) e)
          ])
      ran_told new stop.Memory writes h =
          early_told new stop.Memory (Err line.NoMemory) h ends.no_memory
          (ap (λ (s : State). s.rest) h.remains) (inl (ap (λ (s : State). s.out) h.remains))
      ran_told new why writes h = stood_told (run_on words input cycles) new why
          (realised_by_rule P words input cycles realises fits) h

module _ (P : Program) (words : List ℕ) (blocks : List (ℕ × ℕ)) (small : AreWords words)
    (few : length (scroll words) ≤ most_scroll_bytes)
    (realises : Realises P words) (follows : Follows P words blocks) (file : List ℕ) (cycles : ℕ)
    (c : Call) (call : IsOfCodex c) (has : Has file (scroll words) c.before) where
  scroll_told : (end : End) → ScrollEnds words cycles c.before.streams c.now.streams end →
      EndTells P cycles (run_of words cycles) c end
  scroll_told _ (runs.ran t why ran) =
      let fits : length words ≤ limits.words = omega (arith, few, length-scroll words) in
      told_same P cycles (run_on words ran.input cycles) (run_of words cycles) c
      (end_of_run cycles t.cycles why)
      (on_no_input P words ran.input blocks cycles follows fits)
      (ran_told P cycles c call.counted.streams.input.tells ran.input ran.had t ran.left ran.wrote
      words blocks realises follows fits ran.machine why ran.writes ran.stops)

  run_ended : (end : End) → RunCommandEnds file cycles c.before c.now end →
      EndTells P cycles (run_of words cycles) c end
  run_ended _ (commands.unread l read same) =
      nothing_told P cycles c (run_of words cycles) (Err l) same
      (cut_of headline.Output c l (not_read IsScroll IsNoScroll file
      (scroll words) c.before c.now has (right_scroll words few) l read))
  run_ended _ (commands.no_memory same) =
      nothing_told P cycles c (run_of words cycles) (Err line.NoMemory) same ends.no_memory
  run_ended end (commands.works read _ is work) =
      let s = read_as IsScroll IsNoScroll file (scroll words) c.before c.now has read is in
      scroll_told end (subst (λ (ws : List ℕ). ScrollEnds ws cycles c.before.streams c.now.streams
      end) (words_read words read.items small s.small s.of_words) work)

  pub run_tells : Asks c.words (jobs.runs file cycles) → RunTells P words cycles c
  run_tells asks =
      let e = ended (jobs.runs file cycles) c call asks in
      elim e.ends [
        | inl ran ↦ tells_so P words cycles c e.end (run_ended e.end ran.1) e.told
        | inr none ↦
            tells_so P words cycles c e.end
            (subst (EndTells P cycles (run_of words cycles) c) (sym none.0)
            (nothing_told P cycles c (run_of words cycles) (Err line.NoMemory)
            (ap (λ (o : Outside). o.streams) none.1) ends.no_memory)) e.told
      ]
