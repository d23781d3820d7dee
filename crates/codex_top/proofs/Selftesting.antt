-- What comes of the grid of a number, and the run of its scroll alone.
use Rattle.std.proofs.Common.{◌≡◌, ◌⊎◌, ℕ, ◌+◌, ◌*◌, ◌^◌, ◌<◌, ◌≤◌, min, true, List, [], ◌++◌, length, Option, Some, None, refl, sym, ap, ◌∙◌, subst, inl, inr, arith}
use Rattle.std.specs.Prelude.{codes, Result, Ok}
use Rattle.std.proofs.Math.Nat.{mul-le-mul}
use Rattle.std.proofs.lemmas.Bool.{cases_lt}
use Rattle.std.proofs.lemmas.List.{length-append}
use Rattle.umix_base.specs.Causes.{Rose}
use Rattle.umix_base.specs.TextInMemory.{TextInMemory, most_text}
use Rattle.um_word.specs.Loads.{state_in}
use Rattle.um_word.specs.Rule.{Identifiers, identifiers_left}
use Rattle.um_word.specs.Run.{Standing, Stands, Failed}
use Rattle.um_word.specs.Scroll.{most_scroll_bytes, scroll}
use Rattle.um_word.specs.State.{State, start_of}
use Rattle.um_machine.specs.declared.stop.Stop.{Stop}
use Rattle.um_machine.specs.declared.stop.Stop.TheVariants as stop
use Rattle.um_machine.specs.MachineView.{MachineView, machine_of, state_of}
use Rattle.um_machine.specs.Runs.{EndsAs, EndsEarly, GoesFromTo, RunEnds, Seen}
use Rattle.um_machine.specs.Stops.{unfailed_end}
use Rattle.um_machine.proofs.Rests.{some_rest}
use Rattle.codex_values.specs.Value.{Value, show}
use Rattle.umix_base.specs.declared.place.Place.{Place}
use Rattle.two_d.specs.Faults.{number_and_place}
use Rattle.two_d.specs.Meaning.{Meaning, Gives, Outcome}
use Rattle.two_d.specs.Program.{program_of}
use Rattle.two_d.specs.Programs.{Program}
use Rattle.two_d.specs.Reading.{Refuses, faults_mapped}
use Rattle.two_d.specs.Steps.{HasMeaning}
use Rattle.two_d.specs.Texts.{text_of}
use Rattle.two_d.specs.Weights.{weight}
use Rattle.module_table.specs.Answers.{answer_of}
use Rattle.module_table.specs.declared.fault.CheckFault.{CheckFault}
use Rattle.module_table.specs.declared.fault.CheckFault.TheVariants.{Bad}
use Rattle.lower_link.specs.Completes.{Completed, IsAmple}
use Rattle.lower_link.specs.Follows.{Follows}
use Rattle.lower_link.specs.Realises.{AreEnough, Realises, units}
use Rattle.codex_gen.specs.Answers.{IsGenerated}
use Rattle.codex_gen.specs.Generated.{grid_of_number, value_of_number, words_after}
use Rattle.codex_top.specs.declared.end.Finish.TheVariants.{Done}
use Rattle.codex_top.specs.declared.line.Line.{Line}
use Rattle.codex_top.specs.declared.selftest.Numbers.{Numbers}
use Rattle.codex_top.specs.Boxes.{boxes_in}
use Rattle.codex_top.specs.Headline.{IsAccepted}
use Rattle.codex_top.specs.Limits.{limits, most_made}
use Rattle.codex_top.specs.Reading as reading
use Rattle.codex_top.specs.Refusals.{grid_line}
use Rattle.codex_top.specs.Outside.{Stream}
use Rattle.codex_top.specs.SelftestCommand.{Found, SelftestEnds, grid_bytes, nine_lines, run_alone}
use Rattle.codex_top.specs.SelftestCommand as selves
use Rattle.codex_top.specs.Sending.{IsSent, end_after}
use Rattle.codex_top.specs.Sending as sending
use Rattle.codex_top.specs.inner.Selftests.{AreNumbers, AreOrders, ComesToText}
use Rattle.codex_top.proofs.Compiled.{next_stands, realised_by_rule}
use Rattle.codex_top.proofs.Completing.{completed_by_rule}
use Rattle.codex_top.proofs.FileLemmas.{length-scroll}
use Rattle.codex_top.proofs.Headlines.{one_program, right_grid}
use Rattle.codex_top.proofs.ProgramLemmas.{told_err}

-- 16 words are listed
pub listed : (number : ℕ) → length (words_after number) ≡ 16
listed number = refl

-- a text that has a program has no fault
pub not_refused : (text : List ℕ) (fault : CheckFault) (number : ℕ) (place : Option Place) →
    fault ≡ Bad number place → IsAccepted text →
    Refuses (faults_mapped number_and_place (program_of text)) (answer_of fault) → ⊥
not_refused text fault number place is accepted refuses =
    let bad = subst (λ (f : CheckFault). Refuses (faults_mapped number_and_place (program_of text))
    (answer_of f)) is refuses in
    let (f, faulty, same) = told_err number_and_place (program_of text) (number, place) bad in
    right_grid text accepted.0 accepted.1 (grid_line f) (reading.faulty f faulty)

-- weights times entries, and bytes, that are this small are within all bounds
record AreBounded (most few bytes : ℕ) : Type 0 where
  arrays : 8 * (most + bytes + 64) ≤ 16_777_216
  words : 256 * (most + bytes + 64) ≤ 268_435_456
  cycles : 65_536 * (few + bytes + 64) ≤ 2 ^ 62

are_bounded : (most few bytes : ℕ) → most ≤ 947_604 → few ≤ 947_604 → bytes ≤ 278 →
    AreBounded most few bytes
are_bounded most few bytes m f b = record {
  arrays = omega (arith, m, b);
  words = omega (arith, m, b);
  cycles = omega (arith, f, b);
}

-- the program that was read of a text that a number makes
module _ (text : List ℕ) (v : Value) (g : IsGenerated text v) (P : Program)
    (is : program_of text (Ok P)) (weighs : weight P ≤ length text) where
  pub means : HasMeaning P g.meaning
  means = subst (λ (Q : Program). HasMeaning Q g.meaning) (one_program text P g.program is g.read)
      g.means

  pub few_events : g.meaning.firings + g.meaning.instances ≤ most_made
  few_events = omega (arith, g.few_firings, g.few_instances)

  light : weight P ≤ 16338
  light = omega (arith, weighs, g.short)

  short : length (text_of P g.meaning.outcome) ≤ 278
  short =
      let same : length (text_of P g.meaning.outcome) ≡ length (show v ++ codes "\n") =
      ap (λ (o : Outcome). length (text_of P o)) g.gives in
      omega (arith, same, length-append (show v) (codes "\n"), g.short_value)

  bounds : AreBounded (weight P * (g.meaning.instances + 1 + 1)) (weight P * (g.meaning.instances + 1))
      (length (text_of P g.meaning.outcome))
  bounds =
      let entries : g.meaning.instances + 1 + 1 ≤ 58 = omega (arith, g.few_instances) in
      let fewer : g.meaning.instances + 1 ≤ 58 = omega (arith, g.few_instances) in
      let most : weight P * (g.meaning.instances + 1 + 1) ≤ 16338 * 58 = mul-le-mul light entries in
      let few : weight P * (g.meaning.instances + 1) ≤ 16338 * 58 = mul-le-mul light fewer in
      are_bounded _ _ _ most few short

  ample : IsAmple P (g.meaning.instances + 1) (length (text_of P g.meaning.outcome)) limits
  ample = record { arrays = bounds.arrays; words = bounds.words }

  pub enough : AreEnough P g.meaning most_made
  enough = bounds.cycles

  module _ (words : List ℕ) (blocks : List (ℕ × ℕ)) (realises : Realises P words)
      (follows : Follows P words blocks) where
    few_words : length words ≤ 787_296
    few_words = omega (arith, follows.short, light)

    pub halts : (cycles : ℕ) → AreEnough P g.meaning cycles →
        Completed (text_of P g.meaning.outcome) (run_alone words cycles)
    unfolding run_alone
    halts cycles enough =
        completed_by_rule P words [] blocks cycles g.meaning realises follows
        (omega (arith, few_words)) means ample enough

    begins : (n : ℕ) →
        (more : List ℕ) × ((state_in (run_alone words n)).out ++ more ≡ text_of P g.meaning.outcome)
    unfolding run_alone
    begins n = (realised_by_rule P words [] n realises (omega (arith, few_words))).begins g.meaning means

    pub comes : (cycles : ℕ) → AreEnough P g.meaning cycles → ComesToText words cycles
    comes cycles enough = record {
      text = text_of P g.meaning.outcome;
      short = omega (arith, short);
      few = omega (arith, few_words, length-scroll words);
      begins = begins;
      halts = halts cycles enough;
    }

-- what is found from a number, and its numbers
module _ (number : ℕ) (text : List ℕ) (is : text ≡ grid_of_number number)
    (g : IsGenerated text (value_of_number number)) (P : Program) (read : program_of text (Ok P))
    (weighs : weight P ≤ length text) (words : List ℕ) (blocks : List (ℕ × ℕ))
    (realises : Realises P words) (follows : Follows P words blocks) where
  comes_to : (cycles : ℕ) → AreEnough P g.meaning cycles → ComesToText words cycles
  comes_to = comes text (value_of_number number) g P read weighs words blocks realises follows

  are_enough : AreEnough P g.meaning most_made
  are_enough = enough text (value_of_number number) g P read weighs

  pub comes_alone : ComesToText words most_made
  comes_alone = comes_to most_made are_enough

  long : length text ≡ grid_bytes number
  unfolding grid_bytes
  long = ap length is

  pub are_found : (n : Numbers) → n.bytes ≡ length text → n.modules ≡ length P →
      n.boxes ≡ boxes_in P →
      ((r : Meaning) → HasMeaning P r → r.firings + r.instances ≤ most_made → AreOrders r n.orders) →
      n.words ≡ length words → n.ran.cycles ≡ (state_in (run_alone words most_made)).cycles →
      n.ran.bytes ≡ length (state_in (run_alone words most_made)).out →
      (found : Found number) × AreNumbers number found n
  are_found n bytes modules boxes orders many cycles wrote =
      let has = means text (value_of_number number) g P read weighs in
      let whole = halts text (value_of_number number) g P read weighs words blocks realises follows
      most_made are_enough in (
        record {
          program = P;
          meaning = g.meaning;
          words = words;
          blocks = blocks;
          read = subst (λ (bytes : List ℕ). program_of bytes (Ok P)) is read;
          means = has;
          gives = g.gives;
          realises = realises;
          follows = follows;
          halts = whole;
        },
        record {
          bytes = bytes ∙ long;
          modules = modules;
          boxes = boxes;
          orders = orders g.meaning has (few_events text (value_of_number number) g P read weighs);
          text = wrote ∙ ap length whole.writes;
          words = many;
          cycles = cycles;
        },
      )

-- the lines were sent
pub told_lines : (number : ℕ) (found : Found number) (before now : Stream)
    (r : Result (Unit {0}) Line) → IsSent (nine_lines number found) before now r →
    SelftestEnds number before now (end_after r (Ok Done))
told_lines number found before now r lines = selves.told found _ (sending.ends r lines)

-- what begins a short text is short
begins_short : (out more text : List ℕ) → out ++ more ≡ text → length text < most_text →
    most_text ≤ length out → ⊥
begins_short out more text e short long =
    let same = ap length e in omega (arith, same, length-append out more, short, long)

-- a sink whose count rose is full
is_full : (before now : ℕ) (bytes : List ℕ) → before ≡ 0 → Rose before now →
    (length bytes < most_text → now ≡ 0) → most_text ≤ length bytes
is_full before now bytes none rose whole = elim (cases_lt (length bytes) most_text) [
  | inl lt ↦ let zero = whole lt in absurd (omega (arith, none, rose, zero))
  | inr le ↦ le
]

-- how a run alone stops: there is no memory, or it has halted
abbrev pub StopsAlone : (words : List ℕ) (cycles : ℕ) (made : ℕ) (out : List ℕ) → Stop → Type 0
StopsAlone words cycles made out why =
    (why ≡ stop.Memory) ⊎ ((why ≡ stop.Halted)
    × (made ≡ (state_in (run_alone words cycles)).cycles)
    × (out ≡ (state_in (run_alone words cycles)).out))

module _ (words : List ℕ) (cycles : ℕ) (c : ComesToText words cycles) where
  halted_alone : (x : Standing Identifiers) (new : MachineView) (t : State) (why : Stop) →
      Completed c.text x → EndsAs x new t why →
      (why ≡ stop.Halted) × (t.cycles ≡ (state_in x).cycles) × (t.out ≡ (state_in x).out)
  halted_alone (Stands s i) new t why h e = (
    e.2 ∙ ap unfailed_end (ap (λ (u : State). u.halted) (sym e.0) ∙ h.halted),
    ap (λ (u : State). u.cycles) (sym e.0),
    ap (λ (u : State). u.out) (sym e.0),
  )
  halted_alone (Failed s i f) new t why h e = let clash : Some f ≡ None = h.faultless in absurd (cc)

  -- the output of a cycle that the outside failed
  early_short : (new : MachineView) (t : State) →
      EndsEarly cycles (machine_of words limits) new (start_of words []) t stop.WriteFault →
      most_text ≤ length t.out → ⊥
  unfolding run_alone
  early_short new t h long =
      elim h.remains [
        | inl e ↦
            let b = subst (λ x. (more : List ℕ) × ((state_in x).out ++ more ≡ c.text)) h.stands
            (c.begins h.made) in
            begins_short h.at.out b.0 c.text b.1 c.short
            (subst (λ (u : State). most_text ≤ length u.out) e long)
        | inr e ↦
            let b = subst (λ x. (more : List ℕ) × ((state_in x).out ++ more ≡ c.text))
            (next_stands words [] h.made h.at h.next new.identifiers h.stands h.running h.goes)
            (c.begins (h.made + 1)) in
            begins_short h.next.out b.0 c.text b.1 c.short
            (subst (λ (u : State). most_text ≤ length u.out) e long)
      ]

  stops_alone : (new : MachineView) (t : State) (why : Stop) →
      RunEnds cycles (machine_of words limits) new (start_of words []) t why →
      (why ≡ stop.ReadFault → ⊥) → (why ≡ stop.WriteFault → most_text ≤ length t.out) →
      StopsAlone words cycles t.cycles t.out why
  unfolding run_alone
  stops_alone new t stop.ReadFault h reads writes = absurd (reads refl)
  stops_alone new t stop.WriteFault h reads writes = absurd (early_short new t h (writes refl))
  stops_alone new t stop.Memory h reads writes = inl refl
  stops_alone new t why h reads writes =
      inr (halted_alone (run_alone words cycles) new t why c.halts h)

  -- the same of a machine that was handed a source of nothing and an empty sink
  ran_alone : (m new : MachineView) (rest held : List ℕ) (left : Option (List ℕ))
      (written : List ℕ) (why : Stop) → m ≡ machine_of words limits → rest ≡ [] → held ≡ [] →
      GoesFromTo (record { machine = m; input = Some rest; output = Some held })
      (record { machine = new; input = left; output = Some written })
      (λ s t. RunEnds cycles m new s t why) →
      (why ≡ stop.ReadFault → ⊥) → (why ≡ stop.WriteFault → most_text ≤ length written) →
      StopsAlone words cycles new.cycles written why
  ran_alone m new rest held left written why is none empty goes reads writes =
      let l = some_rest left in
      let took = goes l.0 l.1 in
      let s = took.sends held refl in
      let t : State = state_of new l.0 s.out in
      let here = subst (λ (v : MachineView). RunEnds cycles v new (state_of v took.rest held) t why)
      is s.call in
      let unread = subst (λ (r : List ℕ). RunEnds cycles (machine_of words limits) new
      (state_of (machine_of words limits) r held) t why) (sym took.may ∙ none) here in
      let alone = subst (λ (out : List ℕ). RunEnds cycles (machine_of words limits) new
      (state_of (machine_of words limits) [] out) t why) empty unread in
      subst (λ (out : List ℕ). StopsAlone words cycles new.cycles out why) (sym s.may)
      (stops_alone new t why alone reads
      (λ e. subst (λ (out : List ℕ). most_text ≤ length out) s.may (writes e)))

  -- and by its counts: the source has none, and the sink's rises only where its text is full
  pub how_it_stops : (m new : MachineView) (rest : List ℕ) (sink sink_now : TextInMemory)
      (left : Option (List ℕ)) (why : Stop) → m ≡ machine_of words limits → rest ≡ [] →
      sink ≡ record { bytes = []; faults = 0 } →
      GoesFromTo (record { machine = m; input = Some rest; output = Some sink.bytes })
      (record { machine = new; input = left; output = Some sink_now.bytes })
      (λ s t. RunEnds cycles m new s t why) →
      (why ≡ stop.ReadFault → Rose 0 0) →
      (why ≡ stop.WriteFault → Rose sink.faults sink_now.faults) →
      (length sink_now.bytes < most_text → sink_now.faults ≡ 0) →
      StopsAlone words cycles new.cycles sink_now.bytes why
  how_it_stops m new rest sink sink_now left why is none empty goes reads writes whole =
      ran_alone m new rest sink.bytes left sink_now.bytes why is none
      (ap (λ (s : TextInMemory). s.bytes) empty) goes
      (λ e. let rose = reads e in omega (arith, rose))
      (λ e. is_full sink.faults sink_now.faults sink_now.bytes
      (ap (λ (s : TextInMemory). s.faults) empty) (writes e) whole)
