-- What a report says, from what `eval` ensures of it; and an outcome that is told behind other lines.
use Rattle.std.proofs.Common.{◌≡◌, ◌≤◌, ◌+◌, ℕ, List, ◌++◌, length, take, Option, Some, None, refl, sym, ap, ◌∙◌, subst, inl, inr, arith}
use Rattle.std.specs.Prelude.{IfSome, option_map, Result, Ok, Err}
use Rattle.std.proofs.lemmas.Bool.{cases_lt}
use Rattle.std.proofs.lemmas.List.{length-append, take-append-le}
use Rattle.std.proofs.Math.Seq.{take-append-add, take-append_seam}
use Rattle.umix_base.specs.Causes.{Rose}
use Rattle.codex_values.specs.Writing.{HasWritten, HasWrittenPart}
use Rattle.two_d.specs.Meaning.{Meaning, Outcome}
use Rattle.two_d.specs.Programs.{Program}
use Rattle.two_d.specs.Steps.{Choice, HasMeaning}
use Rattle.two_d.specs.Texts.{IsOutcomeOf, IsPlaceIn, text_of}
use Rattle.two_d.specs.declared.outcome.Outcome.{Outcome as OutcomeKept}
use Rattle.fire_eval.specs.declared.report.Report.{Report}
use Rattle.codex_top.specs.declared.line.Line.{Line}
use Rattle.codex_top.specs.declared.line.Line.TheVariants.{WriteFault, NoMemory}
use Rattle.codex_top.specs.declared.end.Finish.{Finish}
use Rattle.codex_top.specs.Endings.{End}
use Rattle.codex_top.specs.Outside.{Stream, Received}
use Rattle.codex_top.specs.Sending.{IsSent}
use Rattle.codex_top.specs.Sending as sending
use Rattle.codex_top.specs.Evaluating.{finish_of, IsSpent, IsMeantWithin, IsPrinted, OutcomeEnds}
use Rattle.codex_top.specs.Evaluating as evaluating
use Rattle.codex_top.specs.TraceCommand.{trace_lines, EventsTold}
use Rattle.codex_top.specs.TraceCommand as traces
use Rattle.codex_top.specs.inner.Reports.{outcome_at, IsReportedAt, IsReportedIf}
use Rattle.codex_top.proofs.Pieces.{written_after, received_none}

pub report_if : (events : ℕ) (P : Program) (report : Report) (o : Option OutcomeKept) →
    ((r : Meaning) → HasMeaning P r → r.firings + r.instances ≤ events → option_map (outcome_at report) o ≡ Some r.outcome) →
    ((w : Outcome) → option_map (outcome_at report) o ≡ Some w → (r : Meaning) × HasMeaning P r × (r.outcome ≡ w) × (r.firings + r.instances ≤ events)) →
    IfSome o (IsPlaceIn (length report.values) (length report.trails)) →
    ((w : Outcome) → option_map (outcome_at report) o ≡ Some w → IsOutcomeOf P w) →
    IsReportedIf events P report o
report_if events P report None means only places of_program = λ r has. elim (cases_lt events (r.firings + r.instances)) [
  | inl spent ↦ spent
  | inr within ↦ absurd (let e : None ≡ Some r.outcome = means r has within in cc)
]
report_if events P report (Some at) means only places of_program =
    let m = only (outcome_at report at) refl in
    record { place = places; of_program = of_program (outcome_at report at) refl; meaning = m.0; within = record { has = m.1; within = m.3 }; is = sym m.2 }

module _ (events : ℕ) (P : Program) (report : Report) (at : OutcomeKept) (r : IsReportedAt events P report at) (before now : Stream) where
  -- the outcome's text was written, whole or in part
  pub outcome_told : (f : Finish) → f ≡ finish_of (outcome_at report at) → HasWritten (text_of P (outcome_at report at)) before.bytes now.bytes →
      OutcomeEnds events P before now (Ok f)
  outcome_told f same written =
      rw (same, r.is) (evaluating.told r.meaning (Ok tt) r.within
      (evaluating.sent (Ok tt) (sending.sent (subst (λ (o : Outcome). HasWritten (text_of P o) before.bytes now.bytes) r.is written))))

  pub outcome_cut : HasWrittenPart (text_of P (outcome_at report at)) before.bytes now.bytes → Rose before.faults now.faults → OutcomeEnds events P before now (Err WriteFault)
  outcome_cut part rose =
      let p = subst (λ (o : Outcome). HasWrittenPart (text_of P o) before.bytes now.bytes) r.is part in
      evaluating.told r.meaning (Err WriteFault) r.within (evaluating.sent (Err WriteFault) (sending.cut p.0 p.1 p.2 rose))

  pub outcome_wanted : HasWrittenPart (text_of P (outcome_at report at)) before.bytes now.bytes → OutcomeEnds events P before now (Err NoMemory)
  outcome_wanted part =
      let p = subst (λ (o : Outcome). HasWrittenPart (text_of P o) before.bytes now.bytes) r.is part in
      evaluating.told r.meaning (Err NoMemory) r.within (evaluating.no_memory p.0 p.1 p.2)

-- a count that rose after it hadn't fallen has risen
rose_after : (before mid now : ℕ) → before ≤ mid → Rose mid now → Rose before now
rose_after before mid now le rose = omega (arith, le, rose)

-- a beginning of a text, behind lines that were received whole
begun_behind : (lines text : List ℕ) (before mid now : Stream) (k : ℕ) → Received lines before mid → k ≤ length text → Received (take k text) mid now →
    (j : ℕ) × (j ≤ length (lines ++ text)) × Received (take j (lines ++ text)) before now
begun_behind lines text before mid now k first le more = (
  length lines + k,
  omega (arith, le, length-append lines text),
  written_after before.bytes mid.bytes now.bytes lines (take k text) first more
      ∙ ap (λ bytes. option_map (λ held. held ++ bytes) before.bytes) (sym (take-append-add lines text k)),
)

-- a text that is printed behind lines that were received whole
pub printed_behind : (lines text : List ℕ) (before mid now : Stream) (r : Result (Unit {0}) Line) → before.faults ≤ mid.faults → Received lines before mid →
    IsPrinted text mid now r → IsPrinted (lines ++ text) before now r
printed_behind lines text before mid now _ later first (evaluating.sent _ (sending.sent more)) =
    evaluating.sent (Ok tt) (sending.sent (written_after before.bytes mid.bytes now.bytes lines text first more))
printed_behind lines text before mid now _ later first (evaluating.sent _ (sending.cut k le more rose)) =
    let (j, within, received) = begun_behind lines text before mid now k first le more in
    evaluating.sent (Err _) (sending.cut j within received (rose_after before.faults mid.faults now.faults later rose))
printed_behind lines text before mid now _ later first (evaluating.no_memory k le more) =
    let (j, within, received) = begun_behind lines text before mid now k first le more in
    evaluating.no_memory j within received

-- a beginning of lines is one of the lines and the text behind them
printed_part : (lines text : List ℕ) (before now : Stream) (l : Line) → IsPrinted lines before now (Err l) → IsPrinted (lines ++ text) before now (Err l)
printed_part lines text before now _ (evaluating.sent _ (sending.cut k le received rose)) =
    evaluating.sent (Err _) (sending.cut k (omega (arith, le, length-append lines text))
    (subst (λ bytes. Received bytes before now) (sym (take-append-le k lines text le)) received) rose)
printed_part lines text before now _ (evaluating.no_memory k le received) =
    evaluating.no_memory k (omega (arith, le, length-append lines text)) (subst (λ bytes. Received bytes before now) (sym (take-append-le k lines text le)) received)

module _ (picks : Choice) (events : ℕ) (P : Program) where
  -- all lines were written, and then the outcome was told
  pub traced : (before mid now : Stream) (end : End) → before.faults ≤ mid.faults → Received (trace_lines P picks events) before mid →
      OutcomeEnds events P mid now end → EventsTold P picks events before now end
  traced before mid now _ later lines (evaluating.spent spent same) =
      traces.spent (Ok tt) spent (evaluating.sent (Ok tt) (sending.sent (subst (λ (s : Stream). Received (trace_lines P picks events) before s) (sym same) lines)))
  traced before mid now _ later lines (evaluating.told r printed within text) =
      traces.told r printed within (printed_behind (trace_lines P picks events) (text_of P r.outcome) before mid now printed later lines text)

  -- the lines were cut short
  pub trace_cut : (report : Report) (o : Option OutcomeKept) → IsReportedIf events P report o → (before now : Stream) (l : Line) →
      IsPrinted (trace_lines P picks events) before now (Err l) → EventsTold P picks events before now (Err l)
  trace_cut report None spent before now l cut = traces.spent (Err l) spent cut
  trace_cut report (Some at) is before now l cut =
      traces.told is.meaning (Err l) is.within (printed_part (trace_lines P picks events) (text_of P is.meaning.outcome) before now l cut)

-- nothing of a text was written, or a part of it that ends with a piece
pub wanted_before : (text : List ℕ) (s : Stream) → IsPrinted text s s (Err NoMemory)
wanted_before text s = evaluating.no_memory 0 (omega arith) (received_none s.bytes)

pub wanted_after : (all some rest : List ℕ) (before now : Stream) → some ++ rest ≡ all → Received some before now → IsPrinted all before now (Err NoMemory)
wanted_after all some rest before now is received =
    subst (λ text. IsPrinted text before now (Err NoMemory)) is
    (evaluating.no_memory (length some) (omega (arith, length-append some rest)) (subst (λ bytes. Received bytes before now) (sym (take-append_seam some rest)) received))

-- a piece was cut short, behind those before it
pub piece_cut : (all lines text rest : List ℕ) (before mid now : Stream) (l : Line) → (lines ++ text) ++ rest ≡ all → before.faults ≤ mid.faults → Received lines before mid →
    IsSent text mid now (Err l) → IsPrinted all before now (Err l)
piece_cut all lines text rest before mid now l is later first failed =
    subst (λ bytes. IsPrinted bytes before now (Err l)) is
    (printed_part (lines ++ text) rest before now l (printed_behind lines text before mid now (Err l) later first (evaluating.sent (Err l) failed)))

pub sent_whole : (text : List ℕ) (before now : Stream) (r : Result (Unit {0}) Line) (done : Unit {0}) → r ≡ Ok done → IsSent text before now r → Received text before now
sent_whole text before now _ done e (sending.sent received) = received
sent_whole text before now _ done e (sending.cut k le received rose) = absurd (cc)

pub printed_whole : (text : List ℕ) (before now : Stream) (r : Result (Unit {0}) Line) (done : Unit {0}) → r ≡ Ok done → IsPrinted text before now r → Received text before now
printed_whole text before now r done e (evaluating.sent _ s) = sent_whole text before now r done e s
printed_whole text before now _ done e (evaluating.no_memory k le received) = absurd (cc)
