-- What a report says of a program's evaluation.
use Rattle.std.specs.Prelude.{◌≡◌, ℕ, length, Option, Some, None}
use Rattle.codex_values.specs.Store.{values_of}
use Rattle.two_d.specs.Programs.{Program}
use Rattle.two_d.specs.Meaning.{Meaning, Outcome}
use Rattle.two_d.specs.Texts.{IsOutcomeOf, IsPlaceIn, outcome_in}
use Rattle.two_d.specs.Trails.{trails_of}
use Rattle.two_d.specs.declared.outcome.Outcome.{Outcome as OutcomeKept}
use Rattle.fire_eval.specs.declared.report.Report.{Report}
use Rattle.codex_top.specs.Evaluating.{IsMeantWithin, IsSpent}

-- the outcome of a report that is kept at this place
abbrev pub outcome_at : Report → OutcomeKept → Outcome
outcome_at report at = outcome_in (values_of report.values) (trails_of report.trails) at

-- the place is in the report's stores, and the outcome there is that of the program, within so many
-- events
pub record IsReportedAt (events : ℕ) (P : Program) (report : Report) (at : OutcomeKept) :
    Type 0 where
  pub place : IsPlaceIn (length report.values) (length report.trails) at
  pub of_program : IsOutcomeOf P (outcome_at report at)
  pub meaning : Meaning
  pub within : IsMeantWithin events P meaning
  pub is : outcome_at report at ≡ meaning.outcome

-- the report has the program's outcome, or none where so many events don't come to one
abbrev pub IsReportedIf : ℕ → Program → Report → Option OutcomeKept → Type 0
IsReportedIf events P report None = IsSpent events P
IsReportedIf events P report (Some at) = IsReportedAt events P report at

abbrev pub IsReport : ℕ → Program → Report → Type 0
IsReport events P report = IsReportedIf events P report report.outcome
