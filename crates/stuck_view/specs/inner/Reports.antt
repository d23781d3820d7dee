-- What a report says of a program's evaluation.
use Rattle.std.specs.Prelude.{◌≡◌, ℕ, ◌+◌, ◌<◌, length, Option, Some, None}
use Rattle.codex_values.specs.Store.{values_of}
use Rattle.two_d.specs.Meaning.{Meaning, Outcome}
use Rattle.two_d.specs.Programs.{Program}
use Rattle.two_d.specs.Steps.{HasMeaning}
use Rattle.two_d.specs.Texts.{IsOutcomeOf, IsPlaceIn, outcome_in}
use Rattle.two_d.specs.Trails.{trails_of}
use Rattle.two_d.specs.declared.outcome.Outcome.{Outcome as OutcomeKept}
use Rattle.fire_eval.specs.declared.report.Report.{Report}

-- the outcome of a report that is kept at this place
abbrev pub outcome_at : Report → OutcomeKept → Outcome
outcome_at report at = outcome_in (values_of report.values) (trails_of report.trails) at

-- the place is in the report's stores, and the outcome there is the program's
pub record IsOutcomeAt (P : Program) (report : Report) (at : OutcomeKept) : Type 0 where
  pub place : IsPlaceIn (length report.values) (length report.trails) at
  pub of_program : IsOutcomeOf P (outcome_at report at)
  pub meaning : Meaning
  pub has : HasMeaning P meaning
  pub is : meaning.outcome ≡ outcome_at report at

-- the program's outcome is kept at this place; or there is none by so many events
abbrev pub IsOutcomeIf : ℕ → Program → Report → Option OutcomeKept → Type 0
IsOutcomeIf events P report None = (r : Meaning) → HasMeaning P r → events < r.firings + r.instances
IsOutcomeIf events P report (Some at) = IsOutcomeAt P report at

abbrev pub IsReport : ℕ → Program → Report → Type 0
IsReport events P report = IsOutcomeIf events P report report.outcome
