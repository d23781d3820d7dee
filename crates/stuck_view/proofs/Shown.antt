-- What is shown of a program, from what its evaluation came to.
use Rattle.std.proofs.Common.{◌≡◌, ◌≤◌, ◌+◌, ℕ, List, length, Option, Some, None, refl, inl, inr}
use Rattle.std.specs.Prelude.{IfOk, IfSome, option_map, Result, Ok, Err}
use Rattle.std.proofs.lemmas.Bool.{cases_lt}
use Rattle.umix_base.specs.declared.memory.Memory.{Memory}
use Rattle.two_d.specs.Meaning.{Meaning, Outcome}
use Rattle.two_d.specs.Program.{Drawn}
use Rattle.two_d.specs.Programs.{Program}
use Rattle.two_d.specs.Steps.{HasMeaning}
use Rattle.two_d.specs.Texts.{IsOutcomeOf, IsPlaceIn}
use Rattle.two_d.specs.declared.outcome.Outcome.{Outcome as OutcomeKept}
use Rattle.fire_eval.specs.declared.report.Report.{Report}
use Rattle.stuck_view.specs.Pages.{IsPageOf}
use Rattle.stuck_view.specs.declared.page.Answer.{Answer}
use Rattle.stuck_view.specs.declared.page.Page.{Page}
use Rattle.stuck_view.specs.inner.Reports.{IsOutcomeIf, outcome_at}

pub outcome_if : (events : ℕ) (P : Program) (report : Report) (o : Option OutcomeKept) →
    ((r : Meaning) → HasMeaning P r → r.firings + r.instances ≤ events → option_map (outcome_at report) o ≡ Some r.outcome) →
    ((w : Outcome) → option_map (outcome_at report) o ≡ Some w → (r : Meaning) × HasMeaning P r × (r.outcome ≡ w) × (r.firings + r.instances ≤ events)) →
    IfSome o (IsPlaceIn (length report.values) (length report.trails)) →
    ((w : Outcome) → option_map (outcome_at report) o ≡ Some w → IsOutcomeOf P w) →
    IsOutcomeIf events P report o
outcome_if events P report None means only places of_program = λ r has. elim (cases_lt events (r.firings + r.instances)) [
  | inl spent ↦ spent
  | inr within ↦ absurd (let e : None ≡ Some r.outcome = means r has within in cc)
]
outcome_if events P report (Some at) means only places of_program =
    let m = only (outcome_at report at) refl in
    record { place = places; of_program = of_program (outcome_at report at) refl; meaning = m.0; has = m.1; is = m.2 }

-- a page with this answer and these bytes
pub page_for : (text : List ℕ) (ds : List Drawn) (P : Program) (a : Answer) (line : List ℕ) (r : Result Page Memory) → IfOk r (λ page. page.answer ≡ a)
    → IfOk r (λ page. page.bytes.items ≡ line) → IsPageOf text ds P a line → IfOk r (λ page. IsPageOf text ds P page.answer page.bytes.items)
page_for text ds P a line (Ok page) answered is shown = rw (answered, is) shown
page_for text ds P a line (Err e) answered is shown = tt
