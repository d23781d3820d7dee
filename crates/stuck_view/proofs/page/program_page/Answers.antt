use Rattle.std.proofs.Common.{subst}
use Rattle.two_d.specs.Trails.{trail_at}
use Rattle.two_d.specs.declared.outcome.Outcome.{Outcome as OutcomeKept}
use Rattle.stuck_view.specs.Pages.{most_events, unended, value, stuck}
use Rattle.stuck_view.specs.declared.page.Answer.TheVariants as answer
use Rattle.stuck_view.specs.inner.Reports.{IsOutcomeAt, IsOutcomeIf}
use Rattle.stuck_view.proofs.Shown.{page_for}
use Rattle.stuck_view.proofs.page.program_page.Goals as goal

pub returns-in_default : goal.returns-in_default
returns-in_default c ds are =
    page_for c.args.text.now ds c.args.program.now answer.Unended _ c.line_page.result c.line_page.ensures.answer c.line_page.ensures.bytes
    (unended (subst (IsOutcomeIf most_events c.args.program.now c.in_ok-report.report) c.in_default.is c.in_ok-report.ensures))

pub returns-in-Value : goal.returns-in-Value
returns-in-Value c ds are =
    let report = c.in_ok-report.report in
    let kept = subst (IsOutcomeIf most_events c.args.program.now report) c.in-Some.is c.in_ok-report.ensures in
    let o = subst (λ (at : OutcomeKept). IsOutcomeAt c.args.program.now report at) c.in-Value.is kept in
    page_for c.args.text.now ds c.args.program.now answer.Value _ c.line_page-in-Value.result c.line_page-in-Value.ensures.answer
    c.line_page-in-Value.ensures.bytes (value o.meaning _ o.has o.is)

pub returns : goal.returns
returns c ds are =
    let report = c.in_ok-report.report in
    let kept = subst (IsOutcomeIf most_events c.args.program.now report) c.in-Some.is c.in_ok-report.ensures in
    let o = subst (λ (at : OutcomeKept). IsOutcomeAt c.args.program.now report at) c.in-Stuck.is kept in
    rw (c.in_ok-bytes-in-Stuck.ensures ds are) (stuck o.meaning (trail_at report.trails c.in-Stuck.at) o.has o.is)
