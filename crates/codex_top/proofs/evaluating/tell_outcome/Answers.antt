use Rattle.std.proofs.Common.{refl, ap, subst}
use Rattle.std.specs.Prelude.{Err}
use Rattle.codex_values.specs.Store.{values_of}
use Rattle.two_d.specs.Trails.{trails_of}
use Rattle.codex_top.specs.Evaluating.{spent}
use Rattle.codex_top.specs.inner.Reports.{IsReportedIf}
use Rattle.codex_top.proofs.Reports.{outcome_told, outcome_cut, outcome_wanted}
use Rattle.codex_top.proofs.evaluating.tell_outcome.Goals as goal

pub returns-in-None-clause-ends : goal.returns-in-None-clause-ends
returns-in-None-clause-ends g c = spent (subst (IsReportedIf c.args.events c.args.program.now c.args.report.now) c.in-None.is c.requires) refl

pub returns-in-Ok-clause-ends : goal.returns-in-Ok-clause-ends
returns-in-Ok-clause-ends g c =
    let r = subst (IsReportedIf c.args.events c.args.program.now c.args.report.now) c.in-Some.is c.requires in
    outcome_told c.args.events c.args.program.now c.args.report.now c.in-Some.outcome r _ _ c.finish.result
    (c.finish.ensures (values_of c.args.report.now.values) (trails_of c.args.report.now.trails)) c.in-Ok.ensures.written

pub returns-in-Err-Write-clause-ends : goal.returns-in-Err-Write-clause-ends
returns-in-Err-Write-clause-ends g c =
    let r = subst (IsReportedIf c.args.events c.args.program.now c.args.report.now) c.in-Some.is c.requires in
    outcome_cut c.args.events c.args.program.now c.args.report.now c.in-Some.outcome r _ _ c.in-Err-Write.ensures.written
    (c.in-Err-Write.ensures.cause.rose (ap Err c.in-Err-Write.field-0-is))

pub returns-in-Err-Memory-clause-ends : goal.returns-in-Err-Memory-clause-ends
returns-in-Err-Memory-clause-ends g c =
    let r = subst (IsReportedIf c.args.events c.args.program.now c.args.report.now) c.in-Some.is c.requires in
    outcome_wanted c.args.events c.args.program.now c.args.report.now c.in-Some.outcome r _ _ c.in-Err-Memory.ensures.written
