use Rattle.std.proofs.Common.{refl}
use Rattle.std.proofs.lemmas.Result.{err_from_is_err_and}
use Rattle.codex_top.specs.Commands.{unread, no_memory, works}
use Rattle.codex_top.proofs.eval.eval.Goals as goal

pub returns-in_err-program-clause-ends : goal.returns-in_err-program-clause-ends
returns-in_err-program-clause-ends g c =
    let p = err_from_is_err_and c.from_residual.result c.from_residual.ensures.1 in
    rw (p.1, p.2) (unread c.in_err-program.field-0.0 c.in_err-program.ensures.read refl)

pub returns-in_err-report-clause-ends : goal.returns-in_err-report-clause-ends
returns-in_err-report-clause-ends g c =
    let p = err_from_is_err_and c.from_residual-in_err-report.result c.from_residual-in_err-report.ensures.1 in
    rw (p.1, p.2) (no_memory refl)

pub returns-clause-ends : goal.returns-clause-ends
returns-clause-ends g c = works c.in_ok-program.program c.tell_outcome.result c.in_ok-program.ensures.read c.tell_outcome.ensures.ends
