use Rattle.std.specs.Prelude.{Err, Ok}
use Rattle.std.proofs.lemmas.Result.{err_from_is_err_and}
use Rattle.codex_top.specs.Sending.{ends}
use Rattle.codex_top.proofs.sending.send_last.Goals as goal

pub returns-in_err-send-clause-ends : goal.returns-in_err-send-clause-ends
returns-in_err-send-clause-ends g c =
    let p = err_from_is_err_and c.from_residual.result c.from_residual.ensures.1 in
    rw (p.1, p.2) (ends (Err c.in_err-send.field-0.0) c.in_err-send.ensures.sent)

pub returns-clause-ends : goal.returns-clause-ends
returns-clause-ends g c = ends (Ok tt) c.in_ok-send.ensures.sent
