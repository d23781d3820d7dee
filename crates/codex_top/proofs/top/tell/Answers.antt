use Rattle.std.proofs.Common.{refl}
use Rattle.codex_top.specs.Endings.{silent, whole, cut}
use Rattle.codex_top.proofs.top.tell.Goals as goal

pub returns-in-Ok : goal.returns-in-Ok
returns-in-Ok g c = rw (c.in-Ok.is, c.status.ensures) (silent c.in-Ok.finish refl)

pub returns-in-Ok-put : goal.returns-in-Ok-put
returns-in-Ok-put g c =
    rw (c.in-Err.is, c.status-in-Ok-put.ensures) (whole c.in-Err.line c.in-Ok-put.ensures.appended c.in-Ok-put.ensures.cause.later)

pub returns : goal.returns
returns g c =
    let a = c.in-Err-put.ensures.appended in
    rw c.in-Err.is (cut c.in-Err.line a.0 a.1 a.2 (c.in-Err-put.ensures.cause.rose refl))
