use Rattle.std.proofs.Common.{refl}
use Rattle.codex_top.specs.Sending.{sent, cut}
use Rattle.codex_top.proofs.sending.send.Goals as goal

pub returns-in-Ok-clause-sent : goal.returns-in-Ok-clause-sent
returns-in-Ok-clause-sent g c = sent c.in-Ok.ensures.appended

pub returns-in-Err-clause-sent : goal.returns-in-Err-clause-sent
returns-in-Err-clause-sent g c =
    let a = c.in-Err.ensures.appended in
    cut a.0 a.1 a.2 (c.in-Err.ensures.cause.rose refl)
