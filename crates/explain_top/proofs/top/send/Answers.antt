use Rattle.std.proofs.Common.{refl}
use Rattle.explain_top.specs.Explaining.{whole, cut}
use Rattle.explain_top.proofs.top.send.Goals as goal

pub returns-in-Ok : goal.returns-in-Ok
returns-in-Ok g c = whole c.in-Ok.ensures.appended

pub returns-in-Err : goal.returns-in-Err
returns-in-Err g c =
    let a = c.in-Err.ensures.appended in cut a.0 a.1 a.2 (c.in-Err.ensures.cause.rose refl)
