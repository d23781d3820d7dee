use Rattle.std.proofs.Common.{refl}
use Rattle.explain_top.specs.Explaining.{silent, line}
use Rattle.explain_top.proofs.top.tell.Goals as goal

pub returns-in-Some : goal.returns-in-Some
returns-in-Some g c = line c.in-Some.line.now c.put.result c.in-Some.ensures c.put.ensures

pub returns-in-None : goal.returns-in-None
returns-in-None g c = silent c.in-None.ensures refl
