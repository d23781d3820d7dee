-- Where the name isn't found the number is that of the modules.
use Rattle.std.specs.Prelude.{◌≡◌, length}
use Rattle.std.proofs.Common.{arith}
use Rattle.two_d.specs.Programs.{find}
use Rattle.lower_emit.proofs.Owned.{callee_is, number_small}
use Rattle.lower_emit.proofs.bodies.callee_of.Goals as goal

pub returns : goal.returns
returns c =
    let el : c.len.result ≡ length c.modules.result.now.items = omega (arith, c.len.ensures, c.modules.result.now.ok.0) in
    let P = c.args.program.now in
    let name = c.args.name.now in
    let number : c.unwrap_or.result ≡ find P name = callee_is P c.modules.result.now.items c.modules.ensures.modules c.find.result c.len.result _ name el c.unwrap_or.ensures c.find.ensures.number in
    record { number = number; small = omega (arith, number, number_small P (find P name) c.requires.there c.requires.light) }
