use Rattle.std.proofs.Common.{◌≡◌, sym, ◌∙◌, arith}
use Rattle.std.proofs.lemmas.Fmt.{decimal_injective}
use Rattle.um_debug.proofs.command.cycles_of.Goals as goal

pub returns-then-cycles-eq0 : goal.returns-then-cycles-eq0
returns-then-cycles-eq0 c n least is =
    let same : c.in_ok-cycles.cycles ≡ n =
    decimal_injective c.in_ok-cycles.cycles n (omega (arith, c.in_ok-cycles.ensures.small)) (omega (arith, is.small)) (sym c.in_ok-cycles.ensures.writes ∙ is.writes) in
    absurd (omega (arith, same, least, c.if-cycles-eq0.true))
