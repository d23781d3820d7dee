use Rattle.std.proofs.Common.{arith}
use Rattle.grid_draw.proofs.LayoutNumbers.{text_long}
use Rattle.grid_draw.proofs.layout.Layout.east_of.Goals as goal

pub returns : goal.returns
returns c =
    let long = text_long c.args.self.now c.requires.layout c.args.b c.index.result.now c.requires.there c.index.ensures in
    omega (arith, long, c.len.ensures, c.index.result.now.ok)
