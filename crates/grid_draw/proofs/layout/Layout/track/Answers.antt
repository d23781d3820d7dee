use Rattle.std.proofs.Common.{arith}
use Rattle.grid_draw.proofs.LayoutNumbers.{counts}
use Rattle.grid_draw.proofs.layout.Layout.track.Goals as goal

pub overflow_add-result-2 : goal.overflow_add-result-2
overflow_add-result-2 c =
    let n = counts c.args.self.now c.requires.layout in
    omega (arith, n.few, c.requires.there, c.requires.layout.near)
