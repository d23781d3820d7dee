use Rattle.std.proofs.Common.{arith}
use Rattle.grid_draw.proofs.LayoutNumbers.{counts}
use Rattle.grid_draw.proofs.layout.Layout.exit_row.Goals as goal

pub box_row-requires-clause-box_there : goal.box_row-requires-clause-box_there
box_row-requires-clause-box_there c =
    let n = counts c.args.self.now c.requires.layout in
    omega (arith, n.boxes, n.small, c.len.ensures, c.args.self.now.module.now.boxes.ok)
