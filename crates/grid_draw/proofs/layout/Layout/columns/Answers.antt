use Rattle.std.proofs.Common.{arith}
use Rattle.grid_draw.proofs.LayoutNumbers.{counts}
use Rattle.grid_draw.proofs.layout.Layout.columns.Goals as goal

pub overflow_add-result-2 : goal.overflow_add-result-2
overflow_add-result-2 c =
    let n = counts c.args.self.now c.requires in
    omega (arith, n.wires, n.few, c.requires.near, c.len.ensures, c.args.self.now.wires.ok)
