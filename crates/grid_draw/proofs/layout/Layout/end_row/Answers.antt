use Rattle.std.proofs.Common.{◌<◌, length, subst, arith}
use Rattle.grid_draw.specs.inner.Layouts.{IsEndOf, module_in}
use Rattle.grid_draw.proofs.LayoutNumbers.{counts}
use Rattle.grid_draw.proofs.layout.Layout.end_row.Goals as goal

pub box_row-requires-clause-box_there : goal.box_row-requires-clause-box_there
box_row-requires-clause-box_there c =
    let m = module_in c.args.self.now in
    let n = counts c.args.self.now c.requires.layout in
    let there : c.in-N.b < length m.boxes = subst (IsEndOf m) c.in-N.is c.requires.there in
    omega (arith, there, n.small)

pub box_row-requires-in-W-clause-box_there : goal.box_row-requires-in-W-clause-box_there
box_row-requires-in-W-clause-box_there c =
    let m = module_in c.args.self.now in
    let n = counts c.args.self.now c.requires.layout in
    let there : c.in-W.b < length m.boxes = subst (IsEndOf m) c.in-W.is c.requires.there in
    omega (arith, there, n.small)
