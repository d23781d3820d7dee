use Rattle.std.proofs.Common.{◌<◌, length, subst, arith}
use Rattle.grid_draw.specs.inner.Layouts.{IsEndOf, module_in}
use Rattle.grid_draw.proofs.CoursesBuilt.{reach_some}
use Rattle.grid_draw.proofs.LayoutNumbers.{counts}
use Rattle.grid_draw.proofs.course.push_last.Goals as goal

pub overflow_sub-track : goal.overflow_sub-track
overflow_sub-track c =
    let m = module_in c.args.layout.now in
    let there : c.in-N.field-0 < length m.boxes = subst (IsEndOf m) c.in-N.is c.requires.to in
    let some = reach_some m c.in-N.field-0 there in
    omega (arith, some, c.requires.layout.reach, c.requires.past)

pub overflow_add-columns : goal.overflow_add-columns
overflow_add-columns c =
    let n = counts c.args.layout.now c.requires.layout in
    omega (arith, n.few, c.requires.layout.near, c.requires.layout.reach, c.columns.ensures)
