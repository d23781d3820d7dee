use Rattle.std.proofs.Common.{◌≡◌, ◌<◌, ◌≤◌, length, subst, arith}
use Rattle.grid_draw.specs.inner.Layouts.{IsStartOf, module_in}
use Rattle.grid_draw.proofs.CoursesBuilt.{east_inside, reach_some}
use Rattle.grid_draw.proofs.LayoutNumbers.{counts}
use Rattle.grid_draw.proofs.course.first_leg.Goals as goal

pub box_row-requires-clause-box_there : goal.box_row-requires-clause-box_there
box_row-requires-clause-box_there c =
    let m = module_in c.args.layout.now in
    let n = counts c.args.layout.now c.requires.layout in
    let there : c.in-East.b < length m.boxes = subst (IsStartOf m) c.in-East.is c.requires.from in
    omega (arith, there, n.small)

pub box_row-requires-in-East-clause-box_there : goal.box_row-requires-in-East-clause-box_there
box_row-requires-in-East-clause-box_there c =
    let m = module_in c.args.layout.now in
    let n = counts c.args.layout.now c.requires.layout in
    let there : c.in-East.b < length m.boxes = subst (IsStartOf m) c.in-East.is c.requires.from in
    omega (arith, there, n.small)

pub overflow_sub-track : goal.overflow_sub-track
overflow_sub-track c =
    let m = module_in c.args.layout.now in
    let there : c.in-East.b < length m.boxes = subst (IsStartOf m) c.in-East.is c.requires.from in
    let inside = east_inside m c.in-East.b there in
    omega (arith, inside, c.east_of-col.ensures, c.requires.layout.reach, c.requires.past)

pub overflow_sub-track-in-South : goal.overflow_sub-track-in-South
overflow_sub-track-in-South c =
    let m = module_in c.args.layout.now in
    let there : c.in-South.b < length m.boxes = subst (IsStartOf m) c.in-South.is c.requires.from in
    let some = reach_some m c.in-South.b there in
    omega (arith, some, c.requires.layout.reach, c.requires.past)

pub box_row-requires-in-South-clause-box_there : goal.box_row-requires-in-South-clause-box_there
box_row-requires-in-South-clause-box_there c =
    let m = module_in c.args.layout.now in
    let n = counts c.args.layout.now c.requires.layout in
    let there : c.in-South.b < length m.boxes = subst (IsStartOf m) c.in-South.is c.requires.from in
    omega (arith, there, n.small)

pub box_row-requires-in-South-2-clause-box_there : goal.box_row-requires-in-South-2-clause-box_there
box_row-requires-in-South-2-clause-box_there c =
    let m = module_in c.args.layout.now in
    let n = counts c.args.layout.now c.requires.layout in
    let there : c.in-South.b < length m.boxes = subst (IsStartOf m) c.in-South.is c.requires.from in
    omega (arith, there, n.small)
