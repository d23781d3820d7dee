use Rattle.std.proofs.Common.{arith}
use Rattle.grid_draw.specs.inner.Layouts.{module_in, wire_of}
use Rattle.grid_draw.proofs.CoursesBuilt.{wire_on}
use Rattle.grid_draw.proofs.course.course_on.Goals as goal

pub first_leg-requires-clause-from : goal.first_leg-requires-clause-from
first_leg-requires-clause-from c =
    (wire_on (module_in c.args.layout.now) c.args.j (wire_of c.args.wire) c.requires.narrow.layout.fit.sound c.requires.there).from

pub first_leg-requires-clause-to : goal.first_leg-requires-clause-to
first_leg-requires-clause-to c =
    (wire_on (module_in c.args.layout.now) c.args.j (wire_of c.args.wire) c.requires.narrow.layout.fit.sound c.requires.there).to

pub push_last-requires-clause-to : goal.push_last-requires-clause-to
push_last-requires-clause-to c =
    (wire_on (module_in c.args.layout.now) c.args.j (wire_of c.args.wire) c.requires.narrow.layout.fit.sound c.requires.there).to

pub push_last-requires-clause-within : goal.push_last-requires-clause-within
push_last-requires-clause-within c =
    let w = wire_on (module_in c.args.layout.now) c.args.j (wire_of c.args.wire) c.requires.narrow.layout.fit.sound c.requires.there in
    omega (arith, w.inside, c.track-track.ensures)
