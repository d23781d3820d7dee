-- The wires to both sides of a box are noted.
use Rattle.std.proofs.Common.{◌<◌, ◌+◌, arith, subst, length}
use Rattle.std.proofs.lemmas.List.{length-map}
use Rattle.two_d.specs.inner.Orders.{AreTargets}
use Rattle.two_d.specs.Programs.{module_of, box_of}
use Rattle.two_d.proofs.Targets.{north_below, west_below, noted_north, noted_west}
use Rattle.two_d.proofs.order.targets.Goals as goal

pub note-requires : goal.note-requires
note-requires c =
    rw (c.north_of.ensures, c.loop-number.invariant.long) (north_below (module_of c.args.module.now) c.loop-number.number c.requires (omega (arith, length-map c.args.module.now.boxes.items box_of)))

after_north : (c : goal.After-west_of) → AreTargets (module_of c.args.module.now) c.args.side (c.loop-number.number + 1) c.loop-number.number c.note.new.targets.items
after_north c =
    let lt : c.loop-number.number < length (module_of c.args.module.now).boxes = omega (arith, length-map c.args.module.now.boxes.items box_of) in
    rw (c.note.ensures, c.north_of.ensures) (noted_north (module_of c.args.module.now) c.requires c.loop-number.number lt c.args.side c.loop-number.targets.items c.loop-number.invariant)

pub note-requires-in-loop-number : goal.note-requires-in-loop-number
note-requires-in-loop-number c =
    rw (c.west_of.ensures, (after_north c).long) (west_below (module_of c.args.module.now) c.loop-number.number c.requires (omega (arith, length-map c.args.module.now.boxes.items box_of)))

pub loop-number-preserved : goal.loop-number-preserved
loop-number-preserved c =
    let lt : c.loop-number.number < length (module_of c.args.module.now).boxes = omega (arith, length-map c.args.module.now.boxes.items box_of) in
    let north : AreTargets (module_of c.args.module.now) c.args.side (c.loop-number.number + 1) c.loop-number.number c.note.new.targets.items =
    rw (c.note.ensures, c.north_of.ensures) (noted_north (module_of c.args.module.now) c.requires c.loop-number.number lt c.args.side c.loop-number.targets.items c.loop-number.invariant) in
    rw (c.note-in-loop-number.ensures, c.west_of.ensures) (noted_west (module_of c.args.module.now) c.requires c.loop-number.number lt c.args.side c.note.new.targets.items north)

pub returns : goal.returns
returns c =
    subst (λ n. AreTargets (module_of c.args.module.now) c.args.side n n c.loop-number.targets.items)
    (omega (arith, length-map c.args.module.now.boxes.items box_of)) c.loop-number.invariant
