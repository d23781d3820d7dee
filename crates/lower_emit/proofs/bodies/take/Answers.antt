-- What takes the outcome of a call, one template after the other.
use Rattle.std.specs.Prelude.{◌+◌}
use Rattle.std.proofs.Common.{◌∙◌, ap}
use Rattle.two_d.specs.declared.command.Side.TheVariants.{E}
use Rattle.lower_emit.specs.Layouts.{side_slot}
use Rattle.lower_emit.specs.Plans.{side_of}
use Rattle.lower_emit.specs.inner.Codes.{layout_in}
use Rattle.lower_emit.proofs.Composed.{adds_taken}
use Rattle.lower_emit.proofs.bodies.take.Goals as goal

pub returns : goal.returns
returns c =
    let y = layout_in c.args.owner.now.places in
    let step = c.args.step.now in
    adds_taken c.choose_slot.result c.args.code.now c.take_outcome.new.self c.trail.new.self c.choose_slot.new.self y (side_of step E)
    step.bx (c.args.owner.now.texts + step.bx) c.side.result c.temporary-inner.result c.temporary-trail.result c.mark.result c.text.result
    (c.side.ensures.slot ∙ ap (side_slot y step.e) c.spare.ensures.is)
    c.temporary-inner.ensures.slot c.temporary-trail.ensures.slot c.mark.ensures.slot c.text.ensures.number c.in_ok-take_outcome.ensures c.in_ok-trail.ensures c.choose_slot.ensures
