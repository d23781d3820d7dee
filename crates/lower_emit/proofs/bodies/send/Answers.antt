-- One out more.
use Rattle.std.proofs.Common.{◌∙◌, ap, arith, refl}
use Rattle.two_d.specs.Trees.{tree_of}
use Rattle.lower_emit.specs.Layouts.{input_slot, side_slot}
use Rattle.lower_emit.specs.Plans.{wire_to}
use Rattle.lower_emit.specs.inner.Codes.{layout_in, expression_ops, value_slot}
use Rattle.lower_emit.proofs.Composed.{out_at, out_nodes-le, adds_out}
use Rattle.lower_emit.proofs.bodies.send.Goals as goal

pub value-requires-clause-room : goal.value-requires-clause-room
value-requires-clause-room c =
    let here = out_at c.args.outs.now.items _ c.deref-out-items.ensures.value c.loop-out.out-index c.out-item.result c.loop-out-test.true c.out-item.is in
    omega (arith, out_nodes-le c.args.outs.now.items c.loop-out.out-index c.out-item.result here, c.requires.room)

pub loop-out-preserved : goal.loop-out-preserved
loop-out-preserved c =
    let y = layout_in c.args.owner.now.places in
    let step = c.args.step.now in
    let out = c.out-item.result in
    let here = out_at c.args.outs.now.items _ c.deref-out-items.ensures.value c.loop-out.out-index out c.loop-out-test.true c.out-item.is in
    adds_out c.args.code.now c.loop-out.code c.value.new.code c.choose_slot.new.self y step (input_slot step.n) (input_slot step.w) c.args.outs.now.items c.loop-out.out-index out
    (expression_ops y step (tree_of out.0)) c.in_ok-slot.slot (value_slot y step (tree_of out.0)) c.side-side.result here refl
    c.in_ok-slot.ensures.slot (c.side-side.ensures.slot ∙ ap (side_slot y (wire_to step out.1)) c.spare.ensures.is)
    c.loop-out.invariant c.in_ok-slot.ensures.code c.in_ok-choose_slot.ensures
