-- One box more.
use Rattle.lower_emit.specs.Plans.{box_in}
use Rattle.lower_emit.specs.inner.Codes.{layout_in, most_block_words}
use Rattle.lower_emit.proofs.Composed.{step_at, box_fits, adds_next}
use Rattle.lower_emit.proofs.steps.all_boxes.Goals as goal

pub one_box-requires-clause-place : goal.one_box-requires-clause-place
one_box-requires-clause-place c =
    let steps = c.args.steps.now.items in
    let i = c.loop-step.step-index in
    box_fits c.args.code.now c.loop-step.code (layout_in c.args.owner.now.places) (box_in c.args.program.now c.args.owner.now.number) steps i _ most_block_words
    (step_at steps _ c.deref-step-items.ensures.value i _ c.loop-step-test.true) c.loop-step.invariant c.requires.place

pub loop-step-preserved : goal.loop-step-preserved
loop-step-preserved c =
    let steps = c.args.steps.now.items in
    let i = c.loop-step.step-index in
    adds_next c.args.code.now c.loop-step.code c.one_box.new.code (layout_in c.args.owner.now.places) (box_in c.args.program.now c.args.owner.now.number) steps i _
    (step_at steps _ c.deref-step-items.ensures.value i _ c.loop-step-test.true) c.loop-step.invariant c.in_ok-one_box.ensures
