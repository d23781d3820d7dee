-- One mark more.
use Rattle.lower_emit.specs.inner.Codes.{layout_in}
use Rattle.lower_emit.proofs.Adding.{marks_next}
use Rattle.lower_emit.proofs.ends.marks.Goals as goal

pub loop-done-preserved : goal.loop-done-preserved
loop-done-preserved c =
    marks_next (layout_in c.args.places.now) c.loop-done.code c.choose_slot.new.self _ c.args.places.now.boxes c.loop-done.done c.stuck-slot.result c.loop-done-test.true
    c.stuck-slot.ensures.slot c.in_ok-choose_slot.ensures c.loop-done.invariant
