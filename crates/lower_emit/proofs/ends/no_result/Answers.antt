-- The trail, and then the choice.
use Rattle.std.proofs.Common.{refl}
use Rattle.lower_emit.specs.Layouts.{temporary}
use Rattle.lower_emit.specs.inner.Codes.{layout_in}
use Rattle.lower_emit.proofs.Composed.{adds_trail}
use Rattle.lower_emit.proofs.ends.no_result.Goals as goal

pub returns : goal.returns
returns c =
    let y = layout_in c.args.places.now in
    adds_trail c.choose_slot.result c.args.code.now c.trail.new.self c.choose_slot.new.self y c.args.text c.temporary-trail.result _ _ _ _ (temporary y 0) 7 (temporary y 3) 6
    c.temporary-trail.ensures.slot c.temporary-seen.ensures.slot refl c.temporary-trail.ensures.slot refl c.in_ok-trail.ensures c.choose_slot.ensures
