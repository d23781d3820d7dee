-- The expression, and then what sorts its parts.
use Rattle.std.specs.Prelude.{◌+◌}
use Rattle.two_d.specs.Trees.{tree_of}
use Rattle.lower_emit.specs.Boxes.{sort_code}
use Rattle.lower_emit.specs.inner.Codes.{layout_in, expression_ops, value_slot, one_to, two_to, first_to}
use Rattle.lower_emit.proofs.Adding.{adds_last}
use Rattle.lower_emit.proofs.Composed.{adds_sort}
use Rattle.lower_emit.proofs.bodies.sort.Goals as goal

pub returns : goal.returns
returns c =
    let y = layout_in c.args.owner.now.places in
    let step = c.args.step.now in
    let x = tree_of c.args.exp.now in
    let one = one_to step c.args.sides.0 c.args.sides.1 in
    let two = two_to step c.args.sides.0 c.args.sides.1 in
    let first = first_to step c.args.sides.0 c.args.sides.1 in
    let text = c.args.owner.now.texts + step.bx in
    adds_last c.choose_slot-2.result c.args.code.now c.value.new.code c.choose_slot-2.new.self (expression_ops y step x) (sort_code y (value_slot y step x) c.args.words.0 c.args.words.1 one two first step.bx text)
    c.in_ok-slot.ensures.code
    (adds_sort c.choose_slot-2.result c.value.new.code c.read_part.new.self c.read_part-2.new.self c.choose_slot.new.self c.trail.new.self c.choose_slot-2.new.self
    y (value_slot y step x) c.args.words.0 c.args.words.1 one two first step.bx text
    c.in_ok-slot.slot c.targets_of-to.result.one c.targets_of-to.result.two c.targets_of-to.result.first c.temporary-trail.result c.mark.result c.text.result
    c.in_ok-slot.ensures.slot c.targets_of-to.ensures.one c.targets_of-to.ensures.two c.targets_of-to.ensures.first c.temporary-trail.ensures.slot c.mark.ensures.slot c.text.ensures.number
    c.in_ok-read_part.ensures c.in_ok-read_part-2.ensures c.in_ok-choose_slot.ensures c.in_ok-trail.ensures c.choose_slot-2.ensures)
