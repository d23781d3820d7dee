-- The guards, and what the box does.
use Rattle.std.specs.Prelude.{◌+◌, length}
use Rattle.std.proofs.Common.{ap, arith}
use Rattle.lower_emit.specs.Plans.{box_in, wired}
use Rattle.lower_emit.specs.inner.Codes.{body_code, layout_in}
use Rattle.lower_emit.proofs.Adding.{says_length}
use Rattle.lower_emit.proofs.Owned.{has_step, step_inputs}
use Rattle.lower_emit.proofs.Words.{body_words}
use Rattle.lower_emit.proofs.Composed.{adds_box}
use Rattle.lower_emit.proofs.steps.one_box.Goals as goal

pub guards-requires-clause-step : goal.guards-requires-clause-step
guards-requires-clause-step c = has_step c.args.program.now c.args.owner.now c.requires.owner c.args.step.now c.requires.step

pub place-requires : goal.place-requires
place-requires c =
    let y = layout_in c.args.owner.now.places in
    let box = box_in c.args.program.now c.args.owner.now.number c.args.step.now in
    let start = c.place-place.result + c.guards_length.result in
    omega (arith, says_length c.in_ok-inner.inner (body_code y box start) c.in_ok-inner.ensures, body_words y box start, c.requires.place)

pub overflow_add-start-2 : goal.overflow_add-start-2
overflow_add-start-2 c =
    let y = layout_in c.args.owner.now.places in
    let box = box_in c.args.program.now c.args.owner.now.number c.args.step.now in
    let start = c.place-place.result + c.guards_length.result in
    omega (arith, says_length c.in_ok-inner.inner (body_code y box start) c.in_ok-inner.ensures, body_words y box start, c.place.ensures, c.place-place.ensures, c.requires.place)

pub guards-requires-clause-end : goal.guards-requires-clause-end
guards-requires-clause-end c =
    let y = layout_in c.args.owner.now.places in
    let box = box_in c.args.program.now c.args.owner.now.number c.args.step.now in
    let start = c.place-place.result + c.guards_length.result in
    let inputs = ap length (step_inputs c.args.program.now c.args.owner.now c.requires.owner c.args.step.now c.requires.step) in
    omega (arith, says_length c.in_ok-inner.inner (body_code y box start) c.in_ok-inner.ensures, body_words y box start, inputs, c.place.ensures, c.place-place.ensures, c.requires.place)

pub returns : goal.returns
returns c =
    let step = c.args.step.now in
    adds_box c.append.result c.args.code.now c.guards.new.code c.append.new.self c.in_ok-inner.inner (layout_in c.args.owner.now.places) (box_in c.args.program.now c.args.owner.now.number step)
    (wired step.n step.w) c.place-place.result _ _ (step_inputs c.args.program.now c.args.owner.now c.requires.owner step c.requires.step) c.place-place.ensures
    (ap (λ n. c.place-place.result + n) c.guards_length.ensures.length) (ap (λ n. c.place-place.result + c.guards_length.result + n) c.place.ensures)
    c.in_ok-inner.ensures c.in_ok-guards.ensures c.append.ensures
