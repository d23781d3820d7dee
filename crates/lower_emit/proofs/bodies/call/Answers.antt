-- The call, and what takes its outcome.
use Rattle.std.specs.Prelude.{◌+◌, ◌<◌, length}
use Rattle.std.proofs.Common.{◌∙◌, ap, arith}
use Rattle.two_d.specs.declared.command.Side.TheVariants.{E}
use Rattle.two_d.specs.Programs.{find, module_at}
use Rattle.two_d.specs.Weights.{part}
use Rattle.lower_emit.specs.Layouts.{input_slot}
use Rattle.lower_emit.specs.Plans.{side_of}
use Rattle.lower_emit.specs.inner.Codes.{layout_in}
use Rattle.lower_emit.proofs.Composed.{adds_calling}
use Rattle.lower_plan.proofs.Planned.{part-le}
use Rattle.lower_emit.proofs.Owned.{number_small}
use Rattle.lower_emit.proofs.Sums.{size_read}
use Rattle.lower_emit.proofs.bodies.call.Goals as goal

pub call_block-requires-clause-own : goal.call_block-requires-clause-own
call_block-requires-clause-own c = omega (arith, number_small c.args.program.now c.args.owner.now.number c.requires.owner.there c.requires.owner.light)

pub call_block-requires-clause-size : goal.call_block-requires-clause-size
call_block-requires-clause-size c =
    let P = c.args.program.now in
    let number = c.callee_of-callee.result in
    let there : number < length P = omega (arith, c.callee_of-callee.ensures.number, c.requires.callee) in
    omega (arith, size_read P c.args.frames.now.items c.requires.frames number c.index-size.result.now there c.index-size.ensures, part-le P number there, c.requires.owner.light)

pub returns : goal.returns
returns c =
    let P = c.args.program.now in
    let step = c.args.step.now in
    let callee = find P c.args.name.now in
    let there : c.callee_of-callee.result < length P = omega (arith, c.callee_of-callee.ensures.number, c.requires.callee) in
    adds_calling c.take.result c.args.code.now c.call_block.new.self c.take.new.code (layout_in c.args.owner.now.places) (input_slot step.n) (input_slot step.w) callee (12 + part (module_at P callee))
    c.args.owner.now.number (side_of step E) step.bx (c.args.owner.now.texts + step.bx) c.args.place c.north.result c.west.result c.callee_of-callee.result c.index-size.result.now
    c.north.ensures.slot c.west.ensures.slot c.callee_of-callee.ensures.number (size_read P c.args.frames.now.items c.requires.frames c.callee_of-callee.result c.index-size.result.now there c.index-size.ensures ∙ ap (λ k. 12 + part (module_at P k)) c.callee_of-callee.ensures.number) c.in_ok-call_block.ensures c.take.ensures

pub overflow_cast-owner : goal.overflow_cast-owner
overflow_cast-owner c = omega (arith, number_small c.args.program.now c.args.owner.now.number c.requires.owner.there c.requires.owner.light)
