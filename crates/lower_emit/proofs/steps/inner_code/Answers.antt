-- The command of the step's box, and what it does.
use Rattle.std.specs.Prelude.{◌+◌}
use Rattle.std.proofs.Common.{sym, subst}
use Rattle.std.proofs.lemmas.Option.{slice_get_within}
use Rattle.two_d.specs.Programs.{module_at, box_of}
use Rattle.two_d.specs.Trees.{form_of}
use Rattle.lower_emit.specs.Boxes.{Box}
use Rattle.lower_emit.specs.Plans.{step_box as box_of_step}
use Rattle.lower_emit.specs.inner.Codes.{Says, body_code, layout_in}
use Rattle.lower_emit.proofs.Adding.{says_new}
use Rattle.lower_emit.proofs.Owned.{has_step, has_room, box_is, row_is}
use Rattle.lower_emit.proofs.steps.inner_code.Goals as goal

pub body-requires-clause-step : goal.body-requires-clause-step
body-requires-clause-step c = has_step c.args.program.now c.args.owner.now c.requires.owner c.args.step.now c.requires.step

pub body-requires-clause-room : goal.body-requires-clause-room
body-requires-clause-room c =
    let P = c.args.program.now in
    let owner = c.args.owner.now in
    let bx = c.args.step.now.bx in
    let inside = slice_get_within (module_at P owner.number).boxes bx c.requires.step.row c.requires.step.there in
    let there = row_is P _ c.modules.ensures.modules owner.number c.index.result.now c.requires.owner.there c.index.ensures bx c.index-row.result.now inside c.index-row.ensures in
    has_room P owner c.requires.owner bx (box_of c.index-row.result.now) there

pub returns : goal.returns
returns c =
    let P = c.args.program.now in
    let owner = c.args.owner.now in
    let step = c.args.step.now in
    let y = layout_in owner.places in
    let inside = slice_get_within (module_at P owner.number).boxes step.bx c.requires.step.row c.requires.step.there in
    let there = row_is P _ c.modules.ensures.modules owner.number c.index.result.now c.requires.owner.there c.index.ensures step.bx c.index-row.result.now inside c.index-row.ensures in
    let box = box_of_step P owner.number step (owner.texts + step.bx) (form_of c.index-row.result.now.command) in
    subst (λ (box : Box). Says c.body.new.code (body_code y box c.args.place)) (sym (box_is P owner c.requires.owner step (box_of c.index-row.result.now) there))
    (says_new c.new-inner.result c.body.new.code (body_code y box c.args.place) c.new-inner.ensures c.in_ok-body.ensures)
