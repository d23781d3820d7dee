-- A `case` is sorted to one side or to two.
use Rattle.std.specs.Prelude.{◌+◌}
use Rattle.std.proofs.Common.{◌∙◌, sym, ap}
use Rattle.two_d.specs.Trees.{form_of, tree_of}
use Rattle.lower_emit.specs.Plans.{step_box}
use Rattle.lower_emit.specs.inner.Codes.{layout_in, body_code}
use Rattle.lower_emit.proofs.Adding.{on_ok_as}
use Rattle.lower_emit.proofs.Composed.{case_is}
use Rattle.lower_emit.proofs.bodies.body.Goals as goal

pub returns-in-Case : goal.returns-in-Case
returns-in-Case c =
    let y = layout_in c.args.owner.now.places in
    let text = c.args.owner.now.texts + c.args.step.now.bx in
    on_ok_as c.sort.result c.args.code.now c.sort.new.code _ _
    (sym (ap (λ f. body_code y (step_box c.args.program.now c.args.owner.now.number c.args.step.now text f) c.args.place) (ap form_of c.in-Case.is)
    ∙ case_is y c.args.step.now text (tree_of c.in-Case.exp) c.in-Case.left c.in-Case.right c.args.place)) c.sort.ensures
