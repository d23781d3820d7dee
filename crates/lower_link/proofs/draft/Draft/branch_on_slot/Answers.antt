-- The template says its operators.
use Rattle.code_templates.specs.Templates as code
use Rattle.lower_link.proofs.Adding.{adds_said}
use Rattle.lower_link.proofs.draft.Draft.branch_on_slot.Goals as goal

pub returns : goal.returns
returns c = adds_said c.put.result c.args.self.now c.put.new.self _ _ (code.branch_on_slot c.args.slot c.args.none c.args.some) c.put.ensures (c.branch_on_slot.ensures.operators c.args.slot c.args.none c.args.some _)
