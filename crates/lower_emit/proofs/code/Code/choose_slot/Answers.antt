-- The template says its operators.
use Rattle.code_templates.specs.Templates as code
use Rattle.lower_emit.proofs.Adding.{adds_said}
use Rattle.lower_emit.proofs.code.Code.choose_slot.Goals as goal

pub returns : goal.returns
returns c = adds_said c.put.result c.args.self.now c.put.new.self _ _ (code.choose_slot c.args.test c.args.a c.args.b c.args.to) c.put.ensures (c.choose_slot.ensures.operators c.args.test c.args.a c.args.b c.args.to _)
