-- The template says its operators.
use Rattle.code_templates.specs.Templates as code
use Rattle.lower_emit.proofs.Adding.{adds_said}
use Rattle.lower_emit.proofs.code.Code.call_block.Goals as goal

pub returns : goal.returns
returns c = adds_said c.put.result c.args.self.now c.put.new.self _ _ (code.call_block c.args.inputs.0 c.args.inputs.1 c.args.callee c.args.size c.args.own c.args.back) c.put.ensures (c.call_block.ensures.operators c.args.inputs.0 c.args.inputs.1 c.args.callee c.args.size c.args.own c.args.back _)
