-- The template says its operators.
use Rattle.code_templates.specs.Templates as code
use Rattle.lower_emit.proofs.Adding.{adds_said}
use Rattle.lower_emit.proofs.code.Code.take_outcome.Goals as goal

pub returns : goal.returns
returns c = adds_said c.put.result c.args.self.now c.put.new.self _ _ (code.take_outcome c.args.value c.args.trail) c.put.ensures (c.take_outcome.ensures.operators c.args.value c.args.trail _)
