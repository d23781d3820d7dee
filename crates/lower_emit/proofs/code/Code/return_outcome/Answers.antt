-- The template says its operators.
use Rattle.code_templates.specs.Templates as code
use Rattle.lower_emit.proofs.Adding.{adds_said}
use Rattle.lower_emit.proofs.code.Code.return_outcome.Goals as goal

pub returns : goal.returns
returns c = adds_said c.put.result c.args.self.now c.put.new.self _ _ (code.return_outcome) c.put.ensures (c.return_outcome.ensures.operators _)
