-- The template says its operators.
use Rattle.code_templates.specs.Templates as code
use Rattle.lower_emit.proofs.Adding.{adds_said}
use Rattle.lower_emit.proofs.code.Code.read_part.Goals as goal

pub returns : goal.returns
returns c = adds_said c.put.result c.args.self.now c.put.new.self _ _ (code.read_part c.args.whole c.args.word c.args.to) c.put.ensures (c.read_part.ensures.operators c.args.whole c.args.word c.args.to _)
