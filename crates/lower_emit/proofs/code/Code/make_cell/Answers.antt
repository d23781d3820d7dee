-- The template says its operators.
use Rattle.code_templates.specs.Templates as code
use Rattle.lower_emit.proofs.Adding.{adds_said}
use Rattle.lower_emit.proofs.code.Code.make_cell.Goals as goal

pub returns : goal.returns
returns c = adds_said c.put.result c.args.self.now c.put.new.self _ _ (code.make_cell c.args.a c.args.b c.args.i c.args.j c.args.to) c.put.ensures (c.make_cell.ensures.operators c.args.a c.args.b c.args.i c.args.j c.args.to _)
