-- The template says its operators.
use Rattle.code_templates.specs.Templates as code
use Rattle.lower_link.proofs.Adding.{adds_said}
use Rattle.lower_link.proofs.draft.Draft.pop_work.Goals as goal

pub returns : goal.returns
returns c = adds_said c.put.result c.args.self.now c.put.new.self _ _ (code.pop_work) c.put.ensures (c.pop_work.ensures.operators _)
