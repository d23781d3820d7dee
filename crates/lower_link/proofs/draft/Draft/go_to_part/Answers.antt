-- The template says its operators.
use Rattle.code_templates.specs.Templates as code
use Rattle.lower_link.proofs.Adding.{adds_said}
use Rattle.lower_link.proofs.draft.Draft.go_to_part.Goals as goal

pub returns : goal.returns
returns c = adds_said c.put.result c.args.self.now c.put.new.self _ _ (code.go_to_part c.args.part c.args.place) c.put.ensures (c.go_to_part.ensures.operators c.args.part c.args.place _)
