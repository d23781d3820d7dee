use Rattle.std.proofs.Common.{◌∙◌, ap}
use Rattle.type_sheet.proofs.Looked.{of-told}
use Rattle.type_sheet.specs.inner.Subjects.{of_in_line}
use Rattle.type_sheet.proofs.declared.Declared.expression.Goals as goal

pub returns : goal.returns
returns c = c.expression_in_line.ensures ∙ ap of_in_line c.line.ensures ∙ of-told c.args.self.now.rows.now c.args.module.now c.args.bx
