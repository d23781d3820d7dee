use Rattle.std.proofs.Common.{◌∙◌, ap}
use Rattle.type_sheet.proofs.Looked.{module-told}
use Rattle.type_sheet.specs.inner.Subjects.{module_in_line}
use Rattle.type_sheet.proofs.declared.Declared.module.Goals as goal

pub returns : goal.returns
returns c = c.module_in_line.ensures ∙ ap module_in_line c.line.ensures ∙ module-told c.args.self.now.rows.now c.args.name.now
