use Rattle.std.proofs.Common.{◌∙◌, ap}
use Rattle.type_sheet.proofs.Looked.{form-told}
use Rattle.type_sheet.specs.inner.Subjects.{form_in_line}
use Rattle.type_sheet.proofs.declared.Declared.form.Goals as goal

pub returns : goal.returns
returns c = c.form_in_line.ensures ∙ ap form_in_line c.line.ensures ∙ form-told c.args.self.now.rows.now c.args.name.now
