use Rattle.std.proofs.Common.{◌∙◌, ap}
use Rattle.type_sheet.proofs.Looked.{wire-told}
use Rattle.type_sheet.specs.inner.Subjects.{wire_in_line, line_of}
use Rattle.type_sheet.proofs.declared.Declared.wire.Goals as goal

pub returns : goal.returns
returns c = c.wire_in_line.ensures ∙ ap wire_in_line (c.line.ensures ∙ ap (line_of c.args.self.now.rows.now) c.port_of.ensures) ∙ wire-told c.args.self.now.rows.now c.args.module.now c.args.bx c.args.side
