use Rattle.std.proofs.Common.{◌≡◌, ◌<◌, length, sym, ◌∙◌, Some, None, arith, refl}
use Rattle.type_sheet.proofs.Cuts.{lines_some, lines_none, before_none}
use Rattle.type_sheet.specs.inner.Cut.{behind_byte}
use Rattle.type_sheet.proofs.lines.first_line.Goals as goal

pub returns-in-Some-clause-first : goal.returns-in-Some-clause-first
returns-in-Some-clause-first c =
    let text = c.args.text.now in
    let rest : behind_byte 10 text ≡ Some c.in-Some.rest.now = sym c.cut.ensures.back ∙ rw c.in-Some.is refl in
    rw (c.strip_return.ensures.line, c.cut.ensures.front) (lines_some text c.in-Some.rest.now rest)

pub returns-in-None-clause-first : goal.returns-in-None-clause-first
returns-in-None-clause-first c =
    let text = c.args.text.now in
    let none : behind_byte 10 text ≡ None = sym c.cut.ensures.back ∙ rw c.in-None.is refl in
    let some : 0 < length text = grind (arith, c.is_empty.ensures, c.if-is_empty.false) in
    rw (c.cut.ensures.front, before_none 10 text none) (lines_none text none some)
