use Rattle.std.specs.Prelude.{◌≡◌, ◌<◌, ◌∷◌, [], length}
use Rattle.std.proofs.Common.{sym, arith}
use Rattle.std.proofs.lemmas.List.{append-nil}
use Rattle.type_sheet.proofs.RowsRead.{empty_text, row_none, row_good, row_bad}
use Rattle.type_sheet.proofs.sheet.push_row.Goals as goal

pub returns-then-is_empty : goal.returns-then-is_empty
returns-then-is_empty c =
    let none : length c.args.text.now ≡ 0 = grind (arith, c.is_empty.ensures, c.if-is_empty.true) in
    ([], row_none c.args.number c.args.text.now (empty_text c.args.text.now none), sym (append-nil c.args.rows.now.items))

pub returns-in_default : goal.returns-in_default
returns-in_default c =
    let some : 0 < length c.args.text.now = grind (arith, c.is_empty.ensures, c.if-is_empty.false) in
    row_bad c.args.number c.args.text.now some (rw c.in_default.is at c.in_ok-line.ensures)

pub returns : goal.returns
returns c =
    let some : 0 < length c.args.text.now = grind (arith, c.is_empty.ensures, c.if-is_empty.false) in
    (record { at = c.args.number; line = c.in-Some.line } ∷ [], row_good c.args.number c.args.text.now c.in-Some.line some (rw c.in-Some.is at c.in_ok-line.ensures), c.in_ok-push.ensures.items)
