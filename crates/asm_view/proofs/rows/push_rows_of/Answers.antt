use Rattle.um_asm.specs.inner.TextParts.{text_line_read}
use Rattle.asm_view.specs.Rows.{more_rows, row}
use Rattle.asm_view.proofs.Listed.{both_added}
use Rattle.asm_view.proofs.rows.push_rows_of.Goals as goal

pub returns : goal.returns
returns c =
    both_added c.args.page.now.items (row c.args.words.now (text_line_read c.args.line.now)) (more_rows c.args.words.now (text_line_read c.args.line.now))
    _ _ c.in_ok-push_row.ensures c.in_ok-push_more_rows.ensures
