use Rattle.std.proofs.Common.{arith}
use Rattle.wire_trace.specs.inner.Sheets.{drawing_in}
use Rattle.wire_trace.proofs.StartLemmas.{first_row, first_column, next_row, last_row}
use Rattle.wire_trace.proofs.starts.starts.Goals as goal

pub rows-init : goal.rows-init
rows-init c = first_row (drawing_in c.args.sheet.now) c.new-starts.result.items c.requires.sheet.laid c.new-starts.ensures.items

pub columns-init : goal.columns-init
columns-init c = first_column (drawing_in c.args.sheet.now) c.rows.row c.rows.starts.items c.requires.sheet.laid c.rows.invariant

pub rows-preserved : goal.rows-preserved
rows-preserved c = next_row (drawing_in c.args.sheet.now) c.rows.row c.columns.col c.columns.starts.items c.requires.sheet.laid c.columns-test.false c.columns.invariant

pub returns : goal.returns
returns c = last_row (drawing_in c.args.sheet.now) c.rows.row c.rows.starts.items c.requires.sheet.laid (omega arith) c.rows.invariant
