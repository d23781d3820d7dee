use Rattle.std.proofs.Common.{sym, arith}
use Rattle.std.proofs.lemmas.List.{take_all}
use Rattle.text_picture.proofs.rows.first_cells.Goals as goal

pub returns-then-row-count : goal.returns-then-row-count
returns-then-row-count c = sym (take_all c.args.count c.args.row.now (omega arith))
