use Rattle.std.proofs.Common.{◌≤◌, max}
use Rattle.grid_draw.specs.inner.Sets.{is_in_row, Gains}
use Rattle.grid_draw.proofs.cells.CellSet.add_row.Given as goal

abbrev pub invariant-loop-col : goal.invariant-loop-col
invariant-loop-col l = Gains l.initial.self l.self (is_in_row l.row l.left l.col) × (l.col ≤ max l.left l.col-end)
