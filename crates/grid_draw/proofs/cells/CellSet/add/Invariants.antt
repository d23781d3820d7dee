use Rattle.std.proofs.Common.{◌≤◌, max}
use Rattle.grid_draw.specs.inner.Sets.{is_in, Gains}
use Rattle.grid_draw.proofs.cells.CellSet.add.Given as goal

abbrev pub invariant-loop-row : goal.invariant-loop-row
invariant-loop-row l =
    Gains l.initial.self l.self (is_in (record { top = l.area.top; bottom = l.row; left = l.area.left; right = l.area.right }))
    × (l.row ≤ max l.area.top l.row-end)
