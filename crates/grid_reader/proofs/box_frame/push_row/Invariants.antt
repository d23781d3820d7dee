use Rattle.std.proofs.Common.{◌≡◌, ◌+◌, ◌-◌, ◌++◌, map}
use Rattle.std.specs.List.{range_with_len}
use Rattle.two_d.specs.Cells.{cell}
use Rattle.two_d.specs.Places.{at}
use Rattle.grid_reader.proofs.box_frame.push_row.Given as goal

abbrev pub invariant-loop-col : goal.invariant-loop-col
invariant-loop-col l =
    l.text.items ≡ l.fn.text.items ++ map (λ col. cell l.grid (at l.row col)) (range_with_len (l.rect.left + 1) (l.col - l.rect.left - 1))
