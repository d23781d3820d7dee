use Rattle.std.proofs.Common.{◌≡◌, ◌++◌, map}
use Rattle.std.specs.List.{range_with_len}
use Rattle.grid_picture.specs.Lined.{lined}
use Rattle.grid_draw.specs.inner.Pages.{module_on}
use Rattle.grid_draw.proofs.Drawn.{line_of}
use Rattle.grid_draw.proofs.page.push_drawing.Given as goal

abbrev pub invariant-loop-row : goal.invariant-loop-row
invariant-loop-row l =
    l.text.items ≡ l.initial.text.items ++ lined (map (line_of (module_on l.page)) (range_with_len 0 l.row))
