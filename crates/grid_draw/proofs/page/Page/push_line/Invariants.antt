use Rattle.std.proofs.Common.{◌≡◌, ◌++◌, map}
use Rattle.std.specs.List.{range_with_len}
use Rattle.grid_draw.specs.Layout.{byte_at}
use Rattle.grid_draw.specs.inner.Pages.{module_on}
use Rattle.grid_draw.proofs.page.Page.push_line.Given as goal

abbrev pub invariant-loop-col : goal.invariant-loop-col
invariant-loop-col l =
    l.text.items ≡ l.initial.text.items ++ map (byte_at (module_on l.self) l.row) (range_with_len 0 l.col)
