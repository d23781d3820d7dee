use Rattle.std.proofs.Common.{◌≡◌, ◌+◌, ◌-◌, map}
use Rattle.std.specs.List.{range_with_len, join_with_byte}
use Rattle.two_d.specs.Boxes.{row_text}
use Rattle.grid_reader.specs.inner.Rects.{rect_shown}
use Rattle.grid_reader.proofs.box_frame.box_of.Given as goal

abbrev pub invariant-loop-row : goal.invariant-loop-row
invariant-loop-row l =
    l.text.items ≡ join_with_byte 32 (map (row_text l.grid (rect_shown l.rect)) (range_with_len (l.rect.top + 1) (l.row - l.rect.top - 1)))
