use Rattle.std.proofs.Common.{◌≡◌, map, take}
use Rattle.std.specs.List.{All}
use Rattle.grid_reader.specs.Boxes.{box_rect, IsBoxOf}
use Rattle.grid_reader.specs.Frames.{rect_of}
use Rattle.grid_reader.specs.inner.Rects.{plains}
use Rattle.grid_reader.proofs.box_frame.boxes.Given as goal

abbrev pub invariant-loop-rect : goal.invariant-loop-rect
invariant-loop-rect l = record {
  same : map box_rect l.boxes.items ≡ plains (take l.rect-index l.rect-items);
  shown : All (IsBoxOf l.grid (rect_of l.frame)) l.boxes.items;
}
