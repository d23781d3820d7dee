use Rattle.std.proofs.Common.{◌≡◌, map, take}
use Rattle.std.specs.List.{All}
use Rattle.grid_reader.specs.Frames.{rect_of, IsFrameOf}
use Rattle.grid_reader.specs.inner.Rects.{plains}
use Rattle.grid_reader.proofs.frame.frames.Given as goal

abbrev pub invariant-loop-rect : goal.invariant-loop-rect
invariant-loop-rect l = record {
  same : map rect_of l.frames.items ≡ plains (take l.rect-index l.rect-items);
  shown : All (IsFrameOf l.grid) l.frames.items;
}
