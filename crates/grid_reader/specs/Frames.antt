-- The frames and the boxes that the crate answers, as those of the definitions.
use Rattle.std.specs.Prelude.{◌≡◌, ℕ, ◌+◌, ◌⊎◌, List, length, map, Vec}
use Rattle.std.specs.Global.{Global}
use Rattle.two_d.specs.Places.{at, Rect}
use Rattle.two_d.specs.Cells.{Grid, cell}
use Rattle.two_d.specs.Names.{IsNameByte}
use Rattle.two_d.specs.Frames.{FrameShape, IsDrawn}
use Rattle.grid_reader.specs.declared.frame.Frame.{Frame}

-- the borders of a frame
abbrev pub rect_of : Frame → Rect
rect_of f = record { top = f.top; left = f.left; bottom = f.bottom; right = f.right }

-- the borders of frames
abbrev pub rects_of : Vec Frame Global → List Rect
rects_of frames = map rect_of frames.items

-- a frame as plain data
abbrev pub frame_shape : Frame → FrameShape
frame_shape f =
    record { borders = rect_of f; north = f.north; west = f.west; exits = f.exits.items }

-- one of the grid's frames, with its entries and exits
abbrev pub IsFrameOf : Grid → Frame → Type 0
IsFrameOf grid frame = IsDrawn grid (frame_shape frame)

-- a run of a name's bytes behind the column `left` stops at the column `right`, or at a byte that
-- is none
abbrev pub StopsBefore : Grid → ℕ → ℕ → ℕ → List ℕ → Type 0
StopsBefore grid row left right run =
    (left + 1 + length run ≡ right)
    ⊎ (IsNameByte (cell grid (at row (left + 1 + length run))) → ⊥)
