-- The boxes that the crate answers, as those of the definitions.
use Rattle.std.specs.Prelude.{◌≡◌, ◌+◌, ◌<◌, ℕ, List, map, Vec}
use Rattle.std.specs.Global.{Global}
use Rattle.two_d.specs.Places.{at, Rect, Within, corner_of}
use Rattle.two_d.specs.Cells.{Grid, cell}
use Rattle.two_d.specs.Boxes.{BoxShape, HasText, IsBox, row_text}
use Rattle.grid_reader.specs.inner.Rects.{rect_shown}
use Rattle.grid_reader.specs.declared.rect.Rect as code
use Rattle.grid_reader.specs.declared.box_frame.BoxFrame.{BoxFrame}

-- the borders of a box
abbrev pub box_rect : BoxFrame → Rect
box_rect b = record { top = b.top; left = b.left; bottom = b.bottom; right = b.right }

-- the borders of boxes
abbrev pub box_rects : Vec BoxFrame Global → List Rect
box_rects boxes = map box_rect boxes.items

-- a box as plain data
abbrev pub box_shape : BoxFrame → BoxShape
box_shape b = record { borders = box_rect b; text = b.text.items }

-- its text is the command text that stands in the grid
abbrev pub HasTextOf : Grid → BoxFrame → Type 0
HasTextOf grid b = HasText grid (box_shape b)

-- one of the boxes of a frame, with its command text
pub record IsBoxOf (grid : Grid) (f : Rect) (b : BoxFrame) : Type 0 where
  pub borders : IsBox grid f (corner_of (box_rect b)) (box_rect b)
  pub text : HasTextOf grid b

-- edges have a row and a column within, and lie within a frame
pub record Fits (f b : Rect) : Type 0 where
  pub corner : Within f (corner_of b)
  pub end : Within f (at b.bottom b.right)
  pub wide : b.left + 1 < b.right
  pub high : b.top + 1 < b.bottom

-- the corners behind the first
pub record HasCorners (grid : Grid) (b : Rect) : Type 0 where
  pub top_right : cell grid (at b.top b.right) ≡ 42
  pub bottom_left : cell grid (at b.bottom b.left) ≡ 42
  pub bottom_right : cell grid (at b.bottom b.right) ≡ 42

-- the inner cells of a rectangle in one row
abbrev pub inner_row : Grid → code.Rect → ℕ → List ℕ
inner_row grid rect row = row_text grid (rect_shown rect) row
