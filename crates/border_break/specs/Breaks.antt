-- Where a border breaks.
use Rattle.std.specs.Prelude.{◌≡◌, ℕ, ◌<◌, Option, Some, None}
use Rattle.umix_base.specs.declared.place.Place.{Place}
use Rattle.two_d.specs.Cells.{Grid, cell}
use Rattle.two_d.specs.Frames.{InRow, InColumn}
use Rattle.two_d.specs.Places.{at, IsLeast}
use Rattle.border_break.specs.declared.figure.Figure.{Figure}
use Rattle.border_break.specs.declared.figure.Break.{Break}
use Rattle.border_break.specs.declared.figure.Side.{Side}
use Rattle.border_break.specs.declared.figure.Side.TheVariants.{Top, Left, Bottom, Right}
use Rattle.border_break.specs.Borders.{IsOfTop, IsOfBottom, IsOfSide, lower_corner, upper_corner}

-- from the corner at p eastwards the top goes on up to this column, whose cell isn't of a top
pub record TopEnds (grid : Grid) (f : Figure) (p : Place) (right : ℕ) : Type 0 where
  pub east : p.col < right
  pub goes_on : InRow (IsOfTop f) grid p.row p.col right
  pub ends : IsOfTop f (cell grid (at p.row right)) → ⊥

-- from the corner at p downwards the left side goes on up to this row, whose cell isn't of a side
pub record LeftEnds (grid : Grid) (f : Figure) (p : Place) (bottom : ℕ) : Type 0 where
  pub below : p.row < bottom
  pub goes_on : InColumn (IsOfSide f) grid p.col p.row bottom
  pub ends : IsOfSide f (cell grid (at bottom p.col)) → ⊥

-- the top goes from corner to corner
pub record TopCloses (grid : Grid) (f : Figure) (p : Place) (right : ℕ) : Type 0 where
  pub from : cell grid p ≡ upper_corner f
  pub top : TopEnds grid f p right
  pub to : cell grid (at p.row right) ≡ upper_corner f

-- so do the top and the left side
pub record LeftCloses (grid : Grid) (f : Figure) (p : Place) (right bottom : ℕ) : Type 0 where
  pub before : TopCloses grid f p right
  pub left : LeftEnds grid f p bottom
  pub to : cell grid (at bottom p.col) ≡ lower_corner f

-- so do the top, the left side and the bottom
pub record BottomCloses (grid : Grid) (f : Figure) (p : Place) (right bottom : ℕ) : Type 0 where
  pub before : LeftCloses grid f p right bottom
  pub bottom_is : InRow (IsOfBottom f) grid bottom p.col right
  pub to : cell grid (at bottom right) ≡ lower_corner f

-- a column strictly between two others whose cell isn't of a bottom
pub record BreaksBottom (grid : Grid) (f : Figure) (row left right col : ℕ) : Type 0 where
  pub after : left < col
  pub before : col < right
  pub lacks : IsOfBottom f (cell grid (at row col)) → ⊥

-- a row strictly between two others whose cell isn't of a side
pub record BreaksRight (grid : Grid) (f : Figure) (col top bottom row : ℕ) : Type 0 where
  pub after : top < row
  pub before : row < bottom
  pub lacks : IsOfSide f (cell grid (at row col)) → ⊥

-- a break of a side, at a row and a column
abbrev pub break_at : Side → (row col : ℕ) → Option Break
break_at side row col = Some (record { side = side; place = at row col })

-- Where the border of the figure breaks whose upper left corner is at p: top, left side, bottom and
-- right side are followed in this order, each from its upper or left end, and the cell is the first
-- that isn't what belongs there. There is none where p has no such corner, and where all four close.
pub data IsBreak (grid : Grid) (f : Figure) (p : Place) : Option Break → Type 0 where
  no_corner : (cell grid p ≡ upper_corner f → ⊥) → IsBreak grid f p None
  top : (right : ℕ) → cell grid p ≡ upper_corner f → TopEnds grid f p right →
      (cell grid (at p.row right) ≡ upper_corner f → ⊥) →
      IsBreak grid f p (break_at Top p.row right)
  left : (right bottom : ℕ) → TopCloses grid f p right → LeftEnds grid f p bottom →
      (cell grid (at bottom p.col) ≡ lower_corner f → ⊥) →
      IsBreak grid f p (break_at Left bottom p.col)
  bottom : (right bottom col : ℕ) → LeftCloses grid f p right bottom →
      IsLeast (BreaksBottom grid f bottom p.col right) col →
      IsBreak grid f p (break_at Bottom bottom col)
  last_corner : (right bottom : ℕ) → LeftCloses grid f p right bottom →
      InRow (IsOfBottom f) grid bottom p.col right →
      (cell grid (at bottom right) ≡ lower_corner f → ⊥) →
      IsBreak grid f p (break_at Bottom bottom right)
  right : (right bottom row : ℕ) → BottomCloses grid f p right bottom →
      IsLeast (BreaksRight grid f right p.row bottom) row →
      IsBreak grid f p (break_at Right row right)
  closed : (right bottom : ℕ) → BottomCloses grid f p right bottom →
      InColumn (IsOfSide f) grid right p.row bottom → IsBreak grid f p None
