-- The first gap of a bottom, and of a right side.
use Rattle.std.proofs.Common.{◌<◌, ℕ}
use Rattle.two_d.specs.Cells.{Grid, cell}
use Rattle.two_d.specs.Frames.{InColumn, InRow}
use Rattle.two_d.specs.Places.{IsLeast, at}
use Rattle.border_break.specs.declared.figure.Figure.{Figure}
use Rattle.border_break.specs.Borders.{IsOfBottom, IsOfSide}
use Rattle.border_break.specs.Breaks.{BreaksBottom, BreaksRight}

pub least_column : (grid : Grid) (f : Figure) (row left right col : ℕ) → left < col → col < right →
    InRow (IsOfBottom f) grid row left col → (IsOfBottom f (cell grid (at row col)) → ⊥) →
    IsLeast (BreaksBottom grid f row left right) col
least_column grid f row left right col after before run lacks = record {
  holds = record { after = after; before = before; lacks = lacks };
  none_below = λ j less gap. gap.lacks (run j gap.after less);
}

pub least_row : (grid : Grid) (f : Figure) (col top bottom row : ℕ) → top < row → row < bottom →
    InColumn (IsOfSide f) grid col top row → (IsOfSide f (cell grid (at row col)) → ⊥) →
    IsLeast (BreaksRight grid f col top bottom) row
least_row grid f col top bottom row after before run lacks = record {
  holds = record { after = after; before = before; lacks = lacks };
  none_below = λ j less gap. gap.lacks (run j gap.after less);
}
