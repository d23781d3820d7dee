-- A cell of a border has a small row and a small column.
use Rattle.std.proofs.Common.{◌≡◌, ◌≤◌, ℕ, inl, inr, arith}
use Rattle.umix_base.specs.declared.place.Place.{Place}
use Rattle.two_d.specs.Cells.{Grid, cell}
use Rattle.two_d.specs.Places.{at}
use Rattle.grid_reader.specs.Rows.{IsSmall}
use Rattle.grid_reader.proofs.Bounds as bounds
use Rattle.border_break.specs.declared.figure.Figure.{Figure}
use Rattle.border_break.specs.declared.figure.Figure.TheVariants.{Frame, Box}
use Rattle.border_break.specs.Borders.{IsOfSide, IsOfTop, upper_corner}

corner_shows : (f : Figure) (b : ℕ) → b ≡ upper_corner f → b ≡ 32 → ⊥
corner_shows Frame b is blank = omega (arith, is, blank)
corner_shows Box b is blank = omega (arith, is, blank)

top_shows : (f : Figure) (b : ℕ) → IsOfTop f b → b ≡ 32 → ⊥
top_shows Frame b (inl is) blank = omega (arith, is, blank)
top_shows Frame b (inr is) blank = omega (arith, is, blank)
top_shows Box b is blank = omega (arith, is, blank)

side_shows : (f : Figure) (b : ℕ) → IsOfSide f b → b ≡ 32 → ⊥
side_shows Frame b (inl is) blank = omega (arith, is, blank)
side_shows Frame b (inr is) blank = omega (arith, is, blank)
side_shows Box b is blank = omega (arith, is, blank)

pub corner_column : (grid : Grid) (f : Figure) (p : Place) → IsSmall grid →
    cell grid p ≡ upper_corner f → p.col ≤ 4096
corner_column grid f p small is =
    bounds.small_column grid p.row p.col small (corner_shows f (cell grid p) is)

pub corner_row : (grid : Grid) (f : Figure) (p : Place) → IsSmall grid →
    cell grid p ≡ upper_corner f → p.row ≤ 262145
corner_row grid f p small is =
    bounds.small_row grid p.row p.col small (corner_shows f (cell grid p) is)

pub top_column : (grid : Grid) (f : Figure) (row col : ℕ) → IsSmall grid →
    IsOfTop f (cell grid (at row col)) → col ≤ 4096
top_column grid f row col small is =
    bounds.small_column grid row col small (top_shows f (cell grid (at row col)) is)

pub side_row : (grid : Grid) (f : Figure) (row col : ℕ) → IsSmall grid →
    IsOfSide f (cell grid (at row col)) → row ≤ 262145
side_row grid f row col small is =
    bounds.small_row grid row col small (side_shows f (cell grid (at row col)) is)
