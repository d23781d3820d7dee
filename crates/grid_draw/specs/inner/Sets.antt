-- Sets of cells.
use Rattle.std.specs.Prelude.{◌≡◌, ℕ, ◌+◌, ◌*◌, ◌<◌, Bool, false, slice_index_or, length}
use Rattle.std.specs.Prelude.{◌&&◌, ◌||◌, ◌==◌, nat_lt, nat_le}
use Rattle.grid_draw.specs.declared.cells.Area.{Area}
use Rattle.grid_draw.specs.declared.cells.CellSet.{CellSet}

-- the set has the cell
abbrev pub has : CellSet → ℕ → ℕ → Bool
has set row col = slice_index_or set.marked.items (row * set.columns + col) false

-- the set is of cells in so many rows and columns
pub record IsSized (rows columns : ℕ) (set : CellSet) : Type 0 where
  pub high : set.rows ≡ rows
  pub wide : set.columns ≡ columns
  pub whole : length set.marked.items ≡ rows * columns

-- the cell is one of the row
abbrev pub is_in_row : (row left right : ℕ) → ℕ → ℕ → Bool
is_in_row row left right r c = (r == row) && (nat_le left c && nat_lt c right)

-- the cell is one of the area
abbrev pub is_in : Area → ℕ → ℕ → Bool
is_in area r c =
    (nat_le area.top r && nat_lt r area.bottom) && (nat_le area.left c && nat_lt c area.right)

-- the cell is this one
abbrev pub is_at : (row col : ℕ) → ℕ → ℕ → Bool
is_at row col r c = (r == row) && (c == col)

-- the set has these cells besides
pub record Gains (old new : CellSet) (these : ℕ → ℕ → Bool) : Type 0 where
  pub sized : IsSized old.rows old.columns new
  pub has_both : (r c : ℕ) → r < old.rows → c < old.columns
      → has new r c ≡ (has old r c || these r c)
