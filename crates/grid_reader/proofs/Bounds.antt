-- A cell of a small grid that is no space has a small row and a small column.
use Rattle.std.proofs.Common.{◌≡◌, ℕ, zero, suc, ◌≤◌, inl, inr, [], ◌∷◌, length, get_or, ap, arith}
use Rattle.std.proofs.lemmas.Bool.{cases_lt}
use Rattle.std.proofs.lemmas.List.{get_or_past}
use Rattle.two_d.specs.Places.{at}
use Rattle.two_d.specs.Cells.{Grid, cell}
use Rattle.two_d.proofs.CellsEnd.{within_line, within_lines}
use Rattle.grid_reader.specs.Rows.{IsSmall}

narrow_line : (grid : Grid) (i : ℕ) → IsSmall grid → length (get_or grid i []) ≤ 4096
narrow_line grid i small = elim (cases_lt i (length grid)) [
  | inl here ↦ small.narrow i [] here
  | inr past ↦ (let none = ap length (get_or_past grid i [] past) in omega arith)
]

-- a row, counted with the one before the first, has few columns
pub narrow_row : (grid : Grid) (row : ℕ) → IsSmall grid → length (get_or ([] ∷ grid) row []) ≤ 4096
narrow_row grid zero small = omega arith
narrow_row grid (suc i) small = narrow_line grid i small

pub small_column : (grid : Grid) (row col : ℕ) → IsSmall grid → (cell grid (at row col) ≡ 32 → ⊥) → col ≤ 4096
small_column grid row col small filled = omega (arith, within_line grid row col filled, narrow_row grid row small)

pub small_row : (grid : Grid) (row col : ℕ) → IsSmall grid → (cell grid (at row col) ≡ 32 → ⊥) → row ≤ 262145
small_row grid row col small filled = let few = small.few in omega (arith, within_lines grid row col filled)
