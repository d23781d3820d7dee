-- Cells outside the lines of a grid are spaces.
use Rattle.std.proofs.Common.{◌≡◌, ℕ, zero, suc, ◌<◌, ◌≤◌, inl, inr, [], ◌∷◌, length, refl, ap, ◌∙◌, get_or}
use Rattle.std.proofs.lemmas.Bool.{cases_lt}
use Rattle.std.proofs.lemmas.List.{get_or_past}
use Rattle.two_d.specs.Places.{at}
use Rattle.two_d.specs.Cells.{Grid, cell}

-- past the end of a line, counted with the place before its first column
pub cell-past_line : (grid : Grid) (row col : ℕ) → length (32 ∷ get_or ([] ∷ grid) row []) ≤ col → cell grid (at row col) ≡ 32
cell-past_line grid row col past = get_or_past (32 ∷ get_or ([] ∷ grid) row []) col 32 past

of_no_line : (col : ℕ) → get_or {A = ℕ} (32 ∷ []) col 32 ≡ 32
of_no_line zero = refl
of_no_line (suc col) = refl

-- under the last line
pub cell-past_lines : (grid : Grid) (row col : ℕ) → length ([] ∷ grid) ≤ row → cell grid (at row col) ≡ 32
cell-past_lines grid row col past =
    ap (λ line. get_or (32 ∷ line) col 32) (get_or_past ([] ∷ grid) row [] past) ∙ of_no_line col

-- a cell that is no space lies in its line, and its line in the grid
pub within_line : (grid : Grid) (row col : ℕ) → (cell grid (at row col) ≡ 32 → ⊥) → col < length (32 ∷ get_or ([] ∷ grid) row [])
within_line grid row col filled = elim (cases_lt col (length (32 ∷ get_or ([] ∷ grid) row []))) [
  | inl here ↦ here
  | inr past ↦ absurd (filled (cell-past_line grid row col past))
]

pub within_lines : (grid : Grid) (row col : ℕ) → (cell grid (at row col) ≡ 32 → ⊥) → row < length ([] ∷ grid)
within_lines grid row col filled = elim (cases_lt row (length ([] ∷ grid))) [
  | inl here ↦ here
  | inr past ↦ absurd (filled (cell-past_lines grid row col past))
]
