-- A name ends before the right border.
use Rattle.std.proofs.Common.{◌≡◌, ℕ, ◌+◌, ◌<◌, ◌≤◌, ◌⊎◌, ap, inl, inr, arith}
use Rattle.std.proofs.lemmas.Bool.{cases_order}
use Rattle.two_d.specs.Places.{at, Rect, corner_of}
use Rattle.two_d.specs.Cells.{Grid, cell}
use Rattle.two_d.specs.Frames.{IsFrame, IsSideByte}
use Rattle.two_d.specs.Names.{IsNameByte}

-- a name's byte is at least the digit 0, and no colon
name_byte_is : (b : ℕ) → IsNameByte b → (48 ≤ b) × (b ≡ 58 → ⊥)
name_byte_is b (inl lower) = let low = lower.0 in (omega arith, λ colon. omega arith)
name_byte_is b (inr (inl digit)) = let low = digit.0 in let high = digit.1 in (omega arith, λ colon. omega arith)
name_byte_is b (inr (inr line)) = (omega arith, λ colon. omega arith)

side_byte_is : (b : ℕ) → IsSideByte b → (b ≡ 58) ⊎ (b < 48)
side_byte_is b (inl colon) = inl colon
side_byte_is b (inr dash) = inr (omega arith)

-- the right border ends a run
pub border_ends : (grid : Grid) (f : Rect) → IsFrame grid (corner_of f) f → IsNameByte (cell grid (at (f.top + 1) f.right)) → ⊥
border_ends grid f h byte =
    let high = h.high in
    let is = name_byte_is (cell grid (at (f.top + 1) f.right)) byte in
    elim (cases_order (f.top + 1) f.bottom) [
      | inl last ↦ (let corner = h.bottom_right in let same = ap (λ row. cell grid (at row f.right)) last in omega (arith, is.0))
      | inr (inl within) ↦ elim (side_byte_is (cell grid (at (f.top + 1) f.right)) (h.right (f.top + 1) (omega arith) within)) [ inl colon ↦ is.1 colon | inr low ↦ omega (arith, is.0) ]
      | inr (inr past) ↦ omega arith
    ]
