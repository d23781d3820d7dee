-- The frame at a corner: there is one at most, and whether there is one can be told.
use Rattle.std.proofs.Common.{◌≡◌, ℕ, ◌+◌, ◌<◌, ◌⊎◌, inl, inr, [], ◌∷◌, length, get_or, refl, sym, ap, subst, ◌∙◌, arith}
use Rattle.std.proofs.lemmas.Bool.{cases_eq}
use Rattle.umix_base.specs.declared.place.Place.{Place}
use Rattle.two_d.specs.Places.{at, Rect}
use Rattle.two_d.specs.Cells.{Grid, cell}
use Rattle.two_d.specs.Frames.{IsTopByte, IsSideByte, IsCorner, IsFrame}
use Rattle.two_d.proofs.CellsEnd.{cell-past_line, cell-past_lines, within_line, within_lines}
use Rattle.two_d.proofs.Decide.{Decided, decided_both, decided_either, decided_between, end_of_run, same_end}
use Rattle.two_d.proofs.Equal.{equal_rects}
use Rattle.two_d.proofs.LiveCorners.{IsSearchable}

decided_top_byte : (b : ℕ) → Decided (IsTopByte b)
decided_top_byte b = decided_either (cases_eq b 46) (cases_eq b 124)

decided_side_byte : (b : ℕ) → Decided (IsSideByte b)
decided_side_byte b = decided_either (cases_eq b 58) (cases_eq b 45)

not_top_byte : (b c : ℕ) → b ≡ c → (c ≡ 46 → ⊥) → (c ≡ 124 → ⊥) → IsTopByte b → ⊥
not_top_byte b c e ne nf (inl is) = omega arith
not_top_byte b c e ne nf (inr is) = omega arith

not_side_byte : (b c : ℕ) → b ≡ c → (c ≡ 58 → ⊥) → (c ≡ 45 → ⊥) → IsSideByte b → ⊥
not_side_byte b c e ne nf (inl is) = omega arith
not_side_byte b c e ne nf (inr is) = omega arith

pub corner_or_not : (grid : Grid) (p : Place) → Decided (IsCorner grid p)
corner_or_not grid p = elim (decided_both (cases_eq (cell grid p) 44) (decided_both (decided_top_byte (cell grid (at p.row (p.col + 1)))) (decided_side_byte (cell grid (at (p.row + 1) p.col))))) [
  | inl all ↦ inl (record { here = all.0; east = all.1.0; south = all.1.1 })
  | inr not_all ↦ inr (λ c. not_all (c.here, (c.east, c.south)))
]

-- the only rectangle that can be the frame at p: its borders end where the runs of their bytes do
only_frame : (grid : Grid) (p : Place) → (f : Rect) × (at f.top f.left ≡ p) × (f.left < f.right) × (f.top < f.bottom) × ((col : ℕ) → f.left < col → col < f.right → IsTopByte (cell grid (at f.top col))) × ((row : ℕ) → f.top < row → row < f.bottom → IsSideByte (cell grid (at row f.left)))
    × ((g : Rect) → IsFrame grid p g → g ≡ f)
only_frame grid p =
    let right = end_of_run (λ col. IsTopByte (cell grid (at p.row col))) (λ col. decided_top_byte (cell grid (at p.row col))) (p.col + 1) (length (32 ∷ get_or ([] ∷ grid) p.row []))
    (λ col past. not_top_byte (cell grid (at p.row col)) 32 (cell-past_line grid p.row col past) (λ e. omega arith) (λ e. omega arith)) in
    let bottom = end_of_run (λ row. IsSideByte (cell grid (at row p.col))) (λ row. decided_side_byte (cell grid (at row p.col))) (p.row + 1) (length ([] ∷ grid))
    (λ row past. not_side_byte (cell grid (at row p.col)) 32 (cell-past_lines grid row p.col past) (λ e. omega arith) (λ e. omega arith)) in
    let f : Rect = record { top = p.row; left = p.col; bottom = bottom.0; right = right.0 } in (
      f,
      refl,
      omega (arith, right.1),
      omega (arith, bottom.1),
      (λ col after before. right.2 col (omega arith) before),
      (λ row after before. bottom.2 row (omega arith) before),
      λ g h.
          let top : g.top ≡ p.row = ap (λ q. q.row) h.corner in
          let left : g.left ≡ p.col = ap (λ q. q.col) h.corner in
          let r : g.right ≡ right.0 = same_end (λ col. IsTopByte (cell grid (at p.row col))) p.col g.right right.0 (let w = h.wide in omega arith) (omega (arith, right.1))
          (λ col after before. subst (λ row. IsTopByte (cell grid (at row col))) top (h.top col (omega arith) before)) (λ col after before. right.2 col (omega arith) before)
          (not_top_byte (cell grid (at p.row g.right)) 44 (ap (λ row. cell grid (at row g.right)) (sym top) ∙ h.top_right) (λ e. omega arith) (λ e. omega arith)) right.3 in
          let b : g.bottom ≡ bottom.0 = same_end (λ row. IsSideByte (cell grid (at row p.col))) p.row g.bottom bottom.0 (let w = h.high in omega arith) (omega (arith, bottom.1))
          (λ row after before. subst (λ col. IsSideByte (cell grid (at row col))) left (h.left row (omega arith) before)) (λ row after before. bottom.2 row (omega arith) before)
          (not_side_byte (cell grid (at g.bottom p.col)) 39 (ap (λ col. cell grid (at g.bottom col)) (sym left) ∙ h.bottom_left) (λ e. omega arith) (λ e. omega arith)) bottom.3 in
          equal_rects g f top left b r,
    )

pub frame-one : (grid : Grid) (p : Place) (f g : Rect) → IsFrame grid p f → IsFrame grid p g → f ≡ g
frame-one grid p f g hf hg = let only = only_frame grid p in only.6 f hf ∙ sym (only.6 g hg)

pub frame_or_not : (grid : Grid) (p : Place) → ((f : Rect) × IsFrame grid p f) ⊎ ((f : Rect) → IsFrame grid p f → ⊥)
frame_or_not grid p =
    let only = only_frame grid p in
    let f = only.0 in
    elim (decided_both (decided_both (cases_eq (cell grid (at f.top f.right)) 44) (decided_both (cases_eq (cell grid (at f.bottom f.left)) 39) (cases_eq (cell grid (at f.bottom f.right)) 39)))
    (decided_both (decided_between (λ col. cell grid (at f.bottom col) ≡ 46) (λ col. cases_eq (cell grid (at f.bottom col)) 46) f.left f.right) (decided_between (λ row. IsSideByte (cell grid (at row f.right))) (λ row. decided_side_byte (cell grid (at row f.right))) f.top f.bottom))) [
      | inl all ↦ inl (f, record { corner = only.1; wide = only.2; high = only.3; top = only.4; top_right = all.0.0; left = only.5; bottom_left = all.0.1.0; bottom = all.1.0; bottom_right = all.0.1.1; right = all.1.1 })
      | inr not_all ↦ inr (λ g h. let its : IsFrame grid p f = subst (IsFrame grid p) (only.6 g h) h in not_all ((its.top_right, (its.bottom_left, its.bottom_right)), (its.bottom, its.right)))
    ]

-- the corners of frames can be searched for
pub frames_searchable : (grid : Grid) → IsSearchable (IsCorner grid) (IsFrame grid)
frames_searchable grid = record {
  corner_or_not = corner_or_not grid;
  figure_or_not = frame_or_not grid;
  one = frame-one grid;
  placed = λ p g h. h.corner;
  ordered = λ p g h. (let high = h.high in omega arith, let wide = h.wide in omega arith);
  rows = length ([] ∷ grid);
  below_rows = λ p c. within_lines grid p.row p.col (λ space. let e = c.here in omega arith);
  columns = λ row. length (32 ∷ get_or ([] ∷ grid) row []);
  below_columns = λ p c. within_line grid p.row p.col (λ space. let e = c.here in omega arith);
}
