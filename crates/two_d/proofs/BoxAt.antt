-- The box at a corner: there is one at most, and whether there is one can be told.
use Rattle.std.proofs.Common.{◌≡◌, ℕ, ◌+◌, ◌<◌, ◌⊎◌, inl, inr, [], ◌∷◌, length, get_or, refl, sym, ap, subst, ◌∙◌, arith}
use Rattle.std.proofs.lemmas.Bool.{cases_eq}
use Rattle.umix_base.specs.declared.place.Place.{Place}
use Rattle.two_d.specs.Places.{at, Rect}
use Rattle.two_d.specs.Cells.{Grid, cell}
use Rattle.two_d.specs.Boxes.{IsBoxCorner, IsBox}
use Rattle.two_d.proofs.CellsEnd.{cell-past_line, cell-past_lines}
use Rattle.two_d.proofs.Decide.{Decided, decided_both, decided_lt, decided_between, end_of_run, same_end}
use Rattle.two_d.proofs.Equal.{equal_rects}
use Rattle.two_d.proofs.LiveCorners.{IsSearchable, decided_within}

pub box_corner_or_not : (grid : Grid) (f : Rect) (p : Place) → Decided (IsBoxCorner grid f p)
box_corner_or_not grid f p = elim (decided_both (decided_both (decided_within f p) (cases_eq (cell grid p) 42)) (decided_both (cases_eq (cell grid (at p.row (p.col + 1))) 61) (cases_eq (cell grid (at (p.row + 1) p.col)) 33))) [
  | inl all ↦ inl (record { within = all.0.0; here = all.0.1; east = all.1.0; south = all.1.1 })
  | inr not_all ↦ inr (λ c. not_all ((c.within, c.here), (c.east, c.south)))
]

-- the only rectangle that can be the box at p: its edges end where the runs of their bytes do
only_box : (grid : Grid) (f : Rect) (p : Place) → (b : Rect) × (at b.top b.left ≡ p) × ((col : ℕ) → b.left < col → col < b.right → cell grid (at b.top col) ≡ 61) × ((row : ℕ) → b.top < row → row < b.bottom → cell grid (at row b.left) ≡ 33) × ((g : Rect) → IsBox grid f p g → g ≡ b)
only_box grid f p =
    let right = end_of_run (λ col. cell grid (at p.row col) ≡ 61) (λ col. cases_eq (cell grid (at p.row col)) 61) (p.col + 1) (length (32 ∷ get_or ([] ∷ grid) p.row []))
    (λ col past is. let e = cell-past_line grid p.row col past in omega arith) in
    let bottom = end_of_run (λ row. cell grid (at row p.col) ≡ 33) (λ row. cases_eq (cell grid (at row p.col)) 33) (p.row + 1) (length ([] ∷ grid))
    (λ row past is. let e = cell-past_lines grid row p.col past in omega arith) in
    let b : Rect = record { top = p.row; left = p.col; bottom = bottom.0; right = right.0 } in (
      b,
      refl,
      (λ col after before. right.2 col (omega arith) before),
      (λ row after before. bottom.2 row (omega arith) before),
      λ g h.
          let top : g.top ≡ p.row = ap (λ q. q.row) h.corner in
          let left : g.left ≡ p.col = ap (λ q. q.col) h.corner in
          let r : g.right ≡ right.0 = same_end (λ col. cell grid (at p.row col) ≡ 61) p.col g.right right.0 (let w = h.wide in omega arith) (omega (arith, right.1))
          (λ col after before. ap (λ row. cell grid (at row col)) (sym top) ∙ h.top col (omega arith) before) (λ col after before. right.2 col (omega arith) before)
          (λ is. let e = ap (λ row. cell grid (at row g.right)) (sym top) ∙ h.top_right in omega arith) right.3 in
          let d : g.bottom ≡ bottom.0 = same_end (λ row. cell grid (at row p.col) ≡ 33) p.row g.bottom bottom.0 (let w = h.high in omega arith) (omega (arith, bottom.1))
          (λ row after before. ap (λ col. cell grid (at row col)) (sym left) ∙ h.left row (omega arith) before) (λ row after before. bottom.2 row (omega arith) before)
          (λ is. let e = ap (λ col. cell grid (at g.bottom col)) (sym left) ∙ h.bottom_left in omega arith) bottom.3 in
          equal_rects g b top left d r,
    )

pub box-one : (grid : Grid) (f : Rect) (p : Place) (b c : Rect) → IsBox grid f p b → IsBox grid f p c → b ≡ c
box-one grid f p b c hb hc = let only = only_box grid f p in only.4 b hb ∙ sym (only.4 c hc)

pub box_or_not : (grid : Grid) (f : Rect) (p : Place) → ((b : Rect) × IsBox grid f p b) ⊎ ((b : Rect) → IsBox grid f p b → ⊥)
box_or_not grid f p =
    let only = only_box grid f p in
    let b = only.0 in
    elim (decided_both (decided_both (decided_both (decided_within f p) (decided_within f (at b.bottom b.right))) (decided_both (decided_lt (b.left + 1) b.right) (decided_lt (b.top + 1) b.bottom)))
    (decided_both (decided_both (cases_eq (cell grid (at b.top b.right)) 42) (decided_both (cases_eq (cell grid (at b.bottom b.left)) 42) (cases_eq (cell grid (at b.bottom b.right)) 42)))
    (decided_both (decided_between (λ col. cell grid (at b.bottom col) ≡ 61) (λ col. cases_eq (cell grid (at b.bottom col)) 61) b.left b.right) (decided_between (λ row. cell grid (at row b.right) ≡ 33) (λ row. cases_eq (cell grid (at row b.right)) 33) b.top b.bottom)))) [
      | inl all ↦ inl (b, record { corner = only.1; within = all.0.0; wide = all.0.1.0; high = all.0.1.1; top = only.2; top_right = all.1.0.0; left = only.3; bottom_left = all.1.0.1.0; bottom = all.1.1.0; bottom_right = all.1.0.1.1; right = all.1.1.1 })
      | inr not_all ↦ inr (λ g h. let its : IsBox grid f p b = subst (IsBox grid f p) (only.4 g h) h in not_all ((its.within, (its.wide, its.high)), ((its.top_right, (its.bottom_left, its.bottom_right)), (its.bottom, its.right))))
    ]

-- the corners of boxes can be searched for
pub boxes_searchable : (grid : Grid) (f : Rect) → IsSearchable (IsBoxCorner grid f) (IsBox grid f)
boxes_searchable grid f = record {
  corner_or_not = box_corner_or_not grid f;
  figure_or_not = box_or_not grid f;
  one = box-one grid f;
  placed = λ p g h. h.corner;
  ordered = λ p g h. (let high = h.high in omega arith, let wide = h.wide in omega arith);
  rows = f.bottom;
  below_rows = λ p c. c.within.above_bottom;
  columns = λ _. f.right;
  below_columns = λ p c. c.within.before_right;
}
