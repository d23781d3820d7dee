-- Rectangles no two of which share a cell have no more cells than what they lie in.
use Rattle.std.specs.Prelude.{◌≡◌, ◌⊎◌, ◌+◌, ◌-◌, ◌*◌, ◌<◌, ◌≤◌, ℕ, List, slice_get, Some}
use Rattle.std.proofs.Common.{arith, ap, ◌∙◌, inl, inr}
use Rattle.two_d.specs.Places.{Rect, at, Covers, ShareACell}
use Rattle.module_table.proofs.Sums.{total, added, area, area_le, added_areas, added_le, added_one, between, between_cases, total_between, total_times, total_scaled, total_same}

-- how many cells a rectangle has
abbrev pub cells : Rect → ℕ
cells f = (f.bottom + 1 - f.top) * (f.right + 1 - f.left)

-- 1 for a cell of the rectangle
abbrev pub covered : Rect → ℕ → ℕ → ℕ
covered f r c = between f.top f.bottom r * between f.left f.right c

pub covered_cases : (f : Rect) (r c : ℕ) → (Covers f (at r c) × (covered f r c ≡ 1)) ⊎ ((Covers f (at r c) → ⊥) × (covered f r c ≡ 0))
covered_cases f r c = elim (between_cases f.top f.bottom r) [
  | inl (top, bottom, row) ↦ elim (between_cases f.left f.right c) [
    | inl (left, right, col) ↦ inl (record { from_top = top; to_bottom = bottom; from_left = left; to_right = right }, ap (λ n. n * between f.left f.right c) row ∙ (ap (λ n. 1 * n) col))
    | inr (out, col) ↦ inr (
      (λ covers. let left = covers.from_left in let right = covers.to_right in elim out [ inl low ↦ omega arith | inr high ↦ omega arith ]),
      ap (λ n. between f.top f.bottom r * n) col ∙ (omega arith),
    )
  ]
  | inr (out, row) ↦ inr (
    (λ covers. let top = covers.from_top in let bottom = covers.to_bottom in elim out [ inl low ↦ omega arith | inr high ↦ omega arith ]),
    ap (λ n. n * between f.left f.right c) row ∙ (omega arith),
  )
]

pub cells_area : (rows columns : ℕ) (f : Rect) → f.bottom < rows → f.right < columns → area rows columns (covered f) ≡ cells f
cells_area rows columns f low right =
    let high : total rows (between f.top f.bottom) ≡ f.bottom + 1 - f.top = (let e = total_between f.top f.bottom rows in omega arith) in
    let wide : total columns (between f.left f.right) ≡ f.right + 1 - f.left = (let e = total_between f.left f.right columns in omega arith) in
    total_same rows (λ r. total columns (covered f r)) (λ r. between f.top f.bottom r * total columns (between f.left f.right)) (λ r. total_scaled columns (between f.top f.bottom r) (between f.left f.right))
    ∙ (total_times rows (total columns (between f.left f.right)) (between f.top f.bottom) ∙ (ap (λ n. n * total columns (between f.left f.right)) high ∙ ap (λ n. (f.bottom + 1 - f.top) * n) wide))

-- rectangles that lie apart, within rows and columns
pub record ArePacked (rows columns : ℕ) (fs : List Rect) : Type 0 where
  pub low : (i : ℕ) (f : Rect) → slice_get fs i ≡ Some f → f.bottom < rows
  pub right : (i : ℕ) (f : Rect) → slice_get fs i ≡ Some f → f.right < columns
  pub apart : (i j : ℕ) (f g : Rect) → slice_get fs i ≡ Some f → slice_get fs j ≡ Some g → ShareACell f g → i ≡ j

pub packed : (rows columns : ℕ) (fs : List Rect) (room : ℕ → ℕ → ℕ) → ArePacked rows columns fs
    → ((i : ℕ) (f : Rect) (r c : ℕ) → slice_get fs i ≡ Some f → Covers f (at r c) → 1 ≤ room r c) → added cells fs ≤ area rows columns room
packed rows columns fs room are fits =
    let each = added_le cells (λ f. area rows columns (covered f)) fs (λ i f at_f. let e = cells_area rows columns f (are.low i f at_f) (are.right i f at_f) in omega arith) in
    let all = added_areas rows columns covered fs in
    let most = area_le rows columns (λ r c. added (λ f. covered f r c) fs) room (λ r c. added_one (λ f. covered f r c) (room r c) fs (most_room r c) (one r c)) in
    omega arith
  where
    most_room : (r c i : ℕ) (f : Rect) → slice_get fs i ≡ Some f → covered f r c ≤ room r c
    most_room r c i f at_f = elim (covered_cases f r c) [
      | inl (covers, is) ↦ (let room_there = fits i f r c at_f covers in omega arith)
      | inr (bare, is) ↦ omega arith
    ]

    covers_it : (r c : ℕ) (f : Rect) → 0 < covered f r c → Covers f (at r c)
    covers_it r c f some = elim (covered_cases f r c) [ inl (covers, is) ↦ covers | inr (bare, is) ↦ absurd (omega arith) ]

    one : (r c i j : ℕ) (f g : Rect) → slice_get fs i ≡ Some f → slice_get fs j ≡ Some g → 0 < covered f r c → 0 < covered g r c → i ≡ j
    one r c i j f g at_f at_g some other = are.apart i j f g at_f at_g (at r c, covers_it r c f some, covers_it r c g other)
