-- What a grid's frame and its boxes are is what the code asks of a drawing that is lent.
use Rattle.std.proofs.Common.{◌≡◌, ℕ, zero, suc, ◌≤◌, ◌↔◌, List, [], ◌∷◌, map, Option, Result, Ok, Some, refl, ap, sym, ◌∙◌, arith}
use Rattle.std.specs.List.{Contains, slice_get}
use Rattle.umix_base.specs.declared.place.Place.{Place}
use Rattle.two_d.specs.Places.{at, Rect, corner_of}
use Rattle.two_d.specs.Reading.{RefusedAt, refused_at, none}
use Rattle.two_d.specs.Cells.{Grid, cell}
use Rattle.two_d.specs.Boxes.{boxes_of}
use Rattle.two_d.specs.Frames.{IsFrame, IsSecond, one_entry_a_side, north_entries, west_entries}
use Rattle.two_d.specs.Ports.{Drawing, IsNorthEntry, IsWestEntry}
use Rattle.two_d.proofs.InOrder.{then_ok}
use Rattle.grid_reader.specs.Boxes.{box_rect}
use Rattle.grid_reader.specs.Frames.{rect_of, IsFrameOf}
use Rattle.grid_reader.specs.Rows.{IsSmall}
use Rattle.grid_reader.proofs.Bounds.{small_row, small_column}
use Rattle.wire_trace.specs.declared.sheet.Sheet.{Sheet}
use Rattle.wire_trace.specs.inner.Sheets.{drawing_in, IsLaidOut, IsSheet}
use Rattle.wire_trace.proofs.Laid.{boxes_fit, boxes_apart}

filled_row : (grid : Grid) (row col : ℕ) → (cell grid (at row col) ≡ 32 → ⊥) → 1 ≤ row
filled_row grid zero zero filled = absurd (filled refl)
filled_row grid zero (suc col) filled = absurd (filled refl)
filled_row grid (suc row) col filled = omega arith

filled_column : (grid : Grid) (row col : ℕ) → (cell grid (at row col) ≡ 32 → ⊥) → 1 ≤ col
filled_column grid row zero filled = absurd (filled refl)
filled_column grid row (suc col) filled = omega arith

pub laid_out : (grid : Grid) (f : Rect) (n : ℕ) (boxes : List Rect) → IsSmall grid → IsFrame grid (corner_of f) f → boxes_of grid f (Ok boxes) → IsLaidOut (record { grid = grid; frame = f; name_length = n; boxes = boxes })
laid_out grid f n boxes small frame read = record {
  top = filled_row grid f.top f.right (λ e. let c : cell grid (at f.top f.right) ≡ 44 = frame.top_right in omega arith);
  left = filled_column grid f.bottom f.left (λ e. let c : cell grid (at f.bottom f.left) ≡ 39 = frame.bottom_left in omega arith);
  wide = frame.wide;
  high = frame.high;
  narrow = small_column grid f.top f.right small (λ e. let c : cell grid (at f.top f.right) ≡ 44 = frame.top_right in omega arith);
  few = small_row grid f.bottom f.left small (λ e. let c : cell grid (at f.bottom f.left) ≡ 39 = frame.bottom_left in omega arith);
  fit = boxes_fit grid f boxes read;
  apart = boxes_apart grid f boxes read;
}

-- a list without a second one has only its first
first_only : (xs : List ℕ) (x : ℕ) → ((n : ℕ) → IsSecond xs n → ⊥) → Contains xs x ↔ (slice_get xs 0 ≡ Some x)
first_only [] x one = ((λ c. absurd (omega (arith, c.1))), (λ e. absurd (cc)))
first_only (y ∷ []) x one = (there, (λ e. (0, omega arith, cc)))
  where
    there : Contains (y ∷ []) x → slice_get (y ∷ []) 0 ≡ Some x
    there (zero, lt, is) = ap (λ n. Some n) is
    there (suc k, lt, is) = absurd (omega arith)
first_only (y ∷ z ∷ zs) x one = absurd (one z refl)

none_is : {F A : Type 0} (f : A → F) (P : A → Type 0) (r : Result (Unit {0}) F) → r ≡ Ok tt → RefusedAt f P r → (x : A) → P x → ⊥
none_is f P _ is (refused_at x p) = absurd (cc)
none_is f P _ is (none isnt) = isnt

pub north_one : (m : Drawing) (north : Option ℕ) → one_entry_a_side m.grid m.frame (Ok tt) → north ≡ slice_get (north_entries m.grid m.frame) 0 → (p : Place) → IsNorthEntry m p ↔ ((p.row ≡ m.frame.top) × (north ≡ Some p.col))
north_one m north t is p =
    let (u, here, rest) = then_ok _ _ tt t in
    let both = first_only (north_entries m.grid m.frame) p.col (none_is _ (IsSecond (north_entries m.grid m.frame)) (Ok u) refl here) in (
      (λ entry. (entry.0, is ∙ both.0 entry.1)),
      (λ h. (h.0, both.1 (sym is ∙ h.1))),
    )

pub west_one : (m : Drawing) (west : Option ℕ) → one_entry_a_side m.grid m.frame (Ok tt) → west ≡ slice_get (west_entries m.grid m.frame) 0 → (p : Place) → IsWestEntry m p ↔ ((p.col ≡ m.frame.left) × (west ≡ Some p.row))
west_one m west t is p =
    let (u, here, rest) = then_ok _ _ tt t in
    let both = first_only (west_entries m.grid m.frame) p.row (none_is _ (IsSecond (west_entries m.grid m.frame)) (Ok tt) refl rest) in (
      (λ entry. (entry.0, is ∙ both.0 entry.1)),
      (λ h. (h.0, both.1 (sym is ∙ h.1))),
    )

-- a module of a grid is lent with its frame, its name and its boxes
pub is_sheet : (s : Sheet) → IsSmall s.grid.now → IsFrameOf s.grid.now s.frame.now → one_entry_a_side s.grid.now (rect_of s.frame.now) (Ok tt) → boxes_of s.grid.now (rect_of s.frame.now) (Ok (map box_rect s.boxes.now)) → IsSheet s
is_sheet s small frame one boxes = record {
  laid = laid_out s.grid.now (rect_of s.frame.now) s.name (map box_rect s.boxes.now) small frame.borders boxes;
  north = north_one (drawing_in s) s.frame.now.north one frame.north;
  west = west_one (drawing_in s) s.frame.now.west one frame.west;
  exits = frame.exits;
}
