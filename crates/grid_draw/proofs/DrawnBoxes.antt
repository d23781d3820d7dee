-- The boxes of a drawing are read, with their commands.
use Rattle.std.specs.Prelude.{◌≡◌, ◌+◌, ◌-◌, ◌<◌, ◌≤◌, ◌⊎◌, ℕ, zero, suc, Bool, true, false}
use Rattle.std.specs.Prelude.{if◌then◌else◌}
use Rattle.std.specs.Prelude.{List, [], ◌∷◌, length, map, slice_get, slice_index, Some, Ok}
use Rattle.std.specs.List.{range_with_len, join_with_byte}
use Rattle.std.proofs.Common.{arith, refl, sym, ap, subst, ◌∙◌, inl, inr, get_or}
use Rattle.std.proofs.lemmas.List.{same_lists, get_or_default}
use Rattle.std.proofs.lemmas.List.FromFn.{length-map-range_with_len, get_or-map-range_with_len}
use Rattle.std.proofs.lemmas.Option.{same_Some, slice_get_within, slice_get-get_or}
use Rattle.std.proofs.lemmas.Option.{get_or_from_slice_get}
use Rattle.umix_base.specs.declared.place.Place.{Place}
use Rattle.two_d.specs.Boxes.{IsBoxCorner, IsBox, box_kind, command_text, row_text}
use Rattle.two_d.specs.Canonical.{canonical}
use Rattle.two_d.specs.Cells.{Grid, cell}
use Rattle.two_d.specs.Grammar.{IsTextOf}
use Rattle.two_d.specs.Names.{IsNameByte}
use Rattle.two_d.specs.Places.{at, Rect, corner_of, inner_rows}
use Rattle.two_d.specs.Program.{CommandOf, command}
use Rattle.two_d.specs.Programs.{BoxForm, ModuleForm}
use Rattle.two_d.specs.Reading.{goes_on, gave, each}
use Rattle.two_d.specs.Sound.{IsSound}
use Rattle.two_d.specs.Trees.{IsWithin}
use Rattle.two_d.proofs.Equal.{equal_places}
use Rattle.two_d.proofs.Shown.{canonical_text}
use Rattle.grid_picture.specs.Courses.{wire_byte}
use Rattle.grid_picture.proofs.Figured.{AreFigures}
use Rattle.grid_picture.proofs.Moved.{moved}
use Rattle.grid_draw.specs.Layout.{width, reach, columns, box_row, courses, is_side, box_byte}
use Rattle.grid_draw.specs.Layout.{inner_byte}
use Rattle.grid_draw.proofs.BoxBytes.{box_rows, edge_byte, text_byte, at_side, off_side}
use Rattle.grid_draw.proofs.Framed.{sheet, place_of, frame_of, cell_is, inner_cell, back}
use Rattle.grid_draw.proofs.InnerCells.{Inner, of_name, n_mark, w_mark, of_box, of_wires, corner}
use Rattle.grid_draw.proofs.InnerCells.{edge, side, letter}
use Rattle.grid_draw.proofs.InnerCells.{inner, no_wire, sign_not}
use Rattle.grid_draw.proofs.LegEnds.{IsInner}
use Rattle.grid_draw.proofs.PlainTexts.{text_some}
use Rattle.grid_draw.proofs.Regions.{inside, box_reaches, box_right, box_gap}

-- box b, where the drawing begins in row t
abbrev pub rect_of : ℕ → ℕ → BoxForm → Rect
rect_of t b one = record {
  top = t + box_row b 3;
  left = 5;
  bottom = t + box_row b 5;
  right = 6 + width one;
}

-- the boxes, of which the first is box b
abbrev pub rects : ℕ → ℕ → List BoxForm → List Rect
rects t b [] = []
rects t b (one ∷ more) = rect_of t b one ∷ rects t (suc b) more

-- a box stands in the list of rectangles at its number
rect_from : (t b : ℕ) (ones : List BoxForm) (k n : ℕ) (one : BoxForm) → slice_get ones k ≡ Some one
    → n ≡ b + k → slice_get (rects t b ones) k ≡ Some (rect_of t n one)
rect_from t b [] k n one at_k e = absurd (cc)
rect_from t b (first ∷ more) zero n one at_k e =
    let number : b ≡ n = omega arith in
    ap (λ i. Some (rect_of t i first)) number ∙ ap (λ (z : BoxForm). Some (rect_of t n z))
    (same_Some first one at_k)
rect_from t b (first ∷ more) (suc k) n one at_k e =
    rect_from t (suc b) more k n one at_k (omega arith)

-- each rectangle of the list is of the box with its number
from_rect : (t b : ℕ) (ones : List BoxForm) (k n : ℕ) (r : Rect)
    → slice_get (rects t b ones) k ≡ Some r → n ≡ b + k → (one : BoxForm)
    × (slice_get ones k ≡ Some one) × (rect_of t n one ≡ r)
from_rect t b [] k n r at_k e = absurd (cc)
from_rect t b (first ∷ more) zero n r at_k e =
    let number : n ≡ b = omega arith in
    (first, refl, ap (λ i. rect_of t i first) number ∙ same_Some (rect_of t b first) r at_k)
from_rect t b (first ∷ more) (suc k) n r at_k e = from_rect t (suc b) more k n r at_k (omega arith)

-- the boxes of a module
abbrev pub boxes_of : ModuleForm → List (List ℕ) → List Rect
boxes_of m above = rects (length above + 1) 0 m.boxes

-- the rectangle of a box of the module
pub rect_there : (m : ModuleForm) (above : List (List ℕ)) (b : ℕ) (one : BoxForm)
    → slice_get m.boxes b ≡ Some one → slice_get (boxes_of m above) b ≡ Some
    (rect_of (length above + 1) b one)
rect_there m above b one at_b = rect_from (length above + 1) 0 m.boxes b b one at_b (omega arith)

-- the box of a rectangle
pub box_there : (m : ModuleForm) (above : List (List ℕ)) (b : ℕ) (r : Rect)
    → slice_get (boxes_of m above) b ≡ Some r → (one : BoxForm) × (slice_get m.boxes b ≡ Some one)
    × (rect_of (length above + 1) b one ≡ r)
box_there m above b r at_b = from_rect (length above + 1) 0 m.boxes b b r at_b (omega arith)

module _ (m : ModuleForm) (sound : IsSound m) (above below : List (List ℕ)) where
  -- the grid
  abbrev grid : Grid
  grid = sheet m above below

  -- the frame of the module
  abbrev f : Rect
  f = frame_of m above

  -- a cell in the rows of a box
  pub box_cell : (row col b q c : ℕ) (one : BoxForm) → slice_get m.boxes b ≡ Some one → q < 8
      → row ≡ length above + 1 + box_row b q → col ≡ 1 + c → 0 < c → c ≤ columns m
      → cell (sheet m above below) (at row col) ≡ box_byte one q c
      (wire_byte (courses m) (at (box_row b q) c))
  box_cell row col b q c one at_b lt at_row at_col pos le =
      let there = slice_get_within m.boxes b one at_b in
      cell_is m sound above below row col (box_row b q) c at_row at_col (omega arith) (omega arith)
      ∙ (inside m (box_row b q) c (omega arith) (omega arith) pos le ∙ box_rows m b q c one at_b lt)

  -- what a true test picks
  if_true : (b : Bool) (u v : ℕ) → b ≡ true → (if b then u else v) ≡ u
  if_true true u v e = refl
  if_true false u v e = absurd (cc)

  -- what a false test picks
  if_false : (b : Bool) (u v : ℕ) → b ≡ false → (if b then u else v) ≡ v
  if_false true u v e = absurd (cc)
  if_false false u v e = refl

  module _ (b : ℕ) (one : BoxForm) (at_b : slice_get m.boxes b ≡ Some one) where
    -- the box lies within what the layout reaches
    reaches : 5 + width one ≤ reach m
    reaches = box_reaches (length m.name) b m.boxes one at_b

    -- its number is one of a box
    there : b < length m.boxes
    there = slice_get_within m.boxes b one at_b

    -- a cell of the upper or the lower side
    edge_cell : (row col q : ℕ) → (q ≡ 3) ⊎ (q ≡ 5) → q < 8 → row ≡ length above + 1 + box_row b q
        → 5 < col → col < 6 + width one → cell grid (at row col) ≡ 61
    edge_cell row col q which lt at_row after before =
        let far = reaches in
        box_cell row col b q (col - 1) one at_b lt at_row (omega arith) (omega arith) (omega arith)
        ∙ (edge_byte one (col - 1) _ q which (omega arith) (omega arith)
        ∙ if_false (is_side one (col - 1)) 42 61
        (off_side one (col - 1) 0 (omega arith) (omega arith)))

    -- a corner
    star_cell : (row col q c : ℕ) → (q ≡ 3) ⊎ (q ≡ 5) → q < 8 → row ≡ length above + 1 + box_row b q
        → col ≡ 1 + c → (c ≡ 4) ⊎ (c ≡ 5 + width one) → 4 ≤ c → c ≤ 5 + width one
        → cell grid (at row col) ≡ 42
    star_cell row col q c which lt at_row at_col sides from to =
        let far = reaches in
        box_cell row col b q c one at_b lt at_row at_col (omega arith) (omega arith)
        ∙ (edge_byte one c _ q which from to ∙ if_true (is_side one c) 42 61
        (at_side one c 0 sides))

    -- a cell of the left or the right side
    side_cell : (row col c : ℕ) → row ≡ length above + 1 + box_row b 4 → col ≡ 1 + c → (c ≡ 4)
        ⊎ (c ≡ 5 + width one) → 4 ≤ c → c ≤ 5 + width one → cell grid (at row col) ≡ 33
    side_cell row col c at_row at_col sides from to =
        let far = reaches in
        box_cell row col b 4 c one at_b (omega arith) at_row at_col (omega arith) (omega arith)
        ∙ (text_byte one c _ from to ∙ if_true (is_side one c) 33 _ (at_side one c 0 sides))

    -- a cell of the text
    text_cell : (row i : ℕ) → row ≡ length above + 1 + box_row b 4 → i < width one
        → cell grid (at row (6 + i)) ≡ slice_index (canonical one.command) i
    text_cell row i at_row lt =
        let far = reaches in
        let index : 5 + i - 5 ≡ i = omega arith in
        box_cell row (6 + i) b 4 (5 + i) one at_b (omega arith) at_row (omega arith) (omega arith)
        (omega arith)
        ∙ (text_byte one (5 + i) _ (omega arith) (omega arith)
        ∙ (if_false (is_side one (5 + i)) 33 _ (off_side one (5 + i) 0 (omega arith) (omega arith))
        ∙ ap (slice_index (canonical one.command)) index))

    -- its text isn't empty
    some : 0 < width one
    some = text_some one.command

    -- the cells of the box are those of a box in the grid
    pub figure : IsBox (sheet m above below) (frame_of m above)
        (corner_of (rect_of (length above + 1) b one)) (rect_of (length above + 1) b one)
    figure =
        let far = reaches in let lt = there in let wide = some in record {
          corner = refl;
          within = (
            record {
              below_top = omega arith;
              above_bottom =
                  omega arith;
              after_left = omega arith;
              before_right = omega arith;
            },
            record {
              below_top = omega arith;
              above_bottom =
                  omega arith;
              after_left = omega arith;
              before_right = omega arith;
            },
          );
          wide = omega arith;
          high = omega arith;
          top = λ col after before. edge_cell (length above + 1 + box_row b 3) col 3 (inl refl)
              (omega arith) refl after before;
          top_right =
              star_cell (length above + 1 + box_row b 3) (6 + width one) 3 (5 + width one)
              (inl refl) (omega arith) refl (omega arith) (inr refl) (omega arith) (omega arith);
          left = λ row after before. side_cell row 5 4 (omega arith) (omega arith) (inl refl)
              (omega arith) (omega arith);
          bottom_left =
              star_cell (length above + 1 + box_row b 5) 5 5 4 (inr refl) (omega arith) refl
              (omega arith) (inl refl) (omega arith) (omega arith);
          bottom = λ col after before. edge_cell (length above + 1 + box_row b 5) col 5 (inr refl)
              (omega arith) refl after before;
          bottom_right =
              star_cell (length above + 1 + box_row b 5) (6 + width one) 5 (5 + width one)
              (inr refl) (omega arith) refl (omega arith) (inr refl) (omega arith) (omega arith);
          right = λ row after before. side_cell row (6 + width one) (5 + width one) (omega arith)
              (omega arith) (inr refl) (omega arith) (omega arith);
        }

    -- its top left corner is the corner of a box
    pub box_corner : IsBoxCorner (sheet m above below) (frame_of m above)
        (corner_of (rect_of (length above + 1) b one))
    box_corner =
        let wide = some in record {
          within = figure.within.0;
          here = star_cell (length above + 1 + box_row b 3) 5 3 4 (inl refl) (omega arith) refl
              (omega arith) (inl refl) (omega arith) (omega arith);
          east = figure.top 6 (omega arith) (omega arith);
          south = figure.left (length above + 1 + box_row b 3 + 1) (omega arith) (omega arith);
        }

    -- it has one inner row
    one_row : inner_rows (rect_of (length above + 1) b one)
        ≡ (length above + 1 + box_row b 3 + 1) ∷ []
    one_row =
        let one_high : length above + 1 + box_row b 5 - (length above + 1 + box_row b 3) - 1 ≡ 1 =
        omega arith in ap (range_with_len (length above + 1 + box_row b 3 + 1)) one_high

    -- which holds the canonical text
    row_is : row_text grid (rect_of (length above + 1) b one) (length above + 1 + box_row b 3 + 1)
        ≡ canonical one.command
    row_is =
        let long : 6 + width one - 5 - 1 ≡ width one = omega arith in
        let byte : ℕ → ℕ = λ col. cell grid (at (length above + 1 + box_row b 3 + 1) col) in
        same_lists (row_text grid (rect_of (length above + 1) b one)
        (length above + 1 + box_row b 3 + 1)) (canonical one.command)
        (length-map-range_with_len (λ col. cell grid (at (length above + 1 + box_row b 3 + 1) col))
        6 (6 + width one - 5 - 1) ∙ long)
        (λ i d lt.
        let n = length-map-range_with_len
        (λ col. cell grid (at (length above + 1 + box_row b 3 + 1) col)) 6
        (6 + width one - 5 - 1) in
        let in_text : i < width one = omega arith in
        get_or-map-range_with_len (λ col. cell grid (at (length above + 1 + box_row b 3 + 1) col)) 6
        (6 + width one - 5 - 1) i (6 + i) d (omega arith) refl
        ∙ (text_cell (length above + 1 + box_row b 3 + 1) i (omega arith) in_text
        ∙ get_or_default (canonical one.command) i 0 d in_text))

    -- the command text of the box is the canonical text of its command
    pub text_is : command_text (sheet m above below) (rect_of (length above + 1) b one)
        ≡ canonical one.command
    text_is =
        ap (λ rows. join_with_byte 32 (map (row_text grid (rect_of (length above + 1) b one)) rows))
        one_row ∙ row_is

  -- no byte of a name is a star
  no_star_name : (v : ℕ) → IsNameByte v → v ≡ 42 → ⊥
  no_star_name v (inl lower) e = omega arith
  no_star_name v (inr (inl digit)) e = omega arith
  no_star_name v (inr (inr line)) e = omega arith

  -- no cell of wires has a byte of a box's sides
  not_wired : (p : Place) (v b : ℕ) → v ≡ wire_byte (courses m) p → v ≡ b → (b ≡ 42)
      ⊎ ((b ≡ 61) ⊎ (b ≡ 33)) → ⊥
  not_wired p v b wired is (inl e) =
      no_wire (courses m) p v b wired is (λ x. omega arith)
      (sign_not b 42 e (λ x. omega arith) (λ x. omega arith) (λ x. omega arith) (λ x. omega arith))
  not_wired p v b wired is (inr (inl e)) =
      no_wire (courses m) p v b wired is (λ x. omega arith)
      (sign_not b 61 e (λ x. omega arith) (λ x. omega arith) (λ x. omega arith) (λ x. omega arith))
  not_wired p v b wired is (inr (inr e)) =
      no_wire (courses m) p v b wired is (λ x. omega arith)
      (sign_not b 33 e (λ x. omega arith) (λ x. omega arith) (λ x. omega arith) (λ x. omega arith))

  -- each corner of a box is one of these
  only_corner : (p : Place) → IsBoxCorner grid f p → (b : ℕ) × (one : BoxForm)
      × (slice_get m.boxes b ≡ Some one) × (corner_of (rect_of (length above + 1) b one) ≡ p)
  only_corner p c =
      let (q, is, same) = back m sound above below p c.within in
      let v = inner_byte m q.row q.col in
      let star : v ≡ 42 =
      sym (inner_cell m sound above below q is) ∙ (ap (cell grid) same ∙ c.here) in
      by q is same v star (inner m sound q.row q.col is.right)
    where
      by : (q : Place) → IsInner m q → moved (place_of above) q ≡ p → (v : ℕ) → v ≡ 42
          → Inner m q.row q.col v
          → (b : ℕ) × (one : BoxForm) × (slice_get m.boxes b ≡ Some one)
          × (corner_of (rect_of (length above + 1) b one) ≡ p)
      by q is same v star (of_name row col letter_there) = absurd (no_star_name v letter_there star)
      by q is same v star (n_mark b one at_b some row col byte) = absurd (omega arith)
      by q is same v star (w_mark b one at_b some row col byte) = absurd (omega arith)
      by q is same v star (of_wires wired) =
          absurd (not_wired (at q.row q.col) v 42 wired star (inl refl))
      by q is same v star (of_box b one at_b k low high row from to (edge byte)) =
          absurd (omega arith)
      by q is same v star (of_box b one at_b k low high row from to (side byte)) =
          absurd (omega arith)
      by q is same v star (of_box b one at_b k low high row from to (letter plain)) =
          absurd (plain.no_star star)
      by q is same v star (of_box b one at_b k low high row from to
          (corner (inl three) (inl four) byte)) =
          let at_row : length above + 1 + q.row ≡ p.row = ap (λ (z : Place). z.row) same in
          let at_col : 1 + q.col ≡ p.col = ap (λ (z : Place). z.col) same in (
            b,
            one,
            at_b,
            equal_places (corner_of (rect_of (length above + 1) b one)) p (omega arith)
                (omega arith),
          )
      by q is same v star (of_box b one at_b k low high row from to
          (corner (inl three) (inr last) byte)) = absurd (
          let at_row : length above + 1 + q.row ≡ p.row = ap (λ (z : Place). z.row) same in
          let at_col : 1 + q.col ≡ p.col = ap (λ (z : Place). z.col) same in
          let far = box_reaches (length m.name) b m.boxes one at_b in
          let wired =
          box_cell p.row (p.col + 1) b 3 (6 + width one) one at_b (omega arith) (omega arith)
          (omega arith) (omega arith) (omega arith)
          ∙ box_right one 3 (6 + width one)
          (wire_byte (courses m) (at (box_row b 3) (6 + width one))) (omega arith) in
          not_wired (at (box_row b 3) (6 + width one))
          (wire_byte (courses m) (at (box_row b 3) (6 + width one))) 61 refl
          (sym wired ∙ c.east) (inr (inl refl)))
      by q is same v star (of_box b one at_b k low high row from to
          (corner (inr five) sides byte)) = absurd (
          let at_row : length above + 1 + q.row ≡ p.row = ap (λ (z : Place). z.row) same in
          let at_col : 1 + q.col ≡ p.col = ap (λ (z : Place). z.col) same in
          let left = is.left in
          let wired =
          box_cell (p.row + 1) p.col b 6 q.col one at_b (omega arith) (omega arith)
          (omega arith) (omega arith) (omega arith)
          ∙ box_gap one 6 q.col (wire_byte (courses m) (at (box_row b 6) q.col)) (λ x. omega arith)
          (λ x. omega arith) (λ x. omega arith) (λ x. omega arith) in
          not_wired (at (box_row b 6) q.col) (wire_byte (courses m) (at (box_row b 6) q.col)) 33
          refl (sym wired ∙ c.south) (inr (inr refl)))

  -- the box of a rectangle, by its number
  at_number : (i : ℕ) (d : Rect) → i < length (boxes_of m above) → (one : BoxForm)
      × (slice_get m.boxes i ≡ Some one)
      × (rect_of (length above + 1) i one ≡ get_or (boxes_of m above) i d)
  at_number i d lt =
      box_there m above i (get_or (boxes_of m above) i d)
      (slice_get-get_or (boxes_of m above) i d lt)

  -- the boxes are the figures that are read in the frame
  pub boxes_figures : AreFigures (box_kind (sheet m above below) (frame_of m above))
      (boxes_of m above)
  boxes_figures = record {
    in_order = λ i j d less lt.
        let (one, at_i, same) = at_number i d (omega arith) in
        let (other, at_j, same_j) = at_number j d lt in
        let top : length above + 1 + box_row i 3 ≡ (get_or (boxes_of m above) i d).top =
        ap (λ (z : Rect). z.top) same in
        let top_j : length above + 1 + box_row j 3 ≡ (get_or (boxes_of m above) j d).top =
        ap (λ (z : Rect). z.top) same_j in
        inl (omega arith);
    apart = λ i j d less lt (p, one_cell, other_cell).
        let (one, at_i, same) = at_number i d (omega arith) in
        let (other, at_j, same_j) = at_number j d lt in
        let bottom : length above + 1 + box_row i 5 ≡ (get_or (boxes_of m above) i d).bottom =
        ap (λ (z : Rect). z.bottom) same in
        let top_j : length above + 1 + box_row j 3 ≡ (get_or (boxes_of m above) j d).top =
        ap (λ (z : Rect). z.top) same_j in
        let a = one_cell.from_top in let b = other_cell.to_bottom in omega arith;
    corners =
        λ k d lt. let (one, at_k, same) =
        at_number k d lt in
        subst (λ z. IsBoxCorner grid f (corner_of z)) same (box_corner k one at_k);
    figures =
        λ k d lt. let (one, at_k, same) =
        at_number k d lt in subst (λ z. IsBox grid f (corner_of z) z) same (figure k one at_k);
    more = λ k d lt. gave;
    only = λ p c.
        let (b, one, at_b, same) = only_corner p c in
        let is = rect_there m above b one at_b in (
          b,
          rect_of (length above + 1) b one,
          slice_get_within (boxes_of m above) b
              (rect_of (length above + 1) b one) is,
          get_or_from_slice_get (boxes_of m above) b (rect_of (length above + 1) b one)
              (rect_of (length above + 1) b one) is,
          inl same,
        );
  }

  -- each command is one that can be written
  within : (b : ℕ) (one : BoxForm) → slice_get m.boxes b ≡ Some one → IsWithin one.command
  within b one at_b =
      subst (λ (row : BoxForm). IsWithin row.command) (get_or_from_slice_get m.boxes b one one at_b)
      (sound.commands b one (slice_get_within m.boxes b one at_b))

  -- the commands of boxes, of which the first has this number, are read from their texts
  commands_from : (b : ℕ) (ones : List BoxForm)
      → ((k n : ℕ) (one : BoxForm) → slice_get ones k ≡ Some one → n ≡ b + k
      → slice_get m.boxes n ≡ Some one)
      → each (CommandOf grid) (rects (length above + 1) b ones)
      (Ok (map (λ (row : BoxForm). row.command) ones))
  commands_from b [] are = gave
  commands_from b (one ∷ more) are =
      let at_b = are 0 b one refl (omega arith) in
      goes_on one.command (command one.command
      (subst (λ l. IsTextOf l one.command) (sym (text_is b one at_b))
      (canonical_text one.command (within b one at_b))))
      (goes_on (map (λ (row : BoxForm). row.command) more)
      (commands_from (suc b) more (λ k n next at_k e. are (suc k) n next at_k (omega arith)))
      gave)

  -- the commands of the module are read
  pub commands_read : each (CommandOf (sheet m above below)) (boxes_of m above)
      (Ok (map (λ (row : BoxForm). row.command) m.boxes))
  commands_read =
      commands_from 0 m.boxes (λ k n one at_k e. let number : k ≡ n = omega arith in
      subst (λ i. slice_get m.boxes i ≡ Some one) number at_k)
