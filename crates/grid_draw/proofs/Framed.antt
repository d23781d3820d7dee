-- The frame of a drawing: its borders with its entries and exits, and the name.
use Rattle.std.specs.Prelude.{◌≡◌, ◌+◌, ◌-◌, ◌<◌, ◌≤◌, ◌==◌, ◌⊎◌, ℕ, zero, suc}
use Rattle.std.specs.Prelude.{Bool, true, false}
use Rattle.std.specs.Prelude.{if◌then◌else◌, nat_le, List, [], ◌∷◌, ◌++◌, length, slice_get}
use Rattle.std.specs.Prelude.{slice_index, is_some, Some, Ok}
use Rattle.std.specs.List.{Contains, range_with_len}
use Rattle.std.proofs.Common.{arith, refl, sym, ap, subst, ◌∙◌, inl, inr}
use Rattle.std.proofs.lemmas.Bool.{cases_lt, cases_eq, ne_eqb, eq-eqb, le-leb, lt-leb}
use Rattle.std.proofs.lemmas.List.FromFn.{length-range_with_len, get_or-range_with_len}
use Rattle.std.proofs.lemmas.Option.{slice_get-get_or}
use Rattle.umix_base.specs.declared.place.Place.{Place}
use Rattle.two_d.specs.Places.{at, Rect, corner_of, Within}
use Rattle.two_d.specs.Cells.{Grid, cell}
use Rattle.two_d.specs.Clean.{WireForm}
use Rattle.two_d.specs.Names.{IsNameByte}
use Rattle.two_d.specs.Programs.{ModuleForm}
use Rattle.two_d.specs.Sound.{Comes, IsSound, LeadsOn}
use Rattle.two_d.specs.Reading.{goes_on, none}
use Rattle.two_d.specs.Frames.{IsCorner, IsFrame, IsTopByte, IsSideByte, IsSecond, IsNameOf}
use Rattle.two_d.specs.Frames.{one_entry_a_side}
use Rattle.two_d.specs.Frames.{north_entries, west_entries, exits_of}
use Rattle.two_d.specs.Wires.{east, south, horizontal, vertical, axis_of, Position}
use Rattle.two_d.specs.declared.module.Origin.TheVariants.{North, West}
use Rattle.two_d.proofs.Equal.{equal_places}
use Rattle.grid_picture.specs.Courses.{Course, passes, wire_byte}
use Rattle.grid_picture.proofs.Inked.{passed_on}
use Rattle.grid_picture.proofs.Moved.{moved}
use Rattle.grid_draw.specs.Layout.{columns, rows, exit_row, courses, byte_at, inner_byte}
use Rattle.grid_draw.specs.Layout.{drawn_lines}
use Rattle.grid_draw.proofs.BorderBytes as bytes
use Rattle.grid_draw.proofs.Borders.{Begins, at_top, at_left, one_track, starts_so, start_passes}
use Rattle.grid_draw.proofs.Drawn.{drawn_cell, drawn_past}
use Rattle.grid_draw.proofs.Filtered.{filter_none, filter_one, filter_rest}
use Rattle.grid_draw.proofs.InnerCells.{IsSign, wire_signs, sign_not}
use Rattle.grid_draw.proofs.LegEnds.{IsInner, Laid, laid, course_for}
use Rattle.grid_draw.proofs.Regions.{inside, name_reaches}

-- the lines of a drawing between others
abbrev pub sheet : ModuleForm → List (List ℕ) → List (List ℕ) → Grid
sheet m above below = above ++ (drawn_lines m ++ below)

-- where its top left corner stands
abbrev pub place_of : List (List ℕ) → Place
place_of above = at (length above + 1) 1

-- its frame
abbrev pub frame_of : ModuleForm → List (List ℕ) → Rect
frame_of m above = record {
  top = length above + 1;
  left = 1;
  bottom = length above + 1 + rows m + 1;
  right = columns m + 2;
}

-- a bar or a dot is a byte of a top border
top_is : (b : Bool) → IsTopByte (if b then 124 else 46)
top_is true = inr refl
top_is false = inl refl

-- a minus or a colon is a byte of a side
side_is : (b : Bool) → IsSideByte (if b then 45 else 58)
side_is true = inr refl
side_is false = inl refl

-- where the test is true, the byte is the first
passed : (b : Bool) (there other v : ℕ) → b ≡ true → v ≡ (if b then there else other) → v ≡ there
passed true there other v e is = is
passed false there other v e is = absurd (cc)

-- where it is false, the second
not_passed : (b : Bool) (there other v : ℕ) → b ≡ false → v ≡ (if b then there else other)
    → v ≡ other
not_passed true there other v e is = absurd (cc)
not_passed false there other v e is = is

module _ (m : ModuleForm) (sound : IsSound m) (above below : List (List ℕ)) where
  -- the grid
  abbrev grid : Grid
  grid = sheet m above below

  -- the frame
  abbrev f : Rect
  f = frame_of m above

  -- a cell of the drawing
  pub cell_is : (row col r c : ℕ) → row ≡ length above + 1 + r → col ≡ 1 + c → r < rows m + 2
      → c < columns m + 2 → cell (sheet m above below) (at row col) ≡ byte_at m r c
  cell_is row col r c at_row at_col lt less =
      ap (λ x. cell grid (at x col)) at_row
      ∙ (ap (λ x. cell grid (at (length above + 1 + r) x)) at_col
      ∙ drawn_cell m above below r c lt less)

  -- a cell of the top border
  top_cell : (col : ℕ) → 1 < col → col < columns m + 2 → cell grid (at (length above + 1) col)
      ≡ (if passes vertical (courses m) (at 0 (col - 1)) then 124 else 46)
  top_cell col after before =
      cell_is (length above + 1) col 0 (col - 1) (omega arith) (omega arith) (omega arith)
      (omega arith) ∙ bytes.top_byte m (col - 1) (omega arith) (omega arith)

  -- a cell of the left border
  left_cell : (row : ℕ) → length above + 1 < row → row < length above + 1 + rows m + 1
      → cell grid (at row 1) ≡ (if passes horizontal (courses m)
      (at (row - (length above + 1)) 0) then 45 else 58)
  left_cell row after before =
      cell_is row 1 (row - (length above + 1)) 0 (omega arith) (omega arith) (omega arith)
      (omega arith)
      ∙ bytes.left_byte m (row - (length above + 1)) (omega arith) (omega arith)

  -- a cell of the right border
  right_cell : (row : ℕ) → length above + 1 < row → row < length above + 1 + rows m + 1
      → cell grid (at row (columns m + 2))
      ≡ (if nat_le (exit_row m 0) (row - (length above + 1)) then 45 else 58)
  right_cell row after before =
      cell_is row (columns m + 2) (row - (length above + 1)) (columns m + 1) (omega arith)
      (omega arith) (omega arith) (omega arith)
      ∙ bytes.right_byte m (row - (length above + 1)) (omega arith) (omega arith)

  -- a cell of the bottom border
  bottom_cell : (col : ℕ) → 1 < col → col < columns m + 2
      → cell grid (at (length above + 1 + rows m + 1) col) ≡ 46
  bottom_cell col after before =
      cell_is (length above + 1 + rows m + 1) col (rows m + 1) (col - 1) (omega arith) (omega arith)
      (omega arith) (omega arith)
      ∙ bytes.bottom_byte m (col - 1) (omega arith) (omega arith)

  -- the borders are those of a frame
  pub framed : IsFrame (sheet m above below) (corner_of (frame_of m above)) (frame_of m above)
  framed = record {
    corner = refl;
    wide = omega arith;
    high = omega arith;
    top = λ col after before. subst IsTopByte (sym (top_cell col after before))
        (top_is (passes vertical (courses m) (at 0 (col - 1))));
    top_right =
        cell_is (length above + 1) (columns m + 2) 0 (columns m + 1) (omega arith) (omega arith)
        (omega arith) (omega arith) ∙ bytes.top_right m;
    left = λ row after before. subst IsSideByte (sym (left_cell row after before))
        (side_is (passes horizontal (courses m) (at (row - (length above + 1)) 0)));
    bottom_left =
        cell_is (length above + 1 + rows m + 1) 1 (rows m + 1) 0 (omega arith) (omega arith)
        (omega arith) (omega arith) ∙ bytes.bottom_left m;
    bottom = bottom_cell;
    bottom_right =
        cell_is (length above + 1 + rows m + 1) (columns m + 2) (rows m + 1) (columns m + 1)
        (omega arith) (omega arith) (omega arith) (omega arith) ∙ bytes.bottom_right m;
    right = λ row after before. subst IsSideByte (sym (right_cell row after before))
        (side_is (nat_le (exit_row m 0) (row - (length above + 1))));
  }

  -- its top left corner is the corner of a frame
  pub corner : IsCorner (sheet m above below) (corner_of (frame_of m above))
  corner = record {
    here = cell_is (length above + 1) 1 0 0 (omega arith) (omega arith) (omega arith) (omega arith)
        ∙ bytes.top_left m;
    east = framed.top 2 (omega arith) (omega arith);
    south = framed.left (length above + 1 + 1) (omega arith) (omega arith);
  }

  -- the columns of the north entry
  pub data AreNorth (entries : List ℕ) : Type 0 where
    no_north : m.north ≡ false → entries ≡ [] → AreNorth entries
    one_north : m.north ≡ true → (c : Course) → Contains (courses m) c → (x : Laid m c)
        → x.w.from ≡ North → entries ≡ (1 + x.t) ∷ [] → AreNorth entries

  -- no bar stands in the top border where no wire from the north entry begins
  no_bar : (col : ℕ) → 1 < col → col < columns m + 2 → (Begins m (at 0 (col - 1)) south North → ⊥)
      → (cell grid (at (length above + 1) col) == 124) ≡ false
  no_bar col after before no_wire = by (passes vertical (courses m) (at 0 (col - 1))) refl
    where
      by : (b : Bool) → passes vertical (courses m) (at 0 (col - 1)) ≡ b
          → (cell grid (at (length above + 1) col) == 124) ≡ false
      by true e =
          absurd (no_wire (at_top m sound (col - 1)
          (passed_on vertical (courses m) (at 0 (col - 1)) e)))
      by false e =
          ne_eqb (cell grid (at (length above + 1) col)) 124
          (λ is. let dot = not_passed _ 124 46 _ e (top_cell col after before) in omega arith)

  -- the bars of the top border: the start of the wire from the north entry, where there is one
  pub north_is : LeadsOn m → AreNorth (north_entries (sheet m above below) (frame_of m above))
  north_is leads = by m.north refl
    where
      by : (b : Bool) → m.north ≡ b → AreNorth (north_entries grid f)
      by false e =
          no_north e (filter_none (λ col. cell grid (at (length above + 1) col) == 124) 2
          (columns m + 2 - 1 - 1)
          (λ col low high. no_bar col (omega arith) (omega arith)
          (λ x. absurd (let y = laid m sound x.course x.there in
          let from : y.w.from ≡ North = ap (λ (w : WireForm). w.from) (sym y.wire) ∙ x.from in
          let is : m.north ≡ true =
          sound.known North y.w.to (subst (λ o. Comes m o y.w.to) from y.comes) in cc))))
      by true e =
          let (end, comes) = leads.north e in
          let (c, there, wire) = course_for m North end comes in
          let x = laid m sound c there in
          let from : x.w.from ≡ North = ap (λ (w : WireForm). w.from) (sym x.wire ∙ wire) in
          let starts = starts_so m c x North from in
          let passes_there : passes vertical (courses m) (at 0 x.t) ≡ true =
          subst (λ (s : Position). passes (axis_of s.to) (courses m) s.place ≡ true) starts
          (start_passes m sound c there) in
          let right = x.right in
          let left = x.left in
          one_north e c there x from
          (filter_one (λ col. cell grid (at (length above + 1) col) == 124) 2
          (columns m + 2 - 1 - 1) (1 + x.t) (omega arith) (omega arith)
          (eq-eqb (cell grid (at (length above + 1) (1 + x.t))) 124
          (cell_is (length above + 1) (1 + x.t) 0 x.t (omega arith) refl (omega arith) (omega arith)
          ∙ passed (passes vertical (courses m) (at 0 x.t)) 124 46 _ passes_there
          (bytes.top_byte m x.t (omega arith) (omega arith))))
          (λ col low high other. no_bar col (omega arith) (omega arith) (λ y. absurd (
          let z = laid m sound y.course y.there in
          let from_z : z.w.from ≡ North = ap (λ (w : WireForm). w.from) (sym z.wire) ∙ y.from in
          let track = one_track m sound c y.course x z (from ∙ sym from_z) in
          let starts_z = starts_so m y.course z North from_z in
          let col_is : z.t ≡ col - 1 =
          ap (λ (s : Position). s.place.col) (sym starts_z ∙ y.start) in
          other (omega arith)))))

  -- the rows of the west entry
  pub data AreWest (entries : List ℕ) : Type 0 where
    no_west : m.west ≡ false → entries ≡ [] → AreWest entries
    one_west : m.west ≡ true → (c : Course) → Contains (courses m) c → (x : Laid m c)
        → x.w.from ≡ West
        → entries ≡ (length above + 1 + 2) ∷ [] → AreWest entries

  -- no minus stands in the left border where no wire from the west entry begins
  no_minus : (row : ℕ) → length above + 1 < row → row < length above + 1 + rows m + 1
      → (Begins m (at 2 0) east West × (row - (length above + 1) ≡ 2) → ⊥)
      → (cell grid (at row 1) == 45) ≡ false
  no_minus row after before no_wire =
      by (passes horizontal (courses m) (at (row - (length above + 1)) 0)) refl
    where
      by : (b : Bool) → passes horizontal (courses m) (at (row - (length above + 1)) 0) ≡ b
          → (cell grid (at row 1) == 45) ≡ false
      by true e =
          absurd (no_wire (at_left m sound (row - (length above + 1))
          (passed_on horizontal (courses m) (at (row - (length above + 1)) 0) e)))
      by false e =
          ne_eqb (cell grid (at row 1)) 45
          (λ is. let colon = not_passed _ 45 58 _ e (left_cell row after before) in omega arith)

  -- the minuses of the left border: the start of the wire from the west entry, where there is one
  pub west_is : LeadsOn m → AreWest (west_entries (sheet m above below) (frame_of m above))
  west_is leads = by m.west refl
    where
      height : length above + 1 + rows m + 1 - (length above + 1) - 1 ≡ rows m
      height = omega arith

      by : (b : Bool) → m.west ≡ b → AreWest (west_entries grid f)
      by false e =
          no_west e (filter_none (λ row. cell grid (at row 1) == 45) (length above + 1 + 1)
          (length above + 1 + rows m + 1 - (length above + 1) - 1)
          (λ row low high. no_minus row (omega arith) (omega arith)
          (λ (x, two). absurd (let y = laid m sound x.course x.there in
          let from : y.w.from ≡ West = ap (λ (w : WireForm). w.from) (sym y.wire) ∙ x.from in
          let is : m.west ≡ true =
          sound.known West y.w.to (subst (λ o. Comes m o y.w.to) from y.comes) in cc))))
      by true e =
          let (end, comes) = leads.west e in
          let (c, there, wire) = course_for m West end comes in
          let x = laid m sound c there in
          let from : x.w.from ≡ West = ap (λ (w : WireForm). w.from) (sym x.wire ∙ wire) in
          let starts = starts_so m c x West from in
          let passes_there : passes horizontal (courses m) (at 2 0) ≡ true =
          subst (λ (s : Position). passes (axis_of s.to) (courses m) s.place ≡ true) starts
          (start_passes m sound c there) in
          one_west e c there x from
          (filter_one (λ row. cell grid (at row 1) == 45) (length above + 1 + 1)
          (length above + 1 + rows m + 1 - (length above + 1) - 1) (length above + 1 + 2)
          (omega arith) (omega arith)
          (eq-eqb (cell grid (at (length above + 1 + 2) 1)) 45
          (cell_is (length above + 1 + 2) 1 2 0 refl (omega arith) (omega arith) (omega arith)
          ∙ passed (passes horizontal (courses m) (at 2 0)) 45 58 _ passes_there
          (bytes.left_byte m 2 (omega arith) (omega arith))))
          (λ row low high other. no_minus row (omega arith) (omega arith)
          (λ (y, two). absurd (other (omega arith)))))

  -- the rows of the exits
  pub exits_are : exits_of (sheet m above below) (frame_of m above) ≡ range_with_len
      (length above + 1 + exit_row m 0) (length m.exits)
  exits_are =
      filter_rest (λ row. cell grid (at row (columns m + 2)) == 45) (length above + 1 + 1)
      (length above + 1 + rows m + 1 - (length above + 1) - 1)
      (length above + 1 + exit_row m 0) (length m.exits) (omega arith) (omega arith)
      (λ row low high. ne_eqb (cell grid (at row (columns m + 2))) 45 (λ is.
      let colon =
      not_passed _ 45 58 _ (lt-leb (exit_row m 0) (row - (length above + 1)) (omega arith))
      (right_cell row (omega arith) (omega arith)) in omega arith))
      (λ row low high. eq-eqb (cell grid (at row (columns m + 2))) 45
      (passed _ 45 58 _ (le-leb (exit_row m 0) (row - (length above + 1)) (omega arith))
      (right_cell row (omega arith) (omega arith))))

  -- there are as many as exits of the module
  pub long_exits : length (exits_of (sheet m above below) (frame_of m above)) ≡ length m.exits
  long_exits =
      ap length exits_are ∙ length-range_with_len (length above + 1 + exit_row m 0) (length m.exits)

  -- each is in its row
  pub exit_at : (i : ℕ) → i < length m.exits → slice_get
      (exits_of (sheet m above below) (frame_of m above)) i ≡ Some (length above + 1 + exit_row m i)
  exit_at i lt =
      let long = length-range_with_len (length above + 1 + exit_row m 0) (length m.exits) in
      let row : length above + 1 + exit_row m 0 + i ≡ length above + 1 + exit_row m i =
      omega arith in
      ap (λ l. slice_get l i) exits_are
      ∙ (slice_get-get_or (range_with_len (length above + 1 + exit_row m 0) (length m.exits)) i 0
      (omega arith)
      ∙ ap (λ x. Some x) (get_or-range_with_len (length above + 1 + exit_row m 0)
      (length m.exits) i 0 lt ∙ row))

  -- no side has two entries
  pub entered : LeadsOn m → one_entry_a_side (sheet m above below) (frame_of m above) (Ok tt)
  entered leads =
      goes_on tt (none (λ col second. by_north col (north_is leads) second))
      (none (λ row second. by_west row (west_is leads) second))
    where
      by_north : (col : ℕ) → AreNorth (north_entries grid f) → IsSecond (north_entries grid f) col
          → ⊥
      by_north col (no_north e is) second = let x = ap (λ l. slice_get l 1) (sym is) ∙ second in cc
      by_north col (one_north e c there x from is) second =
          let x = ap (λ l. slice_get l 1) (sym is) ∙ second in cc

      by_west : (row : ℕ) → AreWest (west_entries grid f) → IsSecond (west_entries grid f) row → ⊥
      by_west row (no_west e is) second = let x = ap (λ l. slice_get l 1) (sym is) ∙ second in cc
      by_west row (one_west e c there x from is) second =
          let x = ap (λ l. slice_get l 1) (sym is) ∙ second in cc

  -- there is a north entry where the module has one
  pub north_shown : LeadsOn m → m.north ≡ is_some
      (slice_get (north_entries (sheet m above below) (frame_of m above)) 0)
  north_shown leads = by (north_is leads)
    where
      by : AreNorth (north_entries grid f) → m.north ≡ is_some (slice_get (north_entries grid f) 0)
      by (no_north e is) = e ∙ ap (λ l. is_some (slice_get l 0)) (sym is)
      by (one_north e c there x from is) = e ∙ ap (λ l. is_some (slice_get l 0)) (sym is)

  -- there is a west entry where the module has one
  pub west_shown : LeadsOn m → m.west ≡ is_some
      (slice_get (west_entries (sheet m above below) (frame_of m above)) 0)
  west_shown leads = by (west_is leads)
    where
      by : AreWest (west_entries grid f) → m.west ≡ is_some (slice_get (west_entries grid f) 0)
      by (no_west e is) = e ∙ ap (λ l. is_some (slice_get l 0)) (sym is)
      by (one_west e c there x from is) = e ∙ ap (λ l. is_some (slice_get l 0)) (sym is)

  -- a cell within the borders
  pub inner_cell : (p : Place) → IsInner m p → cell (sheet m above below) (moved (place_of above) p)
      ≡ inner_byte m p.row p.col
  inner_cell p is =
      let a = is.under in let b = is.above in let c = is.right in let d = is.left in
      drawn_cell m above below p.row p.col (omega arith) (omega arith)
      ∙ inside m p.row p.col a b c d

  -- it lies within the frame
  pub inner_within : (p : Place) → IsInner m p → Within (frame_of m above)
      (moved (place_of above) p)
  inner_within p is =
      let a = is.under in let b = is.above in let c = is.right in let d = is.left in
      record {
        below_top = omega arith;
        above_bottom =
            omega arith;
        after_left = omega arith;
        before_right = omega arith;
      }

  -- each cell within the frame is one of them
  pub back : (p : Place) → Within (frame_of m above) p → (q : Place) × IsInner m q
      × (moved (place_of above) q ≡ p)
  back p w =
      let a = w.below_top in let b = w.above_bottom in let c = w.after_left in
      let d = w.before_right in (
        at (p.row - (length above + 1)) (p.col - 1),
        record {
          under = omega arith;
          above = omega arith;
          right =
              omega arith;
          left = omega arith;
        },
        equal_places (moved (place_of above) (at (p.row - (length above + 1)) (p.col - 1))) p
            (omega arith) (omega arith),
      )

  -- a byte of the name
  name_byte : (c : ℕ) → 0 < c → c ≤ length m.name → inner_byte m 1 c ≡ slice_index m.name (c - 1)
  name_byte c pos le =
      ap (λ (b : Bool). if b then slice_index m.name (c - 1) else wire_byte (courses m) (at 1 c))
      (le-leb c (length m.name) le)

  -- behind the name there are wires
  after_name : (c : ℕ) → length m.name < c → inner_byte m 1 c ≡ wire_byte (courses m) (at 1 c)
  after_name c lt =
      ap (λ (b : Bool). if b then slice_index m.name (c - 1) else wire_byte (courses m) (at 1 c))
      (lt-leb c (length m.name) lt)

  -- whose bytes are none of a name
  no_name_byte : (v : ℕ) → (v ≡ 32) ⊎ IsSign v → IsNameByte v → ⊥
  no_name_byte v (inl e) (inl lower) = omega arith
  no_name_byte v (inl e) (inr (inl digit)) = omega arith
  no_name_byte v (inl e) (inr (inr line)) = omega arith
  no_name_byte v (inr sign) (inl lower) =
      sign_not v v refl (λ x. omega arith) (λ x. omega arith) (λ x. omega arith)
      (λ x. omega arith) sign
  no_name_byte v (inr sign) (inr (inl digit)) =
      sign_not v v refl (λ x. omega arith) (λ x. omega arith) (λ x. omega arith)
      (λ x. omega arith) sign
  no_name_byte v (inr sign) (inr (inr line)) =
      sign_not v v refl (λ x. omega arith) (λ x. omega arith) (λ x. omega arith)
      (λ x. omega arith) sign

  -- the name is read
  pub named : IsNameOf (sheet m above below) (frame_of m above) m.name
  named = record {
    valid = sound.named;
    written = λ i lt.
        let reaches = name_reaches (length m.name) m.boxes in
        let index : 1 + i - 1 ≡ i = omega arith in
        cell_is (length above + 1 + 1) (1 + 1 + i) 1 (1 + i) (omega arith) (omega arith)
        (omega arith) (omega arith)
        ∙ (inside m 1 (1 + i) (omega arith) (omega arith) (omega arith) (omega arith)
        ∙ (name_byte (1 + i) (omega arith) (omega arith) ∙ ap (slice_index m.name) index));
    longest = λ is_letter.
        let reaches = name_reaches (length m.name) m.boxes in
        let c = 1 + length m.name in
        let byte =
        cell_is (length above + 1 + 1) (1 + 1 + length m.name) 1 c (omega arith) (omega arith)
        (omega arith) (omega arith)
        ∙ (inside m 1 c (omega arith) (omega arith) (omega arith) (omega arith)
        ∙ after_name c (omega arith)) in
        no_name_byte (wire_byte (courses m) (at 1 c)) (wire_signs (courses m) (at 1 c))
        (subst IsNameByte byte is_letter);
  }

  -- the frame has the only corner of its rows
  pub alone : (p : Place) → IsCorner (sheet m above below) p → length above < p.row
      → p.row ≤ length above + 1 + rows m + 1 → (corner_of (frame_of m above) ≡ p)
      ⊎ Within (frame_of m above) p
  alone p c from to = elim (cases_lt (columns m + 2) p.col) [
    | inl beyond ↦ absurd (let space = past p.row p.col from to beyond in let h = c.here in
        omega arith)
    | inr in_row ↦ elim (cases_eq p.row (length above + 1)) [
      | inl on_top ↦ top_row on_top in_row
      | inr under ↦ elim (cases_eq p.row (length above + 1 + rows m + 1)) [
        | inl on_bottom ↦ absurd (bottom_row on_bottom in_row)
        | inr over ↦ between (omega arith) (omega arith) in_row
      ]
    ]
  ]
    where
      past : (row col : ℕ) → length above < row → row ≤ length above + 1 + rows m + 1
          → columns m + 2 < col → cell grid (at row col) ≡ 32
      past row col low high beyond =
          let row_is : row ≡ length above + 1 + (row - (length above + 1)) = omega arith in
          ap (λ x. cell grid (at x col)) row_is ∙ drawn_past m above below
          (row - (length above + 1)) col (omega arith) beyond

      byte_is : (row col : ℕ) → p.row ≡ row → p.col ≡ col → cell grid (at row col) ≡ 44
      byte_is row col r k = subst (λ q. cell grid q ≡ 44) (equal_places p (at row col) r k) c.here

      not_zero : (row col : ℕ) → cell grid (at row col) ≡ 44 → 0 < col
      not_zero row zero e = absurd (omega arith)
      not_zero row (suc col) e = omega arith

      after_zero : 0 < p.col
      after_zero = not_zero p.row p.col c.here

      no_comma_top : (b : ℕ) → IsTopByte b → b ≡ 44 → ⊥
      no_comma_top b (inl x) e = omega arith
      no_comma_top b (inr x) e = omega arith

      no_space_top : (b : ℕ) → IsTopByte b → b ≡ 32 → ⊥
      no_space_top b (inl x) e = omega arith
      no_space_top b (inr x) e = omega arith

      top_row : p.row ≡ length above + 1 → p.col ≤ columns m + 2 → (corner_of f ≡ p) ⊎ Within f p
      top_row r le = elim (cases_eq p.col 1) [
        | inl first_col ↦ inl (sym (equal_places p (corner_of f) r first_col))
        | inr not_first ↦ elim (cases_eq p.col (columns m + 2)) [
          | inl last_col ↦ absurd (no_space_top _
              (subst (λ q. IsTopByte (cell grid (at q.row (q.col + 1))))
              (equal_places p (at (length above + 1) (columns m + 2)) r last_col) c.east)
              (past (length above + 1) (columns m + 2 + 1) (omega arith) (omega arith)
              (omega arith)))
          | inr not_last ↦ absurd (let a = after_zero in
              no_comma_top _ (framed.top p.col (omega arith) (omega arith))
              (byte_is (length above + 1) p.col r refl))
        ]
      ]

      bottom_row : p.row ≡ length above + 1 + rows m + 1 → p.col ≤ columns m + 2 → ⊥
      bottom_row r le = elim (cases_eq p.col 1) [
        | inl first_col ↦ (let h = byte_is (length above + 1 + rows m + 1) 1 r first_col in
            let e = framed.bottom_left in omega arith)
        | inr not_first ↦ elim (cases_eq p.col (columns m + 2)) [
          | inl last_col ↦ (let h = byte_is (length above + 1 + rows m + 1)
              (columns m + 2) r last_col in let e = framed.bottom_right in omega arith)
          | inr not_last ↦ (let a = after_zero in
              let e = framed.bottom p.col (omega arith) (omega arith) in
              let h = byte_is (length above + 1 + rows m + 1) p.col r refl in omega arith)
        ]
      ]

      no_comma : (b : ℕ) → IsSideByte b → b ≡ 44 → ⊥
      no_comma b (inl x) e = omega arith
      no_comma b (inr x) e = omega arith

      between : length above + 1 < p.row → p.row < length above + 1 + rows m + 1
          → p.col ≤ columns m + 2 → (corner_of f ≡ p) ⊎ Within f p
      between after before le = elim (cases_eq p.col 1) [
        | inl first_col ↦ absurd (no_comma (cell grid (at p.row 1)) (framed.left p.row after before)
            (byte_is p.row 1 refl first_col))
        | inr not_first ↦ elim (cases_eq p.col (columns m + 2)) [
          | inl last_col ↦ absurd (no_comma (cell grid (at p.row (columns m + 2)))
              (framed.right p.row after before) (byte_is p.row (columns m + 2) refl last_col))
          | inr not_last ↦ inr (let a = after_zero in
              record {
                below_top = after;
                above_bottom =
                    before;
                after_left = omega arith;
                before_right = omega arith;
              })
        ]
      ]
