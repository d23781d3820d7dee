-- The wires of a drawing at its place in a grid: what a layout owes of its wires.
use Rattle.std.specs.Prelude.{◌≡◌, ◌+◌, ◌<◌, ◌⊎◌, ℕ, zero, suc, true}
use Rattle.std.specs.Prelude.{is_some}
use Rattle.std.specs.Prelude.{List, [], ◌∷◌, length, map, slice_get, Option, Some, None, Ok}
use Rattle.std.specs.List.{Contains}
use Rattle.std.proofs.Common.{arith, refl, sym, ap, subst, ◌∙◌, inl, inr}
use Rattle.std.proofs.lemmas.List.{length-map}
use Rattle.std.proofs.lemmas.Option.{same_Some, slice_get_within, slice_get-get_or}
use Rattle.std.proofs.lemmas.Option.{get_or_from_slice_get}
use Rattle.umix_base.specs.declared.place.Place.{Place}
use Rattle.two_d.specs.Cells.{Grid, cell}
use Rattle.two_d.specs.Clean.{WireForm, ports_at, IsStray}
use Rattle.two_d.specs.Places.{at, Before, Rect, Within}
use Rattle.two_d.specs.Ports.{Drawing, Holds, IsNPort, IsWPort, IsSPort, IsEPort}
use Rattle.two_d.specs.Frames.{north_entries, west_entries}
use Rattle.two_d.specs.Program.{drawing}
use Rattle.two_d.specs.Programs.{BoxForm, ModuleForm}
use Rattle.two_d.specs.Reading.{goes_on, none}
use Rattle.two_d.specs.Sound.{Comes, IsSound, LeadsOn}
use Rattle.two_d.specs.Wires.{Direction, east, south, Axis, horizontal, vertical}
use Rattle.two_d.specs.Wires.{axis_of, line, Position}
use Rattle.two_d.specs.Wires.{StartsAt, at_north, at_west, at_south, at_east, EndsAt, at_n, at_w}
use Rattle.two_d.specs.Wires.{at_exit, IsStart, IsStraight, IsTaker}
use Rattle.two_d.specs.declared.module.Origin.{Origin}
use Rattle.two_d.specs.declared.module.Origin.TheVariants.{North, West, South, East}
use Rattle.two_d.specs.declared.module.To.{To}
use Rattle.two_d.specs.declared.module.To.TheVariants.{N, W, Exit}
use Rattle.two_d.proofs.Equal.{equal_places}
use Rattle.two_d.proofs.MapLists.{map_contains, contains_map}
use Rattle.grid_picture.specs.Courses.{along, Leg, Course, legs, passes, wire_byte}
use Rattle.grid_picture.proofs.Courses.{IsJoint, IsCourse, OnLeg, AtJoint, AreCourses, AreFar}
use Rattle.grid_picture.proofs.Courses.{route}
use Rattle.grid_picture.proofs.Inked.{line_is_on, turn_is_at, joint_byte, joined}
use Rattle.grid_picture.proofs.Laid.{way}
use Rattle.grid_picture.proofs.Legs.{Fits, spot}
use Rattle.grid_picture.proofs.Moved.{moved, moved_leg, moved_course, legs_moved, leg_moved}
use Rattle.grid_picture.proofs.Moved.{along_moved}
use Rattle.grid_draw.specs.Layout.{width, columns, box_row, exit_row, east_of}
use Rattle.grid_draw.specs.Layout.{courses}
use Rattle.grid_draw.specs.Layout.{byte_at, inner_byte}
use Rattle.grid_draw.proofs.Apart.{courses_far}
use Rattle.grid_draw.proofs.Borders.{Begins, at_s, at_e, one_track, starts_so, start_passes}
use Rattle.grid_draw.proofs.Borders.{start_on}
use Rattle.grid_draw.proofs.BoxBytes.{box_rows, n_byte, w_byte}
use Rattle.grid_draw.proofs.Drawn.{drawn_cell}
use Rattle.grid_draw.proofs.DrawnBoxes.{rect_of, boxes_of, rect_there, box_there}
use Rattle.grid_draw.proofs.Framed.{sheet, place_of, frame_of, AreNorth, no_north, one_north}
use Rattle.grid_draw.proofs.Framed.{AreWest, no_west, one_west}
use Rattle.grid_draw.proofs.Framed.{north_is, west_is, exit_at, inner_cell, inner_within, back}
use Rattle.grid_draw.proofs.InnerCells.{Inner, of_name, n_mark, w_mark, of_box, of_wires, inner}
use Rattle.grid_draw.proofs.InnerCells.{IsSign, hash, plus, minus, bar, sign_wired, wire_signs}
use Rattle.grid_draw.proofs.InnerCells.{no_wire, sign_not}
use Rattle.grid_draw.proofs.LegBytes.{leg_drawn}
use Rattle.grid_draw.proofs.LegCells as cells
use Rattle.grid_draw.proofs.LegEnds.{IsInner, inner_at, IsBend, Laid, laid, IsLast, last_index}
use Rattle.grid_draw.proofs.LegEnds.{leg_inner, bend, piece_long, last_is}
use Rattle.grid_draw.proofs.Placed.{placed, placed_far, placed_turn, courses_turn, fits_less}
use Rattle.grid_draw.proofs.Placed.{on_leg_moved, joint_moved}
use Rattle.grid_draw.proofs.PlainTexts.{text_some}
use Rattle.grid_draw.proofs.Regions.{between_boxes, right_of_box, box_reaches, in_box}
use Rattle.grid_draw.proofs.WireEnds.{end_cell, end_to, last_cell, last_to, on_joint, down_byte}
use Rattle.grid_draw.proofs.WireEnds.{across_byte, none_across, none_down, end_on_leg, on_way}

-- the drawing of a module between other lines
abbrev pub drawn : ModuleForm → List (List ℕ) → List (List ℕ) → Drawing
drawn m above below = drawing (sheet m above below) (frame_of m above) m.name (boxes_of m above)

-- the byte of a line, or `#`, is a sign of wires
line_sign : (a : Axis) (v : ℕ) → (v ≡ line a) ⊎ (v ≡ 35) → IsSign v
line_sign horizontal v (inl e) = minus e
line_sign vertical v (inl e) = bar e
line_sign a v (inr e) = hash e

-- what stands in an option
some_of : (o : Option Origin) → is_some o ≡ true → (x : Origin) × (o ≡ Some x)
some_of None e = absurd (cc)
some_of (Some x) e = (x, refl)

-- an option in which something stands
of_some : (o : Option Origin) (x : Origin) → o ≡ Some x → is_some o ≡ true
of_some o x e = ap is_some e

-- no place stands before itself
no_two : (p q x : Place) → p ≡ x → q ≡ x → Before q p → ⊥
no_two p q x e f (inl above) =
    let r = ap (λ (z : Place). z.row) e in let s = ap (λ (z : Place). z.row) f in omega arith
no_two p q x e f (inr (same, left)) =
    let r = ap (λ (z : Place). z.col) e in let s = ap (λ (z : Place). z.col) f in omega arith

module _ (m : ModuleForm) (sound : IsSound m) (leads : LeadsOn m)
    (above below : List (List ℕ)) where
  -- the grid
  abbrev grid : Grid
  grid = sheet m above below

  -- the frame
  abbrev f : Rect
  f = frame_of m above

  -- the place of the drawing's top left corner
  abbrev o : Place
  o = place_of above

  -- the module as it is drawn
  abbrev d : Drawing
  d = drawn m above below

  -- its wires
  abbrev cs : List Course
  cs = placed (place_of above) m

  -- the wires before they are moved are far apart
  far : AreFar (courses m)
  far = courses_far m sound

  -- a cell within the borders holds the byte of the drawing
  holds : (q : Place) → IsInner m q → (b : ℕ) → byte_at m q.row q.col ≡ b → Holds d b (moved o q)
  holds q is b byte =
      let up = is.above in let left = is.left in (
        inner_within m sound above below q is,
        drawn_cell m above below q.row q.col (omega arith)
            (omega arith) ∙ byte,
      )

  -- the same by the byte within the borders
  inner_holds : (q : Place) → IsInner m q → (b : ℕ) → inner_byte m q.row q.col ≡ b
      → Holds d b (moved o q)
  inner_holds q is b byte =
      (inner_within m sound above below q is, inner_cell m sound above below q is ∙ byte)

  -- a box by its number
  box_at : (b : ℕ) → b < length m.boxes → (one : BoxForm) × (slice_get m.boxes b ≡ Some one)
  box_at b lt = let (one, at_b, wide) = cells.box_there m.boxes b lt in (one, at_b)

  -- the column of its E port
  east_is : (b : ℕ) (one : BoxForm) → slice_get m.boxes b ≡ Some one → east_of m b ≡ 6 + width one
  east_is b one at_b =
      let (other, at_other, wide) =
      cells.box_there m.boxes b (slice_get_within m.boxes b one at_b) in
      let same = ap width (same_Some other one (sym at_other ∙ at_b)) in omega arith

  -- the S port from which a wire begins
  s_port : (c : Course) → Contains (courses m) c → (b : ℕ) (one : BoxForm)
      → slice_get m.boxes b ≡ Some one → c.start
      ≡ (record { place = at (box_row b 6) 5; to = south })
      → IsSPort d (rect_of (length above + 1) b one) (moved o (at (box_row b 6) 5))
  s_port c there b one at_b starts =
      let lt = slice_get_within m.boxes b one at_b in
      let reaches = box_reaches (length m.name) b m.boxes one at_b in
      let wide = text_some one.command in
      let down : passes vertical (courses m) (at (box_row b 6) 5) ≡ true =
      subst (λ (s : Position). passes (axis_of s.to) (courses m) s.place ≡ true) starts
      (start_passes m sound c there) in
      let byte =
      between_boxes m (box_row b 6) 5 (λ x. omega arith) (λ x. omega arith) (λ x. omega arith)
      (λ x. omega arith) (λ x. omega arith)
      ∙ down_byte m sound (at (box_row b 6) 5) down (none_across m sound b 5 lt) in (
        inner_holds (at (box_row b 6) 5)
            (inner_at m (box_row b 6) 5 (omega arith) (omega arith) (omega arith) (omega arith)) 124
            byte,
        omega arith,
        (omega arith, omega arith),
      )

  -- the E port from which a wire begins
  e_port : (c : Course) → Contains (courses m) c → (b : ℕ) (one : BoxForm)
      → slice_get m.boxes b ≡ Some one → c.start
      ≡ (record { place = at (box_row b 4) (6 + width one); to = east })
      → IsEPort d (rect_of (length above + 1) b one) (moved o (at (box_row b 4) (6 + width one)))
  e_port c there b one at_b starts =
      let lt = slice_get_within m.boxes b one at_b in
      let reaches = box_reaches (length m.name) b m.boxes one at_b in
      let across : passes horizontal (courses m) (at (box_row b 4) (6 + width one)) ≡ true =
      subst (λ (s : Position). passes (axis_of s.to) (courses m) s.place ≡ true) starts
      (start_passes m sound c there) in
      let byte =
      right_of_box m (box_row b 4) (6 + width one) (λ x. omega arith) one
      (ap (slice_get m.boxes) (in_box b 4 (omega arith)).0 ∙ at_b) (omega arith)
      ∙ across_byte m sound (at (box_row b 4) (6 + width one)) across
      (none_down m sound b (box_row b 4) one at_b) in (
        inl (inner_holds (at (box_row b 4) (6 + width one))
            (inner_at m (box_row b 4) (6 + width one) (omega arith) (omega arith) (omega arith)
            (omega arith)) 45 byte),
        omega arith,
        (omega arith, omega arith),
      )

  -- a wire begins where its origin is
  starts_at : (c : Course) → Contains (courses m) c → (x : Laid m c) (from : Origin)
      → x.w.from ≡ from
      → StartsAt d (record {
        place = moved o (start_on m x.t from).place;
        to =
            (start_on m x.t from).to;
      }) from
  starts_at c there x North is =
      at_north (moved o (at 0 x.t)) (omega arith, by (north_is m sound above below leads))
    where
      by : AreNorth m sound above below (north_entries grid f)
          → Contains (north_entries grid f) (1 + x.t)
      by (no_north e none_there) =
          absurd (let entry : m.north ≡ true =
          sound.known North x.w.to (subst (λ z. Comes m z x.w.to) is x.comes) in cc)
      by (one_north e c' there' y from entries) =
          let track : 1 + y.t ≡ 1 + x.t =
          ap (λ n. 1 + n) (one_track m sound c' c y x (from ∙ sym is)) in
          subst (λ l. Contains l (1 + x.t)) (sym entries) (0, omega arith, track)
  starts_at c there x West is =
      at_west (moved o (at 2 0)) (omega arith, by (west_is m sound above below leads))
    where
      by : AreWest m sound above below (west_entries grid f)
          → Contains (west_entries grid f) (length above + 1 + 2)
      by (no_west e none_there) =
          absurd (let entry : m.west ≡ true = sound.known West x.w.to
          (subst (λ z. Comes m z x.w.to) is x.comes) in cc)
      by (one_west e c' there' y from entries) =
          subst (λ l. Contains l (length above + 1 + 2)) (sym entries) (0, omega arith, refl)
  starts_at c there x (South b) is =
      let (one, at_b) = box_at b (x.known.south_box b is) in
      at_south (moved o (at (box_row b 6) 5)) b (rect_of (length above + 1) b one)
      (rect_there m above b one at_b) (s_port c there b one at_b (starts_so m c x (South b) is))
  starts_at c there x (East b) is =
      let (one, at_b) = box_at b (x.known.east_box b is) in
      let col = east_is b one at_b in
      let starts =
      starts_so m c x (East b) is ∙ ap (λ n. record { place = at (box_row b 4) n; to = east })
      col in
      subst (λ n. StartsAt d (record { place = moved o (at (box_row b 4) n); to = east }) (East b))
      (sym col)
      (at_east (moved o (at (box_row b 4) (6 + width one))) b (rect_of (length above + 1) b one)
      (rect_there m above b one at_b) (e_port c there b one at_b starts))

  -- the port at which a wire to N ends
  n_port : (b : ℕ) (one : BoxForm) → slice_get m.boxes b ≡ Some one → is_some one.n ≡ true
      → IsNPort d (rect_of (length above + 1) b one) (moved o (at (box_row b 2) 5))
  n_port b one at_b some =
      let lt = slice_get_within m.boxes b one at_b in
      let reaches = box_reaches (length m.name) b m.boxes one at_b in
      let wide = text_some one.command in
      let byte = box_rows m b 2 5 one at_b (omega arith) ∙ n_byte one _ some in (
        inner_holds (at (box_row b 2) 5)
            (inner_at m (box_row b 2) 5 (omega arith) (omega arith) (omega arith) (omega arith)) 118
            byte,
        omega arith,
        (omega arith, omega arith),
        λ (row, left, right). omega arith,
      )

  -- the port at which a wire to W ends
  w_port : (b : ℕ) (one : BoxForm) → slice_get m.boxes b ≡ Some one → is_some one.w ≡ true
      → IsWPort d (rect_of (length above + 1) b one) (moved o (at (box_row b 4) 3))
  w_port b one at_b some =
      let lt = slice_get_within m.boxes b one at_b in
      let reaches = box_reaches (length m.name) b m.boxes one at_b in
      let byte = box_rows m b 4 3 one at_b (omega arith) ∙ w_byte one _ some in (
        inner_holds (at (box_row b 4) 3)
            (inner_at m (box_row b 4) 3 (omega arith) (omega arith) (omega arith) (omega arith)) 62
            byte,
        omega arith,
        (omega arith, omega arith),
      )

  -- a wire ends where its end is
  ends_at : (from : Origin) (e : To) → Comes m from e → EndsAt d
      (record { place = moved o (end_cell m e); to = end_to e }) e
  ends_at from (N b) (one, at_b, is) =
      at_n (moved o (at (box_row b 2) 5)) b (rect_of (length above + 1) b one)
      (rect_there m above b one at_b) (n_port b one at_b (of_some one.n from is))
  ends_at from (W b) (one, at_b, is) =
      at_w (moved o (at (box_row b 4) 3)) b (rect_of (length above + 1) b one)
      (rect_there m above b one at_b) (w_port b one at_b (of_some one.w from is))
  ends_at from (Exit i) comes =
      let lt = slice_get_within m.exits i (Some from) comes in
      let place : at (length above + 1 + exit_row m i) (columns m + 2) ≡ moved o
      (end_cell m (Exit i)) =
      equal_places (at (length above + 1 + exit_row m i) (columns m + 2))
      (moved o (end_cell m (Exit i))) refl (omega arith) in
      subst (λ p. EndsAt d (record { place = p; to = east }) (Exit i)) place
      (at_exit (length above + 1 + exit_row m i) i (exit_at m sound above below i lt))

  -- each wire begins left of the right border
  start_left : (t : ℕ) (from : Origin) → t < columns m
      → ((b : ℕ) → from ≡ East b → b < length m.boxes)
      → ((b : ℕ) → from ≡ South b → b < length m.boxes)
      → (start_on m t from).place.col < columns m
  start_left t North lt known known_s = lt
  start_left t West lt known known_s = omega arith
  start_left t (South b) lt known known_s =
      let (one, at_b) = box_at b (known_s b refl) in
      let reaches = box_reaches (length m.name) b m.boxes one at_b in omega arith
  start_left t (East b) lt known known_s =
      let (one, at_b) = box_at b (known b refl) in
      let reaches = box_reaches (length m.name) b m.boxes one at_b in
      let col = east_is b one at_b in omega arith

  module _ (c : Course) (there : Contains (courses m) c) where
    -- the wire and its track
    x : Laid m c
    x = laid m sound c there

    -- its legs fit
    fits : (k : ℕ) (l : Leg) → slice_get (legs c) k ≡ Some l → Fits l.to l.from l.long
    fits = far.fits c there

    -- it goes straight between the ends of its legs
    straight : (k : ℕ) (l : Leg) → slice_get (legs c) k ≡ Some l → (j : ℕ) → 0 < j → j < l.long
        → IsStraight d (spot (moved_leg o l) j)
    straight k l at_k j pos lt =
        let q = along l.to j l.from in
        let is : IsInner m q =
        leg_inner m x.t x.right x.left x.past x.w.from x.w.to x.known k l
        (x.piece k l at_k) j pos lt in
        let place : along l.to j (moved o l.from) ≡ moved o q =
        along_moved o l.to j l.from
        (fits_less l.to l.from l.long j (omega arith) (fits k l at_k)) in
        subst (λ p. IsStraight d (record { place = p; to = l.to })) (sym place)
        (elim (leg_drawn m sound c there k l at_k j pos lt) [
          | inl line_there ↦ inl (holds q is (line (axis_of l.to)) line_there)
          | inr crossing ↦ inr (holds q is 35 crossing)
        ])

    -- each leg but the first begins where a wire turns
    bend_there : (k : ℕ) (n : Leg) → slice_get (legs c) (suc k) ≡ Some n → IsBend m n.from
    bend_there k n at_j =
        bend m x.t x.right x.left x.past x.w.from x.w.to x.known k (suc k) n
        (x.piece (suc k) n at_j) refl

    -- there stands `+`
    turn_there : (k : ℕ) (n : Leg) → slice_get (legs c) (suc k) ≡ Some n
        → Holds d 43 (moved o n.from)
    turn_there k n at_j =
        let b = bend_there k n at_j in
        holds n.from b.inner 43 (b.byte ∙ joint_byte (courses m) far
        (courses_turn m sound) c there k n at_j)

    -- each leg goes on
    goes_far : (k : ℕ) (l : Leg) → slice_get (legs c) k ≡ Some l → 0 < l.long
    goes_far k l at_k =
        piece_long m x.t x.right x.left x.past x.w.from x.w.to x.known k l (x.piece k l at_k)

    -- where a leg ends and another begins, the wire turns
    joint : (k : ℕ) (l n : Leg) → slice_get (legs (moved_course o c)) k ≡ Some l
        → slice_get (legs (moved_course o c)) (suc k) ≡ Some n → IsJoint d l n
    joint k l n at_k at_j =
        let (a, at_a, is_a) = leg_moved o c fits k l at_k in
        let (b, at_b, is_b) = leg_moved o c fits (suc k) n at_j in
        let meets : along l.to l.long l.from ≡ n.from = joined (moved_course o c) k l n at_k at_j in
        let edge = (bend_there k b at_b).far in
        let col : 1 + b.from.col ≡ n.from.col = ap (λ (z : Leg). z.from.col) is_b in
        record {
          turn = subst (Holds d 43) (sym meets)
              (subst (λ (z : Leg). Holds d 43 z.from) is_b (turn_there k b at_b));
          other = placed_turn o m sound (moved_course o c) k l n
              (contains_map (moved_course o) (courses m) c there) at_k at_j;
          joined = sym meets;
          long = subst (λ (z : Leg). 0 < z.long) is_a (goes_far k a at_a);
          on = subst (λ (z : Leg). 0 < z.long) is_b (goes_far (suc k) b at_b);
          inner = omega arith;
        }

    -- the last leg ends at the wire's end
    ends : (k : ℕ) (l : Leg) → slice_get (legs (moved_course o c)) k ≡ Some l
        → length (legs (moved_course o c)) ≡ suc k → EndsAt d (spot l l.long) c.wire.to
    ends k l at_k long =
        let (a, at_a, is_a) = leg_moved o c fits k l at_k in
        let whole : length (legs (moved_course o c)) ≡ suc (last_index x.w.from x.w.to) =
        ap length (legs_moved o c fits) ∙ (length-map (legs c) (moved_leg o) ∙ x.long) in
        let last : IsLast m x.t x.w.to a =
        last_is m x.t x.right x.left x.past x.w.from x.w.to x.known k a (x.piece k a at_a)
        (omega arith) in
        let place : along a.to a.long (moved o a.from) ≡ moved o (end_cell m x.w.to) =
        along_moved o a.to a.long a.from (fits k a at_a)
        ∙ ap (moved o) (last_cell m x.t x.left x.w.to a last) in
        subst (λ (z : Leg). EndsAt d (spot z z.long) c.wire.to) is_a
        (subst (λ (w : WireForm). EndsAt d (spot (moved_leg o a) a.long) w.to) (sym x.wire)
        (subst (λ p. EndsAt d (record { place = p; to = a.to }) x.w.to) (sym place)
        (subst (λ z. EndsAt d (record { place = moved o (end_cell m x.w.to); to = z }) x.w.to)
        (sym (last_to m x.t x.w.to a last))
        (ends_at x.w.from x.w.to x.comes))))

    -- the wire at its place in the grid
    is_moved : IsCourse d (moved_course o c)
    is_moved = record {
      starts = subst (λ (s : Position). StartsAt d (record { place = moved o s.place; to = s.to })
          c.wire.from) (sym (starts_so m c x x.w.from refl))
          (subst (λ (w : WireForm). StartsAt d
          (record {
            place = moved o (start_on m x.t x.w.from).place;
            to =
                (start_on m x.t x.w.from).to;
          }) w.from) (sym x.wire)
          (starts_at c there x x.w.from refl));
      inner = λ pos.
          let before = start_left x.t x.w.from x.left x.known.east_box x.known.south_box in
          let col : c.start.place.col ≡ (start_on m x.t x.w.from).place.col =
          ap (λ (s : Position). s.place.col) (starts_so m c x x.w.from refl) in omega arith;
      fits = (placed_far o m sound).fits (moved_course o c)
          (contains_map (moved_course o) (courses m) c there);
      straight = λ k l at_k.
          let (a, at_a, is_a) = leg_moved o c fits k l at_k in
          subst (λ (z : Leg). (j : ℕ) → 0 < j → j < z.long → IsStraight d (spot z j)) is_a
          (straight k a at_a);
      joints = joint;
      ends = ends;
    }

  -- each wire there runs from its start to its end
  is_course : (c : Course) → Contains cs c → IsCourse d c
  is_course c there =
      let (a, there_a, same) = map_contains (moved_course o) (courses m) c there in
      subst (IsCourse d) same (is_moved a there_a)

  -- each leg of a wire there goes on
  long_legs : (c : Course) → Contains cs c → (k : ℕ) (l : Leg) → slice_get (legs c) k ≡ Some l
      → 0 < l.long
  long_legs c there k l at_k =
      let (a, there_a, same) = map_contains (moved_course o) (courses m) c there in
      let (n, at_j, is) =
      leg_moved o a (fits a there_a) k l
      (subst (λ z. slice_get (legs z) k ≡ Some l) (sym same) at_k) in
      subst (λ (z : Leg). 0 < z.long) is (goes_far a there_a k n at_j)

  -- a cell with a sign of wires, by its place in the drawing
  record Signed (p : Place) : Type 0 where
    q : Place
    is : IsInner m q
    same : moved (place_of above) q ≡ p
    wired : cell (sheet m above below) p ≡ wire_byte (courses m) q

  -- a sign of wires stands where the wires say
  signed : (p : Place) → Within f p → IsSign (cell grid p) → Signed p
  signed p w sign =
      let (q, is, same) = back m sound above below p w in
      let byte : inner_byte m q.row q.col ≡ cell grid p =
      sym (inner_cell m sound above below q is) ∙ ap (cell grid) same in
      record {
        q = q;
        is = is;
        same = same;
        wired = sym byte ∙ sign_wired m q.row q.col (inner_byte m q.row q.col)
            (inner m sound q.row q.col is.right) (subst IsSign (sym byte) sign);
      }

  -- a cell with the byte of a line, or `#`, is of a leg on that axis
  line_there : (p : Place) (a : Axis) → Within f p → (cell grid p ≡ line a) ⊎ (cell grid p ≡ 35)
      → OnLeg cs p a
  line_there p a w byte =
      let s = signed p w (line_sign a (cell grid p) byte) in
      subst (λ z. OnLeg cs z a) s.same (on_leg_moved o (courses m) far s.q a
      (line_is_on a (courses m) s.q
      (elim byte [ inl e ↦ inl (sym s.wired ∙ e) | inr e ↦ inr (sym s.wired ∙ e) ])))

  -- a cell with `+` is one where a wire turns, before it is moved
  joint_there : (p : Place) → Within f p → cell grid p ≡ 43 → (q : Place) × (moved o q ≡ p)
      × AtJoint (courses m) q
  joint_there p w e =
      let s = signed p w (plus e) in (s.q, s.same, turn_is_at (courses m) s.q (sym s.wired ∙ e))

  -- and so it is at its place
  turned : (p : Place) → Holds d 43 p → AtJoint cs p
  turned p (w, e) =
      let (q, same, joint_at) = joint_there p w e in
      subst (AtJoint cs) same (joint_moved o (courses m) far q joint_at)

  -- a cell with the byte of an N port over a box is one where a wire ends
  n_port_at : (b : ℕ) (r : Rect) → slice_get (boxes_of m above) b ≡ Some r → (p : Place)
      → IsNPort d r p → (moved o (at (box_row b 2) 5) ≡ p) × ((from : Origin) × Comes m from (N b))
  n_port_at b r at_b p ((w, byte), over, across, no_name) =
      let (one, at_one, rect) = box_there m above b r at_b in
      let top : length above + 1 + box_row b 3 ≡ r.top = ap (λ (z : Rect). z.top) rect in
      let (q, is, same) = back m sound above below p w in
      let row : length above + 1 + q.row ≡ p.row = ap (λ (z : Place). z.row) same in
      let mark : inner_byte m q.row q.col ≡ 118 =
      sym (inner_cell m sound above below q is) ∙ (ap (cell grid) same ∙ byte) in
      by q same (omega arith) (inner_byte m q.row q.col) mark (inner m sound q.row q.col is.right)
    where
      by : (q : Place) → moved o q ≡ p → q.row ≡ box_row b 2 → (v : ℕ) → v ≡ 118
          → Inner m q.row q.col v → (moved o (at (box_row b 2) 5) ≡ p)
          × ((from : Origin) × Comes m from (N b))
      by q same at_row v mark (of_name row col is_letter) = absurd (omega arith)
      by q same at_row v mark (n_mark k one at_k some row col is) =
          let box : k ≡ b = omega arith in
          let (from, is_from) = some_of one.n some in (
            ap (moved o) (equal_places (at (box_row b 2) 5) q (sym at_row) (sym col)) ∙ same,
            (from, (one, subst (λ z. slice_get m.boxes z ≡ Some one) box at_k, is_from)),
          )
      by q same at_row v mark (w_mark k one at_k some row col is) = absurd (omega arith)
      by q same at_row v mark (of_box k one at_k i low high row from to bytes) =
          absurd (omega arith)
      by q same at_row v mark (of_wires wired) =
          absurd (no_wire (courses m) (at q.row q.col) v 118 wired mark (λ z. omega arith)
          (sign_not 118 118 refl (λ z. omega arith) (λ z. omega arith) (λ z. omega arith)
          (λ z. omega arith)))

  -- so is one with the byte of a W port before a box
  w_port_at : (b : ℕ) (r : Rect) → slice_get (boxes_of m above) b ≡ Some r → (p : Place)
      → IsWPort d r p → (moved o (at (box_row b 4) 3) ≡ p) × ((from : Origin) × Comes m from (W b))
  w_port_at b r at_b p ((w, byte), before, (under, over)) =
      let (one, at_one, rect) = box_there m above b r at_b in
      let top : length above + 1 + box_row b 3 ≡ r.top = ap (λ (z : Rect). z.top) rect in
      let bottom : length above + 1 + box_row b 5 ≡ r.bottom = ap (λ (z : Rect). z.bottom) rect in
      let left : 5 ≡ r.left = ap (λ (z : Rect). z.left) rect in
      let (q, is, same) = back m sound above below p w in
      let row : length above + 1 + q.row ≡ p.row = ap (λ (z : Place). z.row) same in
      let col : 1 + q.col ≡ p.col = ap (λ (z : Place). z.col) same in
      let mark : inner_byte m q.row q.col ≡ 62 =
      sym (inner_cell m sound above below q is) ∙ (ap (cell grid) same ∙ byte) in
      by q same (omega arith) (omega arith) (inner_byte m q.row q.col) mark
      (inner m sound q.row q.col is.right)
    where
      by : (q : Place) → moved o q ≡ p → q.row ≡ box_row b 4 → q.col ≡ 3 → (v : ℕ) → v ≡ 62
          → Inner m q.row q.col v → (moved o (at (box_row b 4) 3) ≡ p)
          × ((from : Origin) × Comes m from (W b))
      by q same at_row at_col v mark (of_name row col is_letter) = absurd (omega arith)
      by q same at_row at_col v mark (n_mark k one at_k some row col is) = absurd (omega arith)
      by q same at_row at_col v mark (w_mark k one at_k some row col is) =
          let box : k ≡ b = omega arith in
          let (from, is_from) = some_of one.w some in (
            ap (moved o) (equal_places (at (box_row b 4) 3) q (sym at_row) (sym col)) ∙ same,
            (from, (one, subst (λ z. slice_get m.boxes z ≡ Some one) box at_k, is_from)),
          )
      by q same at_row at_col v mark (of_box k one at_k i low high row from to bytes) =
          absurd (omega arith)
      by q same at_row at_col v mark (of_wires wired) =
          absurd (no_wire (courses m) (at q.row q.col) v 62 wired mark (λ z. omega arith)
          (sign_not 62 62 refl (λ z. omega arith) (λ z. omega arith) (λ z. omega arith)
          (λ z. omega arith)))

  -- a cell with the byte of an S port under a box is one where a wire begins
  s_port_at : (b : ℕ) (r : Rect) → slice_get (boxes_of m above) b ≡ Some r → (p : Place)
      → IsSPort d r p → (moved o (at (box_row b 6) 5) ≡ p)
      × Begins m (at (box_row b 6) 5) south (South b)
  s_port_at b r at_b p ((w, byte), under, (left, right)) =
      let (one, at_one, rect) = box_there m above b r at_b in
      let bottom : length above + 1 + box_row b 5 ≡ r.bottom = ap (λ (z : Rect). z.bottom) rect in
      let r_left : 5 ≡ r.left = ap (λ (z : Rect). z.left) rect in
      let r_right : 6 + width one ≡ r.right = ap (λ (z : Rect). z.right) rect in
      let s = signed p w (bar byte) in
      let row : length above + 1 + s.q.row ≡ p.row = ap (λ (z : Place). z.row) s.same in
      let col : 1 + s.q.col ≡ p.col = ap (λ (z : Place). z.col) s.same in
      let at_row : s.q.row ≡ box_row b 6 = omega arith in
      let on : OnLeg (courses m) s.q vertical =
      line_is_on vertical (courses m) s.q (inl (sym s.wired ∙ byte)) in
      let (begins, five) =
      at_s m sound b s.q.col one at_one (omega arith) (omega arith)
      (subst (λ z. OnLeg (courses m) z vertical)
      (equal_places s.q (at (box_row b 6) s.q.col) at_row refl) on) in (
        ap (moved o) (equal_places (at (box_row b 6) 5) s.q (sym at_row) (sym five))
            ∙ s.same,
        begins,
      )

  -- so is one with the byte of an E port behind a box
  e_port_at : (b : ℕ) (r : Rect) → slice_get (boxes_of m above) b ≡ Some r → (p : Place)
      → IsEPort d r p
      → (one : BoxForm) × (slice_get m.boxes b ≡ Some one)
      × (moved o (at (box_row b 4) (6 + width one)) ≡ p)
      × Begins m (at (box_row b 4) (6 + width one)) east (East b)
  e_port_at b r at_b p (inr (edge, there), col_is, rows_are) =
      let (one, at_one, rect) = box_there m above b r at_b in
      let r_right : 6 + width one ≡ r.right = ap (λ (z : Rect). z.right) rect in
      let reaches = box_reaches (length m.name) b m.boxes one at_one in
      absurd (omega arith)
  e_port_at b r at_b p (inl (w, byte), col_is, (under, over)) =
      let (one, at_one, rect) = box_there m above b r at_b in
      let top : length above + 1 + box_row b 3 ≡ r.top = ap (λ (z : Rect). z.top) rect in
      let bottom : length above + 1 + box_row b 5 ≡ r.bottom = ap (λ (z : Rect). z.bottom) rect in
      let r_right : 6 + width one ≡ r.right = ap (λ (z : Rect). z.right) rect in
      let s = signed p w (minus byte) in
      let row : length above + 1 + s.q.row ≡ p.row = ap (λ (z : Place). z.row) s.same in
      let col : 1 + s.q.col ≡ p.col = ap (λ (z : Place). z.col) s.same in
      let q_is : s.q ≡ at (box_row b 4) (6 + width one) =
      equal_places s.q (at (box_row b 4) (6 + width one)) (omega arith) (omega arith) in
      let on : OnLeg (courses m) s.q horizontal =
      line_is_on horizontal (courses m) s.q (inl (sym s.wired ∙ byte)) in (
        one,
        at_one,
        ap (moved o) (sym q_is) ∙ s.same,
        at_e m sound b one at_one
            (subst (λ z. OnLeg (courses m) z horizontal) q_is on),
      )

  -- each cell that a wire may come to is of a leg on that axis
  taken : (p : Place) (to : Direction) → p.col < f.right → IsTaker d (record { place = p; to = to })
      → OnLeg cs p (axis_of to)
  taken p to lt (inl (inl (w, e))) = line_there p (axis_of to) w (inl e)
  taken p to lt (inl (inr (w, e))) = line_there p (axis_of to) w (inr e)
  taken p to lt (inr (inl (w, e))) =
      let (q, same, joint_at) = joint_there p w e in
      subst (λ z. OnLeg cs z (axis_of to)) same
      (on_leg_moved o (courses m) far q (axis_of to) (on_joint m sound q joint_at (axis_of to)))
  taken p to lt (inr (inr (end, ends_there))) = by (record { place = p; to = to }) end lt ends_there
    where
      by : (s : Position) (end : To) → s.place.col < f.right → EndsAt d s end
          → OnLeg cs s.place (axis_of s.to)
      by _ _ lt (at_n q b r at_b port) =
          let (same, (from, comes)) = n_port_at b r at_b q port in
          subst (λ z. OnLeg cs z vertical) same
          (on_leg_moved o (courses m) far (end_cell m (N b)) vertical
          (end_on_leg m sound from (N b) comes))
      by _ _ lt (at_w q b r at_b port) =
          let (same, (from, comes)) = w_port_at b r at_b q port in
          subst (λ z. OnLeg cs z horizontal) same
          (on_leg_moved o (courses m) far (end_cell m (W b)) horizontal
          (end_on_leg m sound from (W b) comes))
      by _ _ lt (at_exit row i at_i) = absurd (omega arith)

  -- a wire that begins there, at its place
  begun_at : (q : Place) (to : Direction) (from : Origin) → Begins m q to from → (p : Place)
      → moved o q ≡ p → (c : Course) × Contains cs c × (c.start ≡ (record { place = p; to = to }))
  begun_at q to from begins p same = (
    moved_course o begins.course,
    contains_map (moved_course o) (courses m) begins.course begins.there,
    ap (λ (s : Position). record { place = moved o s.place; to = s.to }) begins.start
        ∙ ap (λ z. record { place = z; to = to }) same,
  )

  -- from each start of the module a wire begins
  begun : (s : Position) → IsStart d s → (c : Course) × Contains cs c × (c.start ≡ s)
  begun s (from, starts) = by s from starts
    where
      from_north : (p : Place) → p.row ≡ length above + 1
          → AreNorth m sound above below (north_entries grid f)
          → Contains (north_entries grid f) p.col
          → (c : Course) × Contains cs c × (c.start ≡ (record { place = p; to = south }))
      from_north p row (no_north e entries) there =
          absurd (let (k, lt, is) = subst (λ l. Contains l p.col) entries there in omega arith)
      from_north p row (one_north e c c_there x is_from entries) there =
          let col : 1 + x.t ≡ p.col =
          one_there (1 + x.t) p.col (subst (λ l. Contains l p.col) entries there) in
          begun_at (at 0 x.t) south North
          (record {
            course = c;
            there = c_there;
            start =
                starts_so m c x North is_from;
            from =
                ap (λ (w : WireForm). w.from) x.wire ∙ is_from;
          }) p
          (equal_places (moved o (at 0 x.t)) p (omega arith) col)
        where
          one_there : (a b : ℕ) → Contains (a ∷ []) b → a ≡ b
          one_there a b (zero, lt, is) = is
          one_there a b (suc k, lt, is) = absurd (omega arith)

      from_west : (p : Place) → p.col ≡ 1 → AreWest m sound above below (west_entries grid f)
          → Contains (west_entries grid f) p.row
          → (c : Course) × Contains cs c × (c.start ≡ (record { place = p; to = east }))
      from_west p col (no_west e entries) there =
          absurd (let (k, lt, is) = subst (λ l. Contains l p.row) entries there in omega arith)
      from_west p col (one_west e c c_there x is_from entries) there =
          let row : length above + 1 + 2 ≡ p.row =
          one_there (length above + 1 + 2) p.row
          (subst (λ l. Contains l p.row) entries there) in
          begun_at (at 2 0) east West
          (record {
            course = c;
            there = c_there;
            start =
                starts_so m c x West is_from;
            from =
                ap (λ (w : WireForm). w.from) x.wire ∙ is_from;
          }) p
          (equal_places (moved o (at 2 0)) p row (omega arith))
        where
          one_there : (a b : ℕ) → Contains (a ∷ []) b → a ≡ b
          one_there a b (zero, lt, is) = is
          one_there a b (suc k, lt, is) = absurd (omega arith)

      by : (s : Position) (from : Origin) → StartsAt d s from → (c : Course) × Contains cs c
          × (c.start ≡ s)
      by _ _ (at_north p (row, there)) = from_north p row (north_is m sound above below leads) there
      by _ _ (at_west p (col, there)) = from_west p col (west_is m sound above below leads) there
      by _ _ (at_south p b r at_b port) =
          let (same, begins) = s_port_at b r at_b p port in
          begun_at (at (box_row b 6) 5) south (South b) begins p same
      by _ _ (at_east p b r at_b port) =
          let (one, at_one, same, begins) = e_port_at b r at_b p port in
          begun_at (at (box_row b 4) (6 + width one)) east (East b) begins p same

  -- no side of a box has two ports
  ports : (r : Rect) → Contains (boxes_of m above) r → ports_at d r (Ok tt)
  ports r (b, lt, is) =
      goes_on tt (none (λ p second. let (q, before, other) = second.holds.1 in
      no_two p q (moved o (at (box_row b 2) 5)) (sym (n_port_at b r at_b p second.holds.0).0)
      (sym (n_port_at b r at_b q other).0) before))
      (goes_on tt (none (λ p second. let (q, before, other) = second.holds.1 in
      no_two p q (moved o (at (box_row b 4) 3)) (sym (w_port_at b r at_b p second.holds.0).0)
      (sym (w_port_at b r at_b q other).0) before))
      (goes_on tt (none (λ p second. let (q, before, other) = second.holds.1 in
      no_e p q second.holds.0 other before))
      (none (λ p second. let (q, before, other) = second.holds.1 in
      no_two p q (moved o (at (box_row b 6) 5)) (sym (s_port_at b r at_b p second.holds.0).0)
      (sym (s_port_at b r at_b q other).0) before))))
    where
      at_b : slice_get (boxes_of m above) b ≡ Some r
      at_b = slice_get-get_or (boxes_of m above) b r lt ∙ ap (λ z. Some z) is

      no_e : (p q : Place) → IsEPort d r p → IsEPort d r q → Before q p → ⊥
      no_e p q one other before =
          let (a, at_a, same, begins) = e_port_at b r at_b p one in
          let (c, at_c, same_c, begins_c) = e_port_at b r at_b q other in
          let wide = ap width (same_Some c a (sym at_c ∙ at_a)) in
          no_two p q (moved o (at (box_row b 4) (6 + width a))) (sym same)
          (sym same_c ∙ ap (λ n. moved o (at (box_row b 4) (6 + n))) wide) before

  -- no cell is stray
  stray : (p : Place) → IsStray d (map way (map route cs)) p → ⊥
  stray p s =
      let (q, is, same) = back m sound above below p s.interior in
      let byte : inner_byte m q.row q.col ≡ cell grid p =
      sym (inner_cell m sound above below q is) ∙ ap (cell grid) same in
      by q is same (inner_byte m q.row q.col) byte (inner m sound q.row q.col is.right)
    where
      on_wire : (q : Place) (a : Axis) → moved o q ≡ p → OnLeg (courses m) q a → ⊥
      on_wire q a same on =
          s.no_wire (on_way cs long_legs p a (subst (λ z. OnLeg cs z a) same
          (on_leg_moved o (courses m) far q a on)))

      of_sign : (q : Place) → moved o q ≡ p → IsSign (wire_byte (courses m) q) → ⊥
      of_sign q same (hash e) =
          on_wire q horizontal same (line_is_on horizontal (courses m) q (inr e))
      of_sign q same (minus e) =
          on_wire q horizontal same (line_is_on horizontal (courses m) q (inl e))
      of_sign q same (bar e) = on_wire q vertical same (line_is_on vertical (courses m) q (inl e))
      of_sign q same (plus e) =
          on_wire q horizontal same (on_joint m sound q (turn_is_at (courses m) q e) horizontal)

      by : (q : Place) → IsInner m q → moved o q ≡ p → (v : ℕ) → v ≡ cell grid p
          → Inner m q.row q.col v → ⊥
      by q is same v byte (of_name row col is_letter) =
          let at_row : length above + 1 + q.row ≡ p.row = ap (λ (z : Place). z.row) same in
          let at_col : 1 + q.col ≡ p.col = ap (λ (z : Place). z.col) same in
          let right = is.right in
          s.no_name (omega arith, omega arith, omega arith)
      by q is same v byte (n_mark b one at_b some row col mark) =
          let (from, is_from) = some_of one.n some in
          on_wire q vertical same (subst (λ z. OnLeg (courses m) z vertical)
          (equal_places (at (box_row b 2) 5) q (sym row) (sym col))
          (end_on_leg m sound from (N b) (one, at_b, is_from)))
      by q is same v byte (w_mark b one at_b some row col mark) =
          let (from, is_from) = some_of one.w some in
          on_wire q horizontal same
          (subst (λ z. OnLeg (courses m) z horizontal)
          (equal_places (at (box_row b 4) 3) q (sym row) (sym col))
          (end_on_leg m sound from (W b) (one, at_b, is_from)))
      by q is same v byte (of_box b one at_b k low high row from to bytes) =
          let at_row : length above + 1 + q.row ≡ p.row = ap (λ (z : Place). z.row) same in
          let at_col : 1 + q.col ≡ p.col = ap (λ (z : Place). z.col) same in
          let r = rect_of (length above + 1) b one in
          let there = rect_there m above b one at_b in
          s.no_box (
            b,
            r,
            slice_get_within (boxes_of m above) b r there,
            get_or_from_slice_get
                (boxes_of m above) b r r there,
            record {
              from_top = omega arith;
              to_bottom =
                  omega arith;
              from_left = omega arith;
              to_right = omega arith;
            },
          )
      by q is same v byte (of_wires wired) = elim (wire_signs (courses m) q) [
        | inl space ↦ s.no_space (sym byte ∙ (wired ∙ space))
        | inr sign ↦ of_sign q same sign
      ]

  -- the wires of a drawing are all that a layout owes
  pub wires_there : AreCourses (drawn m above below) (placed (place_of above) m)
  wires_there = record {
    each = is_course;
    near = (placed_far o m sound).near;
    taken = taken;
    turned = turned;
    begun = begun;
    ports = ports;
    stray = stray;
  }
