-- Where the legs of the wires of a drawing lie, begin and end.
use Rattle.std.specs.Prelude.{◌≡◌, ◌+◌, ◌-◌, ◌*◌, ◌<◌, ◌≤◌, ℕ, suc, List, [], ◌∷◌}
use Rattle.std.specs.Prelude.{length}
use Rattle.std.specs.Prelude.{slice_get, Some}
use Rattle.std.specs.List.{Contains}
use Rattle.std.proofs.Common.{arith, refl, sym, ap, subst, ◌∙◌, inl, inr, get_or}
use Rattle.std.proofs.lemmas.Bool.{cases_lt}
use Rattle.std.proofs.lemmas.Option.{slice_get_within, slice_get-get_or}
use Rattle.umix_base.specs.declared.place.Place.{Place}
use Rattle.two_d.specs.Places.{at}
use Rattle.two_d.specs.Clean.{WireForm}
use Rattle.two_d.specs.Programs.{ModuleForm}
use Rattle.two_d.specs.Sound.{Comes, IsSound}
use Rattle.two_d.specs.Wires.{Direction, east, south}
use Rattle.two_d.specs.declared.module.Origin.{Origin}
use Rattle.two_d.specs.declared.module.Origin.TheVariants.{North, West, South, East}
use Rattle.two_d.specs.declared.module.To.{To}
use Rattle.two_d.specs.declared.module.To.TheVariants.{N, W, Exit}
use Rattle.two_d.proofs.MapLists.{map_contains}
use Rattle.grid_picture.specs.Courses.{along, Leg, Course, legs_from, legs, wire_byte}
use Rattle.grid_draw.specs.Layout.{reach, columns, rows, box_row, exit_row, east_of}
use Rattle.grid_draw.specs.Layout.{start_row, end_row}
use Rattle.grid_draw.specs.Layout.{wires_in, track, last_bends, bends_on, course_on, courses}
use Rattle.grid_draw.specs.Layout.{byte_at, inner_byte}
use Rattle.grid_draw.proofs.Apart.{piece_of}
use Rattle.grid_draw.proofs.LegCells.{end_within, start_within}
use Rattle.grid_draw.proofs.Lines.{start_no_end}
use Rattle.grid_draw.proofs.Pieces.{leg_at, before, IsPiece, from_west, from_east, out_south}
use Rattle.grid_draw.proofs.Pieces.{from_south, falls, rises}
use Rattle.grid_draw.proofs.Pieces.{to_n, to_w, to_exit, into_n, down_w, into_w, AreThere, IsPast}
use Rattle.grid_draw.proofs.Regions.{inside, track_byte, between_boxes, left_of_boxes}
use Rattle.grid_draw.proofs.WiresIn.{contains_at, wire_comes, tracks_past, course_of}
use Rattle.grid_draw.proofs.WiresIn.{ends_there, wires_shown}

-- a cell within the borders
pub record IsInner (m : ModuleForm) (p : Place) : Type 0 where
  pub under : 0 < p.row
  pub above : p.row ≤ rows m
  pub right : 0 < p.col
  pub left : p.col ≤ columns m

-- a row and a column within the borders
pub inner_at : (m : ModuleForm) (r c : ℕ) → 0 < r → r ≤ rows m → 0 < c → c ≤ columns m
    → IsInner m (at r c)
inner_at m r c pos le pos_c le_c = record { under = pos; above = le; right = pos_c; left = le_c }

-- which leg of a wire is the last
abbrev pub last_index : Origin → To → ℕ
last_index o (N b) = suc (suc (before o))
last_index o (W b) = suc (suc (suc (before o)))
last_index o (Exit i) = suc (before o)

-- the leg that comes to the end
abbrev pub IsLast : ModuleForm → ℕ → To → Leg → Type 0
IsLast m t (N b) l = leg_at (box_row b 1) 5 south 1 ≡ l
IsLast m t (W b) l = leg_at (box_row b 4) 2 east 1 ≡ l
IsLast m t (Exit i) l = leg_at (exit_row m i) t east (columns m + 1 - t) ≡ l

-- a wire goes on behind its track
after_track : (o : Origin) (e : To) → before o < last_index o e
after_track o (N b) = omega arith
after_track o (W b) = omega arith
after_track o (Exit i) = omega arith

-- there is a leg for each bend
long_from : (p : Place) (bends : List (Direction × ℕ)) → length (legs_from p bends) ≡ length bends
long_from p [] = refl
long_from p ((d, n) ∷ more) = ap suc (long_from (along d n p) more)

-- so many legs follow the one on the track
long_last : (m : ModuleForm) (t : ℕ) (o : Origin) (e : To)
    → suc (before o) + length (last_bends m t e) ≡ suc (last_index o e)
long_last m t o (N b) = omega arith
long_last m t o (W b) = omega arith
long_last m t o (Exit i) = omega arith

-- how many legs a wire has
long_course : (m : ModuleForm) (t : ℕ) (w : WireForm) (o : Origin)
    → length (legs (course_on m t w o)) ≡ suc (last_index o w.to)
long_course m t w North =
    let n = long_from (along south (end_row m w.to) (at 0 t)) (last_bends m t w.to) in
    let l = long_last m t North w.to in omega arith
long_course m t w West =
    let n = long_from (along east t (at 2 0)) (bends_on m t West w.to) in
    let l = long_last m t West w.to in omega arith
long_course m t w (East b) =
    let n = long_from (along east (t - east_of m b) (at (box_row b 4) (east_of m b)))
    (bends_on m t (East b) w.to) in
    let l = long_last m t (East b) w.to in omega arith
long_course m t w (South b) =
    let n = long_from (along south 1 (at (box_row b 6) 5))
    ((east, t - 5) ∷ bends_on m t (South b) w.to) in
    let l = long_last m t (South b) w.to in omega arith

-- a cell at which a wire turns: within the borders, and the byte is that of the wires
pub record IsBend (m : ModuleForm) (p : Place) : Type 0 where
  pub inner : IsInner m p
  pub far : p.col < columns m
  pub byte : byte_at m p.row p.col ≡ wire_byte (courses m) p

-- a wire with a leg before its track comes to it below the top border
some_before : (o : Origin) (k : ℕ) → before o ≡ suc k → 0 < start_row o
some_before North k e = absurd (omega arith)
some_before West k e = omega arith
some_before (East b) k e = omega arith
some_before (South b) k e = omega arith

module _ (m : ModuleForm) (t : ℕ) (right : reach m < t) (left : t < columns m) (past : IsPast m t)
    (o : Origin) (e : To) (known : AreThere m o e) where
  -- between its ends a leg lies within the borders
  pub leg_inner : (k : ℕ) (l : Leg) → IsPiece m t o e k l → (j : ℕ) → 0 < j → j < l.long
      → IsInner m (along l.to j l.from)
  leg_inner k l (from_west is) j pos lt =
      inner_at m 2 (0 + j) (omega arith) (omega arith) (omega arith) (omega arith)
  leg_inner k l (from_east b is) j pos lt =
      let there = known.east_box b is in
      inner_at m (box_row b 4) (east_of m b + j) (omega arith) (omega arith) (omega arith)
      (omega arith)
  leg_inner k l (out_south b is) j pos lt = absurd (omega arith)
  leg_inner k l (from_south b is) j pos lt =
      let there = known.south_box b is in
      inner_at m (box_row b 7) (5 + j) (omega arith) (omega arith) (omega arith) (omega arith)
  leg_inner k l (falls down) j pos lt =
      let (low, high) = end_within m t right (omega arith) o e known e known in
      inner_at m (start_row o + j) t (omega arith) (omega arith) (omega arith) (omega arith)
  leg_inner k l (rises up) j pos lt =
      let (low, high) = end_within m t right (omega arith) o e known e known in
      let under = start_within m t right (omega arith) o e known o known in
      inner_at m (start_row o - j) t (omega arith) (omega arith) (omega arith) (omega arith)
  leg_inner k l (to_n b is) j pos lt =
      let there = known.n_box b is in
      let row : end_row m e ≡ box_row b 1 = ap (end_row m) is in
      inner_at m (end_row m e) (t - j) (omega arith) (omega arith) (omega arith) (omega arith)
  leg_inner k l (to_w b is) j pos lt =
      let there = known.w_box b is in
      let row : end_row m e ≡ box_row b 0 = ap (end_row m) is in
      inner_at m (end_row m e) (t - j) (omega arith) (omega arith) (omega arith) (omega arith)
  leg_inner k l (to_exit i is) j pos lt =
      let there = known.exit i is in
      let row : end_row m e ≡ 3 + 8 * length m.boxes + i = ap (end_row m) is in
      inner_at m (end_row m e) (t + j) (omega arith) (omega arith) (omega arith) (omega arith)
  leg_inner k l (into_n b is) j pos lt = absurd (omega arith)
  leg_inner k l (down_w b is) j pos lt =
      let there = known.w_box b is in
      inner_at m (box_row b 0 + j) 2 (omega arith) (omega arith) (omega arith) (omega arith)
  leg_inner k l (into_w b is) j pos lt = absurd (omega arith)

  -- a cell on a track
  bend_on_track : (r : ℕ) → 0 < r → r ≤ rows m → IsBend m (at r t)
  bend_on_track r pos le = record {
    inner = inner_at m r t pos le (omega arith) (omega arith);
    far = left;
    byte = track_byte m r t pos le right (omega arith);
  }

  -- a cell left of the tracks
  bend_between : (r c : ℕ) → 1 < r → r ≤ rows m → 0 < c → c < columns m
      → inner_byte m r c ≡ wire_byte (courses m) (at r c) → IsBend m (at r c)
  bend_between r c pos le pos_c lt wired = record {
    inner = inner_at m r c (omega arith) le pos_c (omega arith);
    far = lt;
    byte = inside m r c (omega arith) le pos_c (omega arith) ∙ wired;
  }

  -- each leg but the first begins at such a cell
  pub bend : (k j : ℕ) (l : Leg) → IsPiece m t o e j l → j ≡ suc k → IsBend m l.from
  bend k j l (from_west is) number = absurd (omega arith)
  bend k j l (from_east b is) number = absurd (omega arith)
  bend k j l (out_south b is) number = absurd (omega arith)
  bend k j l (from_south b is) number =
      let there = known.south_box b is in
      let far = past b there in
      bend_between (box_row b 7) 5 (omega arith) (omega arith) (omega arith) (omega arith)
      (between_boxes m (box_row b 7) 5 (λ x. omega arith) (λ x. omega arith) (λ x. omega arith)
      (λ x. omega arith) (λ x. omega arith))
  bend k j l (falls down) number =
      let under = start_within m t right (omega arith) o e known o known in
      bend_on_track (start_row o) (some_before o k number) under
  bend k j l (rises up) number =
      let under = start_within m t right (omega arith) o e known o known in
      bend_on_track (start_row o) (some_before o k number) under
  bend k j l (to_n b is) number =
      let (low, high) = end_within m t right (omega arith) o e known e known in
      bend_on_track (end_row m e) (omega arith) high
  bend k j l (to_w b is) number =
      let (low, high) = end_within m t right (omega arith) o e known e known in
      bend_on_track (end_row m e) (omega arith) high
  bend k j l (to_exit i is) number =
      let (low, high) = end_within m t right (omega arith) o e known e known in
      bend_on_track (end_row m e) (omega arith) high
  bend k j l (into_n b is) number =
      let there = known.n_box b is in
      let far = past b there in
      bend_between (box_row b 1) 5 (omega arith) (omega arith) (omega arith) (omega arith)
      (between_boxes m (box_row b 1) 5 (λ x. omega arith) (λ x. omega arith) (λ x. omega arith)
      (λ x. omega arith) (λ x. omega arith))
  bend k j l (down_w b is) number =
      let there = known.w_box b is in
      let far = past b there in
      bend_between (box_row b 0) 2 (omega arith) (omega arith) (omega arith) (omega arith)
      (between_boxes m (box_row b 0) 2 (λ x. omega arith) (λ x. omega arith) (λ x. omega arith)
      (λ x. omega arith) (λ x. omega arith))
  bend k j l (into_w b is) number =
      let there = known.w_box b is in
      let far = past b there in
      bend_between (box_row b 4) 2 (omega arith) (omega arith) (omega arith) (omega arith)
      (left_of_boxes m (box_row b 4) 2 (λ x. omega arith) (omega arith) (inr (λ x. omega arith)))

  -- each leg has a cell beyond its first
  pub piece_long : (k : ℕ) (l : Leg) → IsPiece m t o e k l → 0 < l.long
  piece_long k l (from_west is) = omega arith
  piece_long k l (from_east b is) = let far = past b (known.east_box b is) in omega arith
  piece_long k l (out_south b is) = omega arith
  piece_long k l (from_south b is) = let far = past b (known.south_box b is) in omega arith
  piece_long k l (falls down) = omega arith
  piece_long k l (rises up) = elim (cases_lt (end_row m e) (start_row o)) [
    | inl lt ↦ omega arith
    | inr ge ↦ absurd (start_no_end m o o e e known known (omega arith))
  ]
  piece_long k l (to_n b is) = let far = past b (known.n_box b is) in omega arith
  piece_long k l (to_w b is) = let far = past b (known.w_box b is) in omega arith
  piece_long k l (to_exit i is) = omega arith
  piece_long k l (into_n b is) = omega arith
  piece_long k l (down_w b is) = omega arith
  piece_long k l (into_w b is) = omega arith

  -- the last leg comes to the end
  pub last_is : (k : ℕ) (l : Leg) → IsPiece m t o e k l → k ≡ last_index o e → IsLast m t e l
  last_is k l (from_west is) number =
      absurd (let some = after_track o e in let one = ap before is in omega arith)
  last_is k l (from_east b is) number =
      absurd (let some = after_track o e in let one = ap before is in omega arith)
  last_is k l (out_south b is) number =
      absurd (let some = after_track o e in let two = ap before is in omega arith)
  last_is k l (from_south b is) number =
      absurd (let some = after_track o e in let two = ap before is in omega arith)
  last_is k l (falls down) number = absurd (let some = after_track o e in omega arith)
  last_is k l (rises up) number = absurd (let some = after_track o e in omega arith)
  last_is k l (to_n b is) number = absurd (let at_end = ap (last_index o) is in omega arith)
  last_is k l (to_w b is) number = absurd (let at_end = ap (last_index o) is in omega arith)
  last_is k l (to_exit i is) number =
      let row : end_row m e ≡ exit_row m i = ap (end_row m) is in
      subst (λ z. IsLast m t z (leg_at (end_row m e) t east (columns m + 1 - t))) (sym is)
      (ap (λ r. leg_at r t east (columns m + 1 - t)) (sym row))
  last_is k l (into_n b is) number =
      subst (λ z. IsLast m t z (leg_at (box_row b 1) 5 south 1)) (sym is) refl
  last_is k l (down_w b is) number = absurd (let at_end = ap (last_index o) is in omega arith)
  last_is k l (into_w b is) number =
      subst (λ z. IsLast m t z (leg_at (box_row b 4) 2 east 1)) (sym is) refl

-- a wire of a drawing, with its track
pub record Laid (m : ModuleForm) (c : Course) : Type 0 where
  pub number : ℕ
  pub t : ℕ
  pub w : WireForm
  pub is : slice_get (wires_in m) number ≡ Some w
  pub its_track : t ≡ track m number
  pub right : reach m < t
  pub left : t < columns m
  pub past : IsPast m t
  pub known : AreThere m w.from w.to
  pub same : course_on m t w w.from ≡ c
  pub wire : c.wire ≡ w
  pub comes : Comes m w.from w.to
  pub piece : (k : ℕ) (l : Leg) → slice_get (legs c) k ≡ Some l → IsPiece m t w.from w.to k l
  pub long : length (legs c) ≡ suc (last_index w.from w.to)

-- the wire of a course
wire_on : (m : ModuleForm) (t : ℕ) (w : WireForm) (o : Origin) → (course_on m t w o).wire ≡ w
wire_on m t w North = refl
wire_on m t w West = refl
wire_on m t w (East b) = refl
wire_on m t w (South b) = refl

-- each wire of a drawing is laid so
pub laid : (m : ModuleForm) → IsSound m → (c : Course) → Contains (courses m) c → Laid m c
laid m sound c there =
    let x = course_of m c there in
    let lt = slice_get_within (wires_in m) x.number x.w x.is in
    let in_wires = contains_at (wires_in m) x.number x.w x.is in
    record {
      number = x.number;
      t = track m x.number;
      w = x.w;
      is = x.is;
      its_track = refl;
      right = omega arith;
      left = omega arith;
      past = tracks_past m x.number;
      known = ends_there m sound x.w in_wires;
      same = x.same;
      wire = ap (λ (z : Course). z.wire) (sym x.same) ∙ wire_on m (track m x.number) x.w x.w.from;
      comes = wire_comes m x.w in_wires;
      piece = piece_of m sound c x;
      long = ap (λ z. length (legs z)) (sym x.same) ∙ long_course m (track m x.number) x.w x.w.from;
    }

-- each wire of the module has a course
pub course_for : (m : ModuleForm) (o : Origin) (end : To) → Comes m o end
    → (c : Course) × Contains (courses m) c × (c.wire ≡ (record { from = o; to = end }))
course_for m o end comes =
    map_contains (λ (c : Course). c.wire) (courses m) (record { from = o; to = end })
    ((wires_shown m o end).0 comes)

-- the last leg of a wire
pub last_leg : (m : ModuleForm) (c : Course) (x : Laid m c) → (l : Leg)
    × (slice_get (legs c) (last_index x.w.from x.w.to) ≡ Some l) × IsLast m x.t x.w.to l
last_leg m c x =
    let k = last_index x.w.from x.w.to in
    let d = leg_at 0 0 east 0 in
    let long = x.long in
    let l = get_or (legs c) k d in
    let is : slice_get (legs c) k ≡ Some l = slice_get-get_or (legs c) k d (omega arith) in
    (l, is, last_is m x.t x.right x.left x.past x.w.from x.w.to x.known k l (x.piece k l is) refl)
