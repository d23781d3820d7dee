-- The wires of a drawing that have a cell on a border or at a box.
use Rattle.std.specs.Prelude.{◌≡◌, ◌+◌, ◌*◌, ◌<◌, ◌≤◌, ℕ, true, length}
use Rattle.std.specs.Prelude.{slice_get, Some}
use Rattle.std.specs.List.{Contains}
use Rattle.std.proofs.Common.{arith, refl, sym, ap, subst, ◌∙◌}
use Rattle.std.proofs.lemmas.Option.{same_Some, slice_get_within}
use Rattle.umix_base.specs.declared.place.Place.{Place}
use Rattle.two_d.specs.Places.{at}
use Rattle.two_d.specs.Clean.{WireForm}
use Rattle.two_d.specs.Programs.{BoxForm, ModuleForm}
use Rattle.two_d.specs.Sound.{Comes, IsSound}
use Rattle.two_d.specs.Wires.{Direction, east, south, horizontal, vertical, axis_of}
use Rattle.two_d.specs.Wires.{Position}
use Rattle.two_d.specs.declared.module.Origin.{Origin}
use Rattle.two_d.specs.declared.module.Origin.TheVariants.{North, West, South, East}
use Rattle.grid_picture.specs.Courses.{along, Leg, Course, passes}
use Rattle.grid_picture.proofs.Courses.{OnLeg}
use Rattle.grid_picture.proofs.Inked.{leg_passes}
use Rattle.grid_picture.proofs.Legs.{spot_first}
use Rattle.grid_draw.specs.Layout.{width, reach, box_row, east_of}
use Rattle.grid_draw.specs.Layout.{start_row, end_row}
use Rattle.grid_draw.specs.Layout.{track, course_on, courses}
use Rattle.grid_draw.proofs.Apart.{courses_far}
use Rattle.grid_draw.proofs.LegCells.{box_there, end_within}
use Rattle.grid_draw.proofs.LegEnds.{Laid, laid}
use Rattle.grid_draw.proofs.Pieces.{IsPiece, from_west, from_east, out_south, from_south, falls}
use Rattle.grid_draw.proofs.Pieces.{rises}
use Rattle.grid_draw.proofs.Pieces.{to_n, to_w, to_exit, into_n, down_w, into_w}
use Rattle.grid_draw.proofs.Regions.{box_reaches}
use Rattle.grid_draw.proofs.WiresIn.{one_wire}

-- a wire from this origin begins there
pub record Begins (m : ModuleForm) (p : Place) (d : Direction) (o : Origin) : Type 0 where
  pub course : Course
  pub there : Contains (courses m) course
  pub start : course.start ≡ (record { place = p; to = d })
  pub from : course.wire.from ≡ o

-- only the north entry is in row 0
start_zero : (o : Origin) → start_row o ≡ 0 → o ≡ North
start_zero North e = refl
start_zero West e = absurd (omega arith)
start_zero (East b) e = absurd (omega arith)
start_zero (South b) e = absurd (omega arith)

-- where a wire begins, by its origin
abbrev pub start_on : ModuleForm → ℕ → Origin → Position
start_on m t North = record { place = at 0 t; to = south }
start_on m t West = record { place = at 2 0; to = east }
start_on m t (East b) = record { place = at (box_row b 4) (east_of m b); to = east }
start_on m t (South b) = record { place = at (box_row b 6) 5; to = south }

-- a course begins where its origin says
pub start_is : (m : ModuleForm) (t : ℕ) (w : WireForm) (o : Origin)
    → (course_on m t w o).start ≡ start_on m t o
start_is m t w North = refl
start_is m t w West = refl
start_is m t w (East b) = refl
start_is m t w (South b) = refl

-- so does a wire of the drawing
pub starts_so : (m : ModuleForm) (c : Course) (x : Laid m c) (o : Origin) → x.w.from ≡ o
    → c.start ≡ start_on m x.t o
starts_so m c x o e =
    ap (λ (z : Course). z.start) (sym x.same)
    ∙ (start_is m x.t x.w x.w.from ∙ ap (start_on m x.t) e)

module _ (m : ModuleForm) (sound : IsSound m) where
  -- two wires with one start are one, on one track
  pub one_track : (c d : Course) (x : Laid m c) (y : Laid m d) → x.w.from ≡ y.w.from → x.t ≡ y.t
  one_track c d x y e =
      let ends =
      sound.once y.w.from x.w.to y.w.to (subst (λ o. Comes m o x.w.to) e x.comes) y.comes in
      let number = one_wire m x.number y.number x.w y.w x.is y.is ends in
      x.its_track ∙ (ap (track m) number ∙ sym y.its_track)

  -- a wire of the drawing with this origin begins there
  begins : (c : Course) → Contains (courses m) c → (x : Laid m c) (o : Origin) → x.w.from ≡ o
      → (p : Place) (d : Direction)
      → start_on m x.t o ≡ (record { place = p; to = d }) → Begins m p d o
  begins c there x o from p d starts = record {
    course = c;
    there = there;
    start = starts_so m c x o from ∙ starts;
    from = ap (λ (z : WireForm). z.from) x.wire ∙ from;
  }

  -- a wire that goes over the top border begins there
  pub at_top : (c : ℕ) → OnLeg (courses m) (at 0 c) vertical → Begins m (at 0 c) south North
  at_top c on =
      by on.number on.leg (x.piece on.number on.leg on.is) on.far on.within on.axis on.place
    where
      x : Laid m on.course
      x = laid m sound on.course on.there

      by : (k : ℕ) (l : Leg) → IsPiece m x.t x.w.from x.w.to k l → (far : ℕ) → far ≤ l.long
          → axis_of l.to ≡ vertical → along l.to far l.from ≡ at 0 c → Begins m (at 0 c) south North
      by k l (from_west is) far le axis place = absurd (cc)
      by k l (from_east b is) far le axis place = absurd (cc)
      by k l (out_south b is) far le axis place =
          absurd (let row = ap (λ (z : Place). z.row) place in omega arith)
      by k l (from_south b is) far le axis place = absurd (cc)
      by k l (falls down) far le axis place =
          let row = ap (λ (z : Place). z.row) place in
          let col : x.t ≡ c = ap (λ (z : Place). z.col) place in
          begins on.course on.there x North (start_zero x.w.from (omega arith)) (at 0 c) south
          (ap (λ t. record { place = at 0 t; to = south }) col)
      by k l (rises up) far le axis place = absurd (
          let row = ap (λ (z : Place). z.row) place in
          let lt = x.left in
          let (low, high) =
          end_within m x.t x.right (omega arith) x.w.from x.w.to x.known x.w.to x.known in
          omega arith)
      by k l (to_n b is) far le axis place = absurd (cc)
      by k l (to_w b is) far le axis place = absurd (cc)
      by k l (to_exit i is) far le axis place = absurd (cc)
      by k l (into_n b is) far le axis place =
          absurd (let row = ap (λ (z : Place). z.row) place in omega arith)
      by k l (down_w b is) far le axis place =
          absurd (let row = ap (λ (z : Place). z.row) place in omega arith)
      by k l (into_w b is) far le axis place = absurd (cc)

  -- a wire that goes over the left border begins there, in row 2
  pub at_left : (r : ℕ) → OnLeg (courses m) (at r 0) horizontal → Begins m (at 2 0) east West
      × (r ≡ 2)
  at_left r on =
      by on.number on.leg (x.piece on.number on.leg on.is) on.far on.within on.axis on.place
    where
      x : Laid m on.course
      x = laid m sound on.course on.there

      by : (k : ℕ) (l : Leg) → IsPiece m x.t x.w.from x.w.to k l → (far : ℕ) → far ≤ l.long
          → axis_of l.to ≡ horizontal → along l.to far l.from ≡ at r 0 → Begins m (at 2 0) east West
          × (r ≡ 2)
      by k l (from_west is) far le axis place =
          let row : 2 ≡ r = ap (λ (z : Place). z.row) place in
          (begins on.course on.there x West is (at 2 0) east refl, sym row)
      by k l (from_east b is) far le axis place =
          absurd (let col = ap (λ (z : Place). z.col) place in omega arith)
      by k l (out_south b is) far le axis place = absurd (cc)
      by k l (from_south b is) far le axis place =
          absurd (let col = ap (λ (z : Place). z.col) place in omega arith)
      by k l (falls down) far le axis place = absurd (cc)
      by k l (rises up) far le axis place = absurd (cc)
      by k l (to_n b is) far le axis place =
          absurd (let col = ap (λ (z : Place). z.col) place in let right = x.right in omega arith)
      by k l (to_w b is) far le axis place =
          absurd (let col = ap (λ (z : Place). z.col) place in let right = x.right in omega arith)
      by k l (to_exit i is) far le axis place =
          absurd (let col = ap (λ (z : Place). z.col) place in let right = x.right in omega arith)
      by k l (into_n b is) far le axis place = absurd (cc)
      by k l (down_w b is) far le axis place = absurd (cc)
      by k l (into_w b is) far le axis place =
          absurd (let col = ap (λ (z : Place). z.col) place in omega arith)

  -- a wire that goes down right under a box begins there
  pub at_s : (b c : ℕ) (one : BoxForm) → slice_get m.boxes b ≡ Some one → c < 5 + width one → 4 < c
      → OnLeg (courses m) (at (box_row b 6) c) vertical
      → Begins m (at (box_row b 6) 5) south (South b) × (c ≡ 5)
  at_s b c one at_b in_it after on =
      by on.number on.leg (x.piece on.number on.leg on.is) on.far on.within on.axis on.place
    where
      x : Laid m on.course
      x = laid m sound on.course on.there

      reaches : 5 + width one ≤ reach m
      reaches = box_reaches (length m.name) b m.boxes one at_b

      by : (k : ℕ) (l : Leg) → IsPiece m x.t x.w.from x.w.to k l → (far : ℕ) → far ≤ l.long
          → axis_of l.to ≡ vertical → along l.to far l.from ≡ at (box_row b 6) c
          → Begins m (at (box_row b 6) 5) south (South b) × (c ≡ 5)
      by k l (from_west is) far le axis place = absurd (cc)
      by k l (from_east d is) far le axis place = absurd (cc)
      by k l (out_south d is) far le axis place =
          let row = ap (λ (z : Place). z.row) place in
          let col : 5 ≡ c = ap (λ (z : Place). z.col) place in
          let box : d ≡ b = omega arith in (
            begins on.course on.there x (South b) (is ∙ ap South box)
                (at (box_row b 6) 5) south refl,
            sym col,
          )
      by k l (from_south d is) far le axis place = absurd (cc)
      by k l (falls down) far le axis place =
          absurd (let col : x.t ≡ c = ap (λ (z : Place). z.col) place in let right = x.right in
          let far_in = reaches in omega arith)
      by k l (rises up) far le axis place =
          absurd (let col : x.t ≡ c = ap (λ (z : Place). z.col) place in let right = x.right in
          let far_in = reaches in omega arith)
      by k l (to_n d is) far le axis place = absurd (cc)
      by k l (to_w d is) far le axis place = absurd (cc)
      by k l (to_exit i is) far le axis place = absurd (cc)
      by k l (into_n d is) far le axis place =
          absurd (let row = ap (λ (z : Place). z.row) place in omega arith)
      by k l (down_w d is) far le axis place =
          absurd (let row = ap (λ (z : Place). z.row) place in omega arith)
      by k l (into_w d is) far le axis place = absurd (cc)

  -- a wire that goes across right beside a box's text begins there
  pub at_e : (b : ℕ) (one : BoxForm) → slice_get m.boxes b ≡ Some one
      → OnLeg (courses m) (at (box_row b 4) (6 + width one)) horizontal
      → Begins m (at (box_row b 4) (6 + width one)) east (East b)
  at_e b one at_b on =
      by on.number on.leg (x.piece on.number on.leg on.is) on.far on.within on.axis on.place
    where
      x : Laid m on.course
      x = laid m sound on.course on.there

      there : b < length m.boxes
      there = slice_get_within m.boxes b one at_b

      east_is : east_of m b ≡ 6 + width one
      east_is =
          let (other, at_other, wide) = box_there m.boxes b there in
          let same = ap width (same_Some other one (sym at_other ∙ at_b)) in omega arith

      by : (k : ℕ) (l : Leg) → IsPiece m x.t x.w.from x.w.to k l → (far : ℕ) → far ≤ l.long
          → axis_of l.to ≡ horizontal → along l.to far l.from ≡ at (box_row b 4) (6 + width one)
          → Begins m (at (box_row b 4) (6 + width one)) east (East b)
      by k l (from_west is) far le axis place =
          absurd (let row : 2 ≡ box_row b 4 = ap (λ (z : Place). z.row) place in omega arith)
      by k l (from_east d is) far le axis place =
          let row : box_row d 4 ≡ box_row b 4 = ap (λ (z : Place). z.row) place in
          let box : d ≡ b = omega arith in
          begins on.course on.there x (East b) (is ∙ ap East box)
          (at (box_row b 4) (6 + width one)) east
          (ap (λ c. record { place = at (box_row b 4) c; to = east }) east_is)
      by k l (out_south d is) far le axis place = absurd (cc)
      by k l (from_south d is) far le axis place =
          absurd (let row : box_row d 7 ≡ box_row b 4 = ap (λ (z : Place). z.row) place in
          omega arith)
      by k l (falls down) far le axis place = absurd (cc)
      by k l (rises up) far le axis place = absurd (cc)
      by k l (to_n d is) far le axis place =
          absurd (let row : end_row m x.w.to ≡ box_row b 4 = ap (λ (z : Place). z.row) place in
          let end : end_row m x.w.to ≡ box_row d 1 = ap (end_row m) is in omega arith)
      by k l (to_w d is) far le axis place =
          absurd (let row : end_row m x.w.to ≡ box_row b 4 = ap (λ (z : Place). z.row) place in
          let end : end_row m x.w.to ≡ box_row d 0 = ap (end_row m) is in omega arith)
      by k l (to_exit i is) far le axis place = absurd (
          let row : end_row m x.w.to ≡ box_row b 4 = ap (λ (z : Place). z.row) place in
          let end : end_row m x.w.to ≡ 3 + 8 * length m.boxes + i = ap (end_row m) is in
          let lt = there in omega arith)
      by k l (into_n d is) far le axis place = absurd (cc)
      by k l (down_w d is) far le axis place = absurd (cc)
      by k l (into_w d is) far le axis place =
          absurd (let col = ap (λ (z : Place). z.col) place in omega arith)

  -- the wire passes where it begins
  pub start_passes : (c : Course) → Contains (courses m) c
      → passes (axis_of c.start.to) (courses m) c.start.place ≡ true
  start_passes c there =
      let l : Leg = record { from = c.start.place; to = c.start.to; long = c.long } in
      subst (λ (s : Position). passes (axis_of c.start.to) (courses m) s.place ≡ true)
      (spot_first l)
      (leg_passes (courses m) c there 0 l refl ((courses_far m sound).fits c there 0 l refl) 0
      (omega arith))
