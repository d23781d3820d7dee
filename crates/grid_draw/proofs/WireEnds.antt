-- Where the wires of a drawing end, what stands where they begin, and their ways cell by cell.
use Rattle.std.specs.Prelude.{◌≡◌, ◌≢◌, ◌+◌, ◌-◌, ◌<◌, ◌≤◌, ℕ, zero, suc, Bool, true}
use Rattle.std.specs.Prelude.{false}
use Rattle.std.specs.Prelude.{List, [], ◌∷◌, length, map, slice_get, Some, Any}
use Rattle.std.specs.List.{Contains}
use Rattle.std.proofs.Common.{arith, refl, sym, ap, subst, ◌∙◌, inl, inr, get_or}
use Rattle.std.proofs.lemmas.Bool.{cases_eq}
use Rattle.std.proofs.lemmas.List.Elements.{Contains-append_left, Contains-append_right}
use Rattle.std.proofs.lemmas.Option.{slice_get-get_or, slice_get_within, same_Some}
use Rattle.umix_base.specs.declared.place.Place.{Place}
use Rattle.two_d.specs.Places.{at}
use Rattle.two_d.specs.Clean.{WireForm}
use Rattle.two_d.specs.Programs.{BoxForm, ModuleForm}
use Rattle.two_d.specs.Sound.{Comes, IsSound}
use Rattle.two_d.specs.Wires.{Direction, east, west, south, north, Axis, horizontal, vertical}
use Rattle.two_d.specs.Wires.{axis_of, Position}
use Rattle.two_d.specs.declared.module.Origin.{Origin}
use Rattle.two_d.specs.declared.module.Origin.TheVariants.{North, West, South, East}
use Rattle.two_d.specs.declared.module.To.{To}
use Rattle.two_d.specs.declared.module.To.TheVariants.{N, W, Exit}
use Rattle.two_d.proofs.Equal.{equal_places}
use Rattle.two_d.proofs.MapLists.{contains_map}
use Rattle.grid_picture.specs.Courses.{along, Leg, Course, legs, passes, bends_at, wire_byte}
use Rattle.grid_picture.proofs.Courses.{OnLeg, AtJoint, axes_or, axes_two, route, runs}
use Rattle.grid_picture.proofs.Inked.{bend_at, passed_on, joined}
use Rattle.grid_picture.proofs.Laid.{way}
use Rattle.grid_picture.proofs.Legs.{spot, spot_first, run, low, high}
use Rattle.grid_picture.proofs.Pairs.{first_there, later_there}
use Rattle.grid_draw.specs.Layout.{width, columns, box_row, exit_row, start_row}
use Rattle.grid_draw.specs.Layout.{end_row, courses}
use Rattle.grid_draw.proofs.InnerCells.{byte_of}
use Rattle.grid_draw.proofs.LegCells.{box_there}
use Rattle.grid_draw.proofs.LegEnds.{Laid, laid, IsLast, last_index, last_leg, course_for}
use Rattle.grid_draw.proofs.Lines.{RunsIn, to_track, off_track, into_box, RunsDown, on_track}
use Rattle.grid_draw.proofs.Lines.{from_box, onto_box, beside_box}
use Rattle.grid_draw.proofs.Lines.{runs_in, runs_down}
use Rattle.grid_draw.proofs.Placed.{courses_turn}

-- the cell at which a wire ends, and how it comes there
abbrev pub end_cell : ModuleForm → To → Place
end_cell m (N b) = at (box_row b 2) 5
end_cell m (W b) = at (box_row b 4) 3
end_cell m (Exit i) = at (exit_row m i) (columns m + 1)

-- the direction in which it comes there
abbrev pub end_to : To → Direction
end_to (N b) = south
end_to (W b) = east
end_to (Exit i) = east

-- the last leg ends there
pub last_cell : (m : ModuleForm) (t : ℕ) → t < columns m → (e : To) (l : Leg) → IsLast m t e l
    → along l.to l.long l.from ≡ end_cell m e
last_cell m t left (N b) l is =
    subst (λ (z : Leg). along z.to z.long z.from ≡ end_cell m (N b)) is
    (equal_places (at (box_row b 1 + 1) 5) (at (box_row b 2) 5) (omega arith) refl)
last_cell m t left (W b) l is =
    subst (λ (z : Leg). along z.to z.long z.from ≡ end_cell m (W b)) is
    (equal_places (at (box_row b 4) (2 + 1)) (at (box_row b 4) 3) refl (omega arith))
last_cell m t left (Exit i) l is =
    subst (λ (z : Leg). along z.to z.long z.from ≡ end_cell m (Exit i)) is
    (equal_places (at (exit_row m i) (t + (columns m + 1 - t)))
    (at (exit_row m i) (columns m + 1)) refl (omega arith))

-- and comes in this direction
pub last_to : (m : ModuleForm) (t : ℕ) (e : To) (l : Leg) → IsLast m t e l → l.to ≡ end_to e
last_to m t (N b) l is = ap (λ (z : Leg). z.to) (sym is)
last_to m t (W b) l is = ap (λ (z : Leg). z.to) (sym is)
last_to m t (Exit i) l is = ap (λ (z : Leg). z.to) (sym is)

-- a joint lies on both axes
pub joint_on : (cs : List Course) (p : Place) (joint : AtJoint cs p)
    → axis_of joint.on.to ≢ axis_of joint.leg.to → (a : Axis) → OnLeg cs p a
joint_on cs p joint turn a = elim (axes_or (axis_of joint.leg.to) a) [
  | inl same ↦ record {
    course = joint.course;
    there = joint.there;
    number = joint.number;
    leg = joint.leg;
    is = joint.is;
    far = joint.leg.long;
    within = omega arith;
    axis = same;
    place = joint.place;
  }
  | inr other ↦ record {
    course = joint.course;
    there = joint.there;
    number = suc joint.number;
    leg = joint.on;
    is = joint.is_on;
    far = 0;
    within = omega arith;
    axis = axes_two (axis_of joint.on.to) a (axis_of joint.leg.to) turn (λ e. other (sym e));
    place = ap (λ (s : Position). s.place) (spot_first joint.on)
        ∙ (sym (joined joint.course joint.number joint.leg joint.on joint.is joint.is_on)
        ∙ joint.place);
  }
]

module _ (m : ModuleForm) (sound : IsSound m) where
  -- where a wire of the drawing turns, it has the cell on both axes
  pub on_joint : (p : Place) → AtJoint (courses m) p → (a : Axis) → OnLeg (courses m) p a
  on_joint p joint a =
      joint_on (courses m) p joint
      (courses_turn m sound joint.course joint.number joint.leg joint.on joint.there joint.is
      joint.is_on) a

  -- where no wire crosses it, a wire has the byte of its axis
  pub down_byte : (p : Place) → passes vertical (courses m) p ≡ true
      → (OnLeg (courses m) p horizontal → ⊥) → wire_byte (courses m) p ≡ 124
  down_byte p down no_cross =
      by (bends_at (courses m) p) (passes horizontal (courses m) p)
      (passes vertical (courses m) p) refl refl down
    where
      by : (turns across goes : Bool) → bends_at (courses m) p ≡ turns
          → passes horizontal (courses m) p ≡ across → goes ≡ true
          → byte_of turns across goes ≡ 124
      by true across goes e f g =
          absurd (no_cross (on_joint p (bend_at (courses m) p e) horizontal))
      by false true goes e f g = absurd (no_cross (passed_on horizontal (courses m) p f))
      by false false true e f g = refl
      by false false false e f g = absurd (cc)

  -- the same for a wire that goes across
  pub across_byte : (p : Place) → passes horizontal (courses m) p ≡ true
      → (OnLeg (courses m) p vertical → ⊥) → wire_byte (courses m) p ≡ 45
  across_byte p across no_cross =
      by (bends_at (courses m) p) (passes horizontal (courses m) p)
      (passes vertical (courses m) p) refl across refl
    where
      by : (turns goes down : Bool) → bends_at (courses m) p ≡ turns → goes ≡ true
          → passes vertical (courses m) p ≡ down
          → byte_of turns goes down ≡ 45
      by true goes down e f g = absurd (no_cross (on_joint p (bend_at (courses m) p e) vertical))
      by false false down e f g = absurd (cc)
      by false true true e f g = absurd (no_cross (passed_on vertical (courses m) p g))
      by false true false e f g = refl

  -- no wire goes across in the row under a box
  pub none_across : (b c : ℕ) → b < length m.boxes → OnLeg (courses m) (at (box_row b 6) c)
      horizontal → ⊥
  none_across b c lt on =
      by on.number (low on.leg.to on.leg.from on.leg.long) (high on.leg.to on.leg.from on.leg.long)
      (runs_in m x.t x.w.from x.w.to on.number on.leg (x.piece on.number on.leg on.is) on.axis)
    where
      x : Laid m on.course
      x = laid m sound on.course on.there

      row_of : (d : Direction) (p : Place) (i : ℕ) → axis_of d ≡ horizontal
          → (along d i p).row ≡ p.row
      row_of east p i e = refl
      row_of west p i e = refl
      row_of south p i e = absurd (cc)
      row_of north p i e = absurd (cc)

      row : on.leg.from.row ≡ box_row b 6
      row = sym (row_of on.leg.to on.leg.from on.far on.axis) ∙ ap (λ (z : Place). z.row) on.place

      not_start : (o : Origin) → start_row o ≡ box_row b 6 → ⊥
      not_start North e = omega arith
      not_start West e = omega arith
      not_start (East d) e = omega arith
      not_start (South d) e = omega arith

      not_end : (e : To) → end_row m e ≡ box_row b 6 → ⊥
      not_end (N d) e = omega arith
      not_end (W d) e = omega arith
      not_end (Exit i) e = omega arith

      by : (k from to : ℕ) → RunsIn m x.w.from x.w.to k on.leg.from.row from to → ⊥
      by k from to (to_track at_k not_n at_row east_from) = not_start x.w.from (sym at_row ∙ row)
      by k from to (off_track at_k at_row) = not_end x.w.to (sym at_row ∙ row)
      by k from to (into_box d at_k is at_row at_to) = let r = row in omega arith

  -- no wire goes up or down right beside a box's text
  pub none_down : (b r : ℕ) (one : BoxForm) → slice_get m.boxes b ≡ Some one
      → OnLeg (courses m) (at r (6 + width one)) vertical → ⊥
  none_down b r one at_b on =
      by on.number (low on.leg.to on.leg.from on.leg.long) (high on.leg.to on.leg.from on.leg.long)
      (runs_down m x.t x.w.from x.w.to on.number on.leg
      (x.piece on.number on.leg on.is) on.axis)
    where
      x : Laid m on.course
      x = laid m sound on.course on.there

      col_of : (d : Direction) (p : Place) (i : ℕ) → axis_of d ≡ vertical
          → (along d i p).col ≡ p.col
      col_of east p i e = absurd (cc)
      col_of west p i e = absurd (cc)
      col_of south p i e = refl
      col_of north p i e = refl

      col : on.leg.from.col ≡ 6 + width one
      col = sym (col_of on.leg.to on.leg.from on.far on.axis) ∙ ap (λ (z : Place). z.col) on.place

      far : 6 + width one + 2 ≤ x.t
      far =
          let (other, at_other, wide) = box_there m.boxes b (slice_get_within m.boxes b one at_b) in
          let same = ap width (same_Some other one (sym at_other ∙ at_b)) in
          let past = x.past b (slice_get_within m.boxes b one at_b) in omega arith

      by : (k from to : ℕ) → RunsDown m x.t x.w.from x.w.to k on.leg.from.col from to → ⊥
      by k from to (on_track at_k at_col) = let c = col in let f = far in omega arith
      by k from to (from_box d at_k is at_col at_from at_to) = let c = col in omega arith
      by k from to (onto_box d at_k is at_col at_from at_to) = let c = col in omega arith
      by k from to (beside_box d at_k is at_col at_from at_to) = let c = col in omega arith

-- a wire's end lies on its last leg
pub end_on_leg : (m : ModuleForm) → IsSound m → (o : Origin) (e : To) → Comes m o e
    → OnLeg (courses m) (end_cell m e) (axis_of (end_to e))
end_on_leg m sound o e comes =
    let (c, there, wire) = course_for m o e comes in
    let x = laid m sound c there in
    let to : x.w.to ≡ e = ap (λ (w : WireForm). w.to) (sym x.wire ∙ wire) in
    let (l, at_l, last) = last_leg m c x in
    record {
      course = c;
      there = there;
      number = last_index x.w.from x.w.to;
      leg = l;
      is = at_l;
      far = l.long;
      within = omega arith;
      axis = ap axis_of (last_to m x.t x.w.to l last ∙ ap end_to to);
      place = last_cell m x.t x.left x.w.to l last ∙ ap (end_cell m) to;
    }

-- the positions of a leg are among those of the wire
run_has : (l : Leg) (i n j : ℕ) → i < j → j ≤ i + n → Contains (run l i n) (spot l j)
run_has l i zero j after le = absurd (omega arith)
run_has l i (suc n) j after le = elim (cases_eq j (i + 1)) [
  | inl e ↦ subst (λ k. Contains (run l i (suc n)) (spot l k)) (sym e)
      (first_there (spot l (i + 1)) (run l (i + 1) n))
  | inr later ↦ later_there (spot l (i + 1)) (spot l j) (run l (i + 1) n)
      (run_has l (i + 1) n j (omega arith) (omega arith))
]

-- the positions of a wire's legs are those of the wire behind its start
runs_have : (ls : List Leg) (k : ℕ) (l : Leg) → slice_get ls k ≡ Some l → (s : Position)
    → Contains (run l 0 l.long) s → Contains (runs ls) s
runs_have [] k l at_k s there = absurd (cc)
runs_have (first ∷ more) zero l at_k s there =
    Contains-append_left (run first 0 first.long) (runs more) s
    (subst (λ (z : Leg). Contains (run z 0 z.long) s) (sym (same_Some first l at_k)) there)
runs_have (first ∷ more) (suc k) l at_k s there =
    Contains-append_right (run first 0 first.long) (runs more) s (runs_have more k l at_k s there)

-- a cell of a leg is one of the wire's way, where each leg goes on
pub on_way : (cs : List Course)
    → ((c : Course) → Contains cs c → (k : ℕ) (l : Leg) → slice_get (legs c) k ≡ Some l
    → 0 < l.long)
    → (p : Place) (a : Axis) → OnLeg cs p a → Any (Any (λ (s : Position). s.place ≡ p))
    (map way (map route cs))
on_way cs long p a on = by on.far on.number on.leg on.is on.within on.place
  where
    c : Course
    c = on.course

    some : (s : Position) → Contains (way (route c)) s → s.place ≡ p
        → Any (Any (λ (s : Position). s.place ≡ p)) (map way (map route cs))
    some s (j, less, at_j) same =
        let (k, lt, is_way) =
        contains_map way (map route cs) (route c) (contains_map route cs c on.there) in
        (k, way (route c), lt, is_way, (j, s, less, at_j, same))

    on_run : (k : ℕ) (l : Leg) → slice_get (legs c) k ≡ Some l → (j : ℕ) → 0 < j → j ≤ l.long
        → along l.to j l.from ≡ p → Any (Any (λ (s : Position). s.place ≡ p))
        (map way (map route cs))
    on_run k l at_k j pos le same =
        some (spot l j) (later_there c.start (spot l j) (runs (legs c))
        (runs_have (legs c) k l at_k (spot l j) (run_has l 0 l.long j pos (omega arith)))) same

    by : (far k : ℕ) (l : Leg) → slice_get (legs c) k ≡ Some l → far ≤ l.long
        → along l.to far l.from ≡ p → Any (Any (λ (s : Position). s.place ≡ p))
        (map way (map route cs))
    by (suc far) k l at_k le same = on_run k l at_k (suc far) (omega arith) le same
    by zero zero l at_k le same =
        some c.start (first_there c.start (runs (legs c)))
        (subst (λ (z : Leg). along z.to 0 z.from ≡ p → c.start.place ≡ p)
        (same_Some (record { from = c.start.place; to = c.start.to; long = c.long }) l at_k)
        (λ e. sym (ap (λ (s : Position). s.place)
        (spot_first (record { from = c.start.place; to = c.start.to; long = c.long }))) ∙ e)
        same)
    by zero (suc k) l at_k le same =
        let before = get_or (legs c) k l in
        let lt = slice_get_within (legs c) (suc k) l at_k in
        let at_before : slice_get (legs c) k ≡ Some before =
        slice_get-get_or (legs c) k l (omega arith) in
        on_run k before at_before before.long (long c on.there k before at_before) (omega arith)
        (joined c k before l at_before at_k
        ∙ (sym (ap (λ (s : Position). s.place) (spot_first l)) ∙ same))
