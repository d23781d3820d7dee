-- The wires of a drawing at the place of its module in a grid.
use Rattle.std.specs.Prelude.{◌≡◌, ◌≢◌, ◌≤◌, ℕ, suc, List, map, slice_get, Some}
use Rattle.std.specs.List.{Contains}
use Rattle.std.proofs.Common.{arith, sym, ap, subst, ◌∙◌}
use Rattle.std.proofs.lemmas.Option.{slice_get-map}
use Rattle.std.specs.Option.{option_map}
use Rattle.umix_base.specs.declared.place.Place.{Place}
use Rattle.two_d.specs.Wires.{Direction, east, west, south, north, Axis, axis_of}
use Rattle.two_d.proofs.MapLists.{map_contains, contains_map}
use Rattle.two_d.specs.Programs.{ModuleForm}
use Rattle.two_d.specs.Sound.{IsSound}
use Rattle.grid_picture.specs.Courses.{Leg, Course, legs}
use Rattle.grid_picture.proofs.Courses.{AreFar, OnLeg, AtJoint}
use Rattle.grid_picture.proofs.Legs.{Fits, Near}
use Rattle.grid_picture.proofs.Moved.{moved, moved_leg, AllFit, legs_moved, moved_course, leg_moved}
use Rattle.grid_picture.proofs.Moved.{fits_there, near_moved, along_moved}
use Rattle.grid_draw.specs.Layout.{courses, track}
use Rattle.grid_draw.proofs.Apart.{courses_far, piece_of}
use Rattle.grid_draw.proofs.Lines.{pieces_turn}
use Rattle.grid_draw.proofs.WiresIn.{course_of}

-- wires that are far apart are so when they are moved
pub far_moved : (o : Place) (cs : List Course) → AreFar cs → AreFar (map (moved_course o) cs)
far_moved o cs far = record {
  fits = λ c there k l at_k.
      (let (d, there_d, same) = map_contains (moved_course o) cs c there in
      let (n, at_n, is) =
      leg_moved o d (far.fits d there_d) k l
      (subst (λ x. slice_get (legs x) k ≡ Some l) (sym same) at_k) in
      subst (λ (x : Leg). Fits x.to x.from x.long) is
      (fits_there o n (far.fits d there_d k n at_n)));
  near = λ c d k j l n there there_d at_k at_j near.
      (let (a, there_a, same_a) = map_contains (moved_course o) cs c there in
      let (b, there_b, same_b) = map_contains (moved_course o) cs d there_d in
      let (x, at_x, is_x) =
      leg_moved o a (far.fits a there_a) k l
      (subst (λ z. slice_get (legs z) k ≡ Some l) (sym same_a) at_k) in
      let (y, at_y, is_y) =
      leg_moved o b (far.fits b there_b) j n
      (subst (λ z. slice_get (legs z) j ≡ Some n) (sym same_b) at_j) in
      let (e, number) = far.near a b k j x y there_a there_b at_x at_y
      (near_moved o x y (far.fits a there_a k x at_x) (far.fits b there_b j y at_y)
      (subst (λ z. Near z (moved_leg o y)) (sym is_x) (subst (Near l) (sym is_y) near))) in
      (sym same_a ∙ (ap (moved_course o) e ∙ same_b), number));
}

-- the wires at the place of a module
abbrev pub placed : Place → ModuleForm → List Course
placed o m = map (moved_course o) (courses m)

-- no two legs of the wires there are near each other
pub placed_far : (o : Place) (m : ModuleForm) → IsSound m → AreFar (placed o m)
placed_far o m sound = far_moved o (courses m) (courses_far m sound)

-- at each joint a wire of the drawing turns
pub courses_turn : (m : ModuleForm) → IsSound m → (c : Course) (k : ℕ) (l n : Leg)
    → Contains (courses m) c → slice_get (legs c) k ≡ Some l → slice_get (legs c) (suc k) ≡ Some n
    → axis_of n.to ≢ axis_of l.to
courses_turn m sound c k l n there at_k at_next =
    let x = course_of m c there in
    pieces_turn m (track m x.number) x.w.from x.w.to k l n (piece_of m sound c x k l at_k)
    (piece_of m sound c x (suc k) n at_next)

-- and so it does at its place
pub placed_turn : (o : Place) (m : ModuleForm) → IsSound m → (c : Course) (k : ℕ) (l n : Leg)
    → Contains (placed o m) c → slice_get (legs c) k ≡ Some l → slice_get (legs c) (suc k) ≡ Some n
    → axis_of n.to ≢ axis_of l.to
placed_turn o m sound c k l n there at_k at_next =
    let (d, there_d, same) = map_contains (moved_course o) (courses m) c there in
    let fits = (courses_far m sound).fits d there_d in
    let (x, at_x, is_x) =
    leg_moved o d fits k l (subst (λ z. slice_get (legs z) k ≡ Some l) (sym same) at_k) in
    let (y, at_y, is_y) =
    leg_moved o d fits (suc k) n
    (subst (λ z. slice_get (legs z) (suc k) ≡ Some n) (sym same) at_next) in
    λ e. courses_turn m sound d k x y there_d at_x at_y
    (ap (λ (z : Leg). axis_of z.to) is_y ∙ (e ∙ sym (ap (λ (z : Leg). axis_of z.to) is_x)))

-- a leg, where its wire was moved
leg_there : (o : Place) (c : Course) → AllFit (legs c) → (k : ℕ) (l : Leg)
    → slice_get (legs c) k ≡ Some l → slice_get (legs (moved_course o c)) k ≡ Some (moved_leg o l)
leg_there o c fit k l at_k =
    ap (λ ls. slice_get ls k) (legs_moved o c fit)
    ∙ (slice_get-map (moved_leg o) (legs c) k ∙ ap (option_map (moved_leg o)) at_k)

-- a part of a leg fits where the leg does
pub fits_less : (d : Direction) (p : Place) (n i : ℕ) → i ≤ n → Fits d p n → Fits d p i
fits_less east p n i le fits = tt
fits_less west p n i le fits = omega arith
fits_less south p n i le fits = tt
fits_less north p n i le fits = omega arith

-- a cell on a leg is on one where the wires were moved
pub on_leg_moved : (o : Place) (cs : List Course) → AreFar cs → (p : Place) (a : Axis)
    → OnLeg cs p a → OnLeg (map (moved_course o) cs) (moved o p) a
on_leg_moved o cs far p a on = record {
  course = moved_course o on.course;
  there = contains_map (moved_course o) cs on.course on.there;
  number = on.number;
  leg = moved_leg o on.leg;
  is = leg_there o on.course (far.fits on.course on.there) on.number on.leg on.is;
  far = on.far;
  within = on.within;
  axis = on.axis;
  place = along_moved o on.leg.to on.far on.leg.from
      (fits_less on.leg.to on.leg.from on.leg.long on.far on.within
      (far.fits on.course on.there on.number on.leg on.is)) ∙ ap (moved o) on.place;
}

-- a joint is one where the wires were moved
pub joint_moved : (o : Place) (cs : List Course) → AreFar cs → (p : Place) → AtJoint cs p
    → AtJoint (map (moved_course o) cs) (moved o p)
joint_moved o cs far p joint = record {
  course = moved_course o joint.course;
  there = contains_map (moved_course o) cs joint.course joint.there;
  number = joint.number;
  leg = moved_leg o joint.leg;
  on = moved_leg o joint.on;
  is = leg_there o joint.course (far.fits joint.course joint.there) joint.number joint.leg joint.is;
  is_on = leg_there o joint.course (far.fits joint.course joint.there)
      (suc joint.number) joint.on joint.is_on;
  place = along_moved o joint.leg.to joint.leg.long joint.leg.from
      (far.fits joint.course joint.there joint.number joint.leg joint.is)
      ∙ ap (moved o) joint.place;
}
