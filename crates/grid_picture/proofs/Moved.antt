-- Wires that are moved down and to the right run as before.
use Rattle.std.specs.Prelude.{◌≡◌, ◌+◌, ℕ, suc, List, [], ◌∷◌, map, slice_get, Some}
use Rattle.std.proofs.Common.{arith, refl, sym, ap, ◌∙◌}
use Rattle.std.proofs.lemmas.Option.{slice_get-map}
use Rattle.umix_base.specs.declared.place.Place.{Place}
use Rattle.two_d.specs.Places.{at}
use Rattle.two_d.specs.Wires.{Direction, east, west, south, north, axis_of, Axis, horizontal, vertical}
use Rattle.two_d.proofs.Equal.{equal_places}
use Rattle.two_d.proofs.Options.{option_map_some}
use Rattle.grid_picture.specs.Courses.{along, Leg, Course, legs_from, legs}
use Rattle.grid_picture.proofs.Legs.{Fits, Near, across, forth, low, high}

-- a place further down and to the right by the row and the column of another
abbrev pub moved : Place → Place → Place
moved o p = at (o.row + p.row) (o.col + p.col)

abbrev pub moved_leg : Place → Leg → Leg
moved_leg o l = record { from = moved o l.from; to = l.to; long = l.long }

abbrev pub moved_course : Place → Course → Course
moved_course o c = record { start = record { place = moved o c.start.place; to = c.start.to }; long = c.long; bends = c.bends; wire = c.wire }

-- what fits goes on to the cell that was moved
pub along_moved : (o : Place) (d : Direction) (n : ℕ) (p : Place) → Fits d p n → along d n (moved o p) ≡ moved o (along d n p)
along_moved o east n p fits = equal_places _ _ refl (omega arith)
along_moved o west n p fits = equal_places _ _ refl (omega arith)
along_moved o south n p fits = equal_places _ _ (omega arith) refl
along_moved o north n p fits = equal_places _ _ (omega arith) refl

-- each leg of these fits
abbrev pub AllFit : List Leg → Type 0
AllFit ls = (k : ℕ) (l : Leg) → slice_get ls k ≡ Some l → Fits l.to l.from l.long

legs_moved_from : (o p : Place) (bends : List (Direction × ℕ)) → AllFit (legs_from p bends) → legs_from (moved o p) bends ≡ map (moved_leg o) (legs_from p bends)
legs_moved_from o p [] fit = refl
legs_moved_from o p ((d, n) ∷ more) fit =
    ap (λ q. record { from = moved o p; to = d; long = n } ∷ legs_from q more) (along_moved o d n p (fit 0 (record { from = p; to = d; long = n }) refl))
    ∙ ap (λ ls. record { from = moved o p; to = d; long = n } ∷ ls) (legs_moved_from o (along d n p) more (λ k l is. fit (suc k) l is))

-- the legs of a wire that was moved are its legs, moved
pub legs_moved : (o : Place) (c : Course) → AllFit (legs c) → legs (moved_course o c) ≡ map (moved_leg o) (legs c)
legs_moved o c fit = legs_moved_from o c.start.place ((c.start.to, c.long) ∷ c.bends) fit

-- a leg of a wire that was moved
pub leg_moved : (o : Place) (c : Course) → AllFit (legs c) → (k : ℕ) (n : Leg) → slice_get (legs (moved_course o c)) k ≡ Some n → (l : Leg) × (slice_get (legs c) k ≡ Some l) × (moved_leg o l ≡ n)
leg_moved o c fit k n is = option_map_some (moved_leg o) (slice_get (legs c) k) n (sym (slice_get-map (moved_leg o) (legs c) k) ∙ (ap (λ ls. slice_get ls k) (sym (legs_moved o c fit)) ∙ is))

fits_moved : (o : Place) (d : Direction) (p : Place) (n : ℕ) → Fits d p n → Fits d (moved o p) n
fits_moved o east p n fits = fits
fits_moved o west p n fits = omega arith
fits_moved o south p n fits = fits
fits_moved o north p n fits = omega arith

-- it fits
pub fits_there : (o : Place) (l : Leg) → Fits l.to l.from l.long → Fits (moved_leg o l).to (moved_leg o l).from (moved_leg o l).long
fits_there o l fits = fits_moved o l.to l.from l.long fits

low_moved : (o : Place) (d : Direction) (p : Place) (n : ℕ) → Fits d p n → low d (moved o p) n ≡ forth (axis_of d) o + low d p n
low_moved o east p n fits = refl
low_moved o west p n fits = omega arith
low_moved o south p n fits = refl
low_moved o north p n fits = omega arith

high_moved : (o : Place) (d : Direction) (p : Place) (n : ℕ) → high d (moved o p) n ≡ forth (axis_of d) o + high d p n
high_moved o east p n = omega arith
high_moved o west p n = refl
high_moved o south p n = omega arith
high_moved o north p n = refl

across_moved : (o : Place) (a : Axis) (p q : Place) → across a (moved o p) ≡ across a (moved o q) → across a p ≡ across a q
across_moved o horizontal p q e = omega arith
across_moved o vertical p q e = omega arith

-- legs that were moved are near only where they were near before
pub near_moved : (o : Place) (l k : Leg) → Fits l.to l.from l.long → Fits k.to k.from k.long → Near (moved_leg o l) (moved_leg o k) → Near l k
near_moved o l k fits fit near =
    let a = low_moved o l.to l.from l.long fits in
    let b = high_moved o l.to l.from l.long in
    let c = low_moved o k.to k.from k.long fit in
    let d = high_moved o k.to k.from k.long in
    let same = ap (λ x. forth x o) near.axis in
    let from = near.from_low in
    let to = near.to_high in
    record {
      axis = near.axis;
      line = across_moved o (axis_of l.to) l.from k.from near.line;
      from_low = omega arith;
      to_high = omega arith;
    }
