-- The ways of wires, as the code keeps them.
use Rattle.std.specs.Prelude.{◌≡◌, ℕ, ◌+◌, ◌-◌, ◌<◌, ◌^◌, List, [], ◌∷◌, ◌++◌, map}
use Rattle.umix_base.specs.declared.place.Place.{Place}
use Rattle.two_d.specs.Clean.{WireForm}
use Rattle.two_d.specs.Places.{at}
use Rattle.two_d.specs.Programs.{ModuleForm}
use Rattle.two_d.specs.Wires.{east, west, south, north}
use Rattle.two_d.specs.Wires as wires
use Rattle.two_d.specs.declared.module.Origin.{Origin}
use Rattle.two_d.specs.declared.module.Origin.TheVariants as origins
use Rattle.two_d.specs.declared.module.To.{To}
use Rattle.grid_picture.specs.Courses.{along, legs_from}
use Rattle.grid_picture.specs.Courses as courses
use Rattle.grid_draw.specs.Layout.{course_on, end_row, start_row, up_or_down}
use Rattle.grid_draw.specs.declared.course.Bend.{Bend}
use Rattle.grid_draw.specs.declared.course.Course.{Course}
use Rattle.grid_draw.specs.declared.course.Direction.{Direction}
use Rattle.grid_draw.specs.declared.course.Direction.TheVariants.{East, West, South, North}
use Rattle.grid_draw.specs.declared.course.Leg.{Leg}
use Rattle.grid_draw.specs.declared.course.Point.{Point}

abbrev pub direction_of : Direction → wires.Direction
direction_of East = east
direction_of West = west
direction_of South = south
direction_of North = north

abbrev pub place_of : Point → Place
place_of p = at p.row p.col

abbrev pub form_of : Leg → courses.Leg
form_of leg = record { from = place_of leg.from; to = direction_of leg.to; long = leg.long }

abbrev pub bend_of : Bend → wires.Direction × ℕ
bend_of bend = (direction_of bend.to, bend.long)

abbrev pub bends_of : List Bend → List (wires.Direction × ℕ)
bends_of bends = map bend_of bends

-- the legs at whose beginning the wire turns
abbrev pub bent_of : Course → List courses.Leg
bent_of c =
    legs_from (along (direction_of c.first.to) c.first.long (place_of c.first.from))
    (bends_of c.bends.items)

-- all legs of the wire
abbrev pub legs_of : Course → List courses.Leg
legs_of c = form_of c.first ∷ bent_of c

-- the wire runs so
pub record IsCourse (c : Course) (d : courses.Course) : Type 0 where
  pub from : place_of c.first.from ≡ d.start.place
  pub to : direction_of c.first.to ≡ d.start.to
  pub long : c.first.long ≡ d.long
  pub bends : bends_of c.bends.items ≡ d.bends

-- the bends at which the wire comes to its track
abbrev pub first_bends : ModuleForm → ℕ → To → Origin → List (wires.Direction × ℕ)
first_bends m t to origins.North = []
first_bends m t to origins.West = up_or_down (start_row origins.West) (end_row m to) ∷ []
first_bends m t to (origins.East b) = up_or_down (start_row (origins.East b)) (end_row m to) ∷ []
first_bends m t to (origins.South b) =
    (east, t - 5) ∷ up_or_down (start_row (origins.South b)) (end_row m to) ∷ []

-- the wire's first leg, and its bends before it leaves its track
pub record IsBegun (m : ModuleForm) (t : ℕ) (w : WireForm) (leg : Leg)
    (old new : List (wires.Direction × ℕ)) : Type 0 where
  pub from : place_of leg.from ≡ (course_on m t w w.from).start.place
  pub to : direction_of leg.to ≡ (course_on m t w w.from).start.to
  pub long : leg.long ≡ (course_on m t w w.from).long
  pub pushed : new ≡ old ++ first_bends m t w.to w.from

-- how many cells these bends go on
abbrev pub total : List (wires.Direction × ℕ) → ℕ
total [] = 0
total (bend ∷ more) = bend.1 + total more

-- the numbers of the leg's end are no larger than a number may be
pub record IsNear (leg : Leg) : Type 0 where
  pub row : leg.from.row + leg.long < 2 ^ 62
  pub col : leg.from.col + leg.long < 2 ^ 62

-- nor are those of the wire's
pub record IsWithin (c : Course) : Type 0 where
  pub row : c.first.from.row + (c.first.long + total (bends_of c.bends.items)) < 2 ^ 62
  pub col : c.first.from.col + (c.first.long + total (bends_of c.bends.items)) < 2 ^ 62
