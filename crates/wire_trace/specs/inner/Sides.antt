-- The sides of a box: their ports, and the cells beside them.
use Rattle.std.specs.Prelude.{ℕ, ◌+◌, ◌-◌, Option, MatchOption}
use Rattle.umix_base.specs.declared.place.Place.{Place}
use Rattle.two_d.specs.Places.{at, Rect, IsSecondPlace}
use Rattle.two_d.specs.Ports.{Drawing, IsNPort, IsWPort, IsSPort, IsEPort}
use Rattle.wire_trace.specs.declared.sides.Side.{Side}
use Rattle.wire_trace.specs.declared.sides.Side.TheVariants.{North, West, East, South}

-- the ports of a side
abbrev pub IsPort : Drawing → Rect → Side → Place → Type 0
IsPort m b North = IsNPort m b
IsPort m b West = IsWPort m b
IsPort m b East = IsEPort m b
IsPort m b South = IsSPort m b

-- how far apart the corners of a side are
abbrev pub span : Rect → Side → ℕ
span b North = b.right - b.left
span b West = b.bottom - b.top
span b East = b.bottom - b.top
span b South = b.right - b.left

-- the cells beside a side
abbrev pub side_cell : Rect → Side → ℕ → Place
side_cell b North k = at (b.top - 1) (b.left + k)
side_cell b West k = at (b.top + k) (b.left - 1)
side_cell b East k = at (b.top + k) (b.right + 1)
side_cell b South k = at (b.bottom + 1) (b.left + k)

-- the second place of its kind was found, or there is none
abbrev pub FindsSecond : (Place → Type 0) → Option Place → Type 0
FindsSecond P found = MatchOption found ((p : Place) → IsSecondPlace P p → ⊥) (IsSecondPlace P)
