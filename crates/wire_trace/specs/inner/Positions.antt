-- The directions, the axes and the positions of the code as those of the definitions.
use Rattle.std.specs.Prelude.{◌+◌, ◌<◌, ◌≤◌, ◌^◌}
use Rattle.umix_base.specs.declared.place.Place.{Place}
use Rattle.two_d.specs.Wires as wires
use Rattle.wire_trace.specs.declared.position.Direction.{Direction}
use Rattle.wire_trace.specs.declared.position.Direction.TheVariants.{East, West, South, North}
use Rattle.wire_trace.specs.declared.position.Axis.{Axis}
use Rattle.wire_trace.specs.declared.position.Axis.TheVariants.{Horizontal, Vertical}
use Rattle.wire_trace.specs.declared.position.Position.{Position}

-- the rows and the columns beside a place have numbers
pub record HasNeighbours (p : Place) : Type 0 where
  pub row : 1 ≤ p.row
  pub col : 1 ≤ p.col
  pub last_row : p.row + 1 < 2 ^ 32
  pub last_col : p.col + 1 < 2 ^ 32

abbrev pub direction_of : Direction → wires.Direction
direction_of East = wires.east
direction_of West = wires.west
direction_of South = wires.south
direction_of North = wires.north

abbrev pub axis_in : Axis → wires.Axis
axis_in Horizontal = wires.horizontal
axis_in Vertical = wires.vertical

abbrev pub position_of : Position → wires.Position
position_of s = record { place = s.place; to = direction_of s.to }

-- an axis of the definitions, as one of the code
abbrev pub axis_at : wires.Axis → Axis
axis_at wires.horizontal = Horizontal
axis_at wires.vertical = Vertical
