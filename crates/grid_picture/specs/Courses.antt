-- Wires that run in straight legs: from a start straight on, then on from bend to bend.
use Rattle.std.specs.Prelude.{ℕ, ◌+◌, ◌-◌, List, [], ◌∷◌, Bool, true, false, ◌&&◌, ◌==◌, nat_le}
use Rattle.std.specs.Prelude.{if◌then◌else◌}
use Rattle.std.specs.List.{list_any}
use Rattle.std.specs.Str.{byte}
use Rattle.umix_base.specs.declared.place.Place.{Place}
use Rattle.two_d.specs.Places.{at}
use Rattle.two_d.specs.Wires.{Direction, east, west, south, north, Axis, horizontal, vertical}
use Rattle.two_d.specs.Wires.{axis_of, Position}
use Rattle.two_d.specs.Clean.{WireForm}

-- the cell that lies n cells further
abbrev pub along : Direction → ℕ → Place → Place
along east n p = at p.row (p.col + n)
along west n p = at p.row (p.col - n)
along south n p = at (p.row + n) p.col
along north n p = at (p.row - n) p.col

-- from a cell straight on, so many cells
pub record Leg : Type 0 where
  pub from : Place
  pub to : Direction
  pub long : ℕ

-- A wire by its legs: the first goes on as the wire starts, each other turns at the end of the one
-- before.
pub record Course : Type 0 where
  pub start : Position
  pub long : ℕ
  pub bends : List (Direction × ℕ)
  pub wire : WireForm

-- the legs behind a bend at this cell, each by its direction and how many cells it goes on
abbrev pub legs_from : Place → List (Direction × ℕ) → List Leg
legs_from p [] = []
legs_from p ((d, n) ∷ more) = record { from = p; to = d; long = n } ∷ legs_from (along d n p) more

-- the legs at whose beginning the wire turns
abbrev pub bent_legs : Course → List Leg
bent_legs c = legs_from (along c.start.to c.long c.start.place) c.bends

-- all legs of a wire
abbrev pub legs : Course → List Leg
legs c = record { from = c.start.place; to = c.start.to; long = c.long } ∷ bent_legs c

-- The cell is one of a leg that goes in this direction from there, so many cells on. Its two ends are
-- too.
abbrev pub has_cell : Direction → Place → ℕ → Place → Bool
has_cell east f n p = (p.row == f.row) && nat_le f.col p.col && nat_le p.col (f.col + n)
has_cell west f n p = (p.row == f.row) && nat_le p.col f.col && nat_le f.col (p.col + n)
has_cell south f n p = (p.col == f.col) && nat_le f.row p.row && nat_le p.row (f.row + n)
has_cell north f n p = (p.col == f.col) && nat_le p.row f.row && nat_le f.row (p.row + n)

-- the two are the same axis
abbrev pub same_axis : Axis → Axis → Bool
same_axis horizontal horizontal = true
same_axis horizontal vertical = false
same_axis vertical horizontal = false
same_axis vertical vertical = true

-- some wire has the cell on the axis
abbrev pub passes : Axis → List Course → Place → Bool
passes a cs p =
    list_any
    (λ c. list_any
    (λ (l : Leg). same_axis a (axis_of l.to) && has_cell l.to l.from l.long p) (legs c))
    cs

-- some wire turns at the cell
abbrev pub bends_at : List Course → Place → Bool
bends_at cs p =
    list_any
    (λ c. list_any
    (λ (l : Leg). (l.from.row == p.row) && (l.from.col == p.col)) (bent_legs c))
    cs

-- The byte of a cell of wires: `+` where one turns, `#` where wires pass on both axes, `-` or `|`
-- where one passes, a space where none does.
abbrev pub wire_byte : List Course → Place → ℕ
wire_byte cs p =
    if bends_at cs p then byte "+" else
    (if passes horizontal cs p then (if passes vertical cs p then byte "#" else byte "-") else
    (if passes vertical cs p then byte "|" else byte " "))
