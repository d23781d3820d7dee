-- Wires: where one begins and ends, how it goes on, its trace (docs/GRID.md, "Wires").
use Rattle.std.specs.Prelude.{◌≡◌, ◌≢◌, ℕ, ◌+◌, ◌-◌, ◌≤◌, ◌⊎◌, List, [], ◌∷◌, length, slice_get, Some, AllPairs}
use Rattle.std.specs.Str.{byte}
use Rattle.umix_base.specs.declared.place.Place.{Place}
use Rattle.two_d.specs.Places.{at, Rect}
use Rattle.two_d.specs.Ports.{Drawing, Holds, IsNorthEntry, IsWestEntry, IsNPort, IsWPort, IsSPort, IsEPort}
use Rattle.two_d.specs.Frames.{exits_of}
use Rattle.two_d.specs.declared.module.Origin.{Origin}
use Rattle.two_d.specs.declared.module.Origin.TheVariants.{North, West, South, East}
use Rattle.two_d.specs.declared.module.To.{To}
use Rattle.two_d.specs.declared.module.To.TheVariants.{N, W, Exit}

pub data Direction : Type 0 where
  east west south north : Direction

pub data Axis : Type 0 where
  horizontal vertical : Axis

abbrev pub axis_of : Direction → Axis
axis_of east = horizontal
axis_of west = horizontal
axis_of south = vertical
axis_of north = vertical

abbrev pub ahead : Direction → Place → Place
ahead east p = at p.row (p.col + 1)
ahead west p = at p.row (p.col - 1)
ahead south p = at (p.row + 1) p.col
ahead north p = at (p.row - 1) p.col

-- a cell of a wire, and the direction in which the wire comes to it, or begins at it
pub record Position : Type 0 where
  pub place : Place
  pub to : Direction

-- the neighbour of a position's cell in a direction, come to in it
abbrev pub next : Position → Direction → Position
next s d = record { place = ahead d s.place; to = d }

-- a wire from this origin begins there
pub data StartsAt (m : Drawing) : Position → Origin → Type 0 where
  at_north : (p : Place) → IsNorthEntry m p → StartsAt m (record { place = p; to = south }) North
  at_west : (p : Place) → IsWestEntry m p → StartsAt m (record { place = p; to = east }) West
  at_south : (p : Place) (i : ℕ) (b : Rect) → slice_get m.boxes i ≡ Some b → IsSPort m b p →
      StartsAt m (record { place = p; to = south }) (South i)
  at_east : (p : Place) (i : ℕ) (b : Rect) → slice_get m.boxes i ≡ Some b → IsEPort m b p →
      StartsAt m (record { place = p; to = east }) (East i)

-- a wire that comes to the position ends there, at this end
pub data EndsAt (m : Drawing) : Position → To → Type 0 where
  at_n : (p : Place) (i : ℕ) (b : Rect) → slice_get m.boxes i ≡ Some b → IsNPort m b p →
      EndsAt m (record { place = p; to = south }) (N i)
  at_w : (p : Place) (i : ℕ) (b : Rect) → slice_get m.boxes i ≡ Some b → IsWPort m b p →
      EndsAt m (record { place = p; to = east }) (W i)
  at_exit : (row i : ℕ) → slice_get (exits_of m.grid m.frame) i ≡ Some row →
      EndsAt m (record { place = at row m.frame.right; to = east }) (Exit i)

abbrev pub IsStart : Drawing → Position → Type 0
IsStart m s = (o : Origin) × StartsAt m s o

abbrev pub IsEnd : Drawing → Position → Type 0
IsEnd m s = (end : To) × EndsAt m s end

-- the byte over which a wire goes straight
abbrev pub line : Axis → ℕ
line horizontal = byte "-"
line vertical = byte "|"

abbrev pub IsStraight : Drawing → Position → Type 0
IsStraight m s = Holds m (line (axis_of s.to)) s.place ⊎ Holds m (byte "#") s.place

abbrev pub IsTurn : Drawing → Position → Type 0
IsTurn m s = Holds m (byte "+") s.place

-- a wire can come there: it goes straight over the cell, turns at it or ends at it
abbrev pub IsTaker : Drawing → Position → Type 0
IsTaker m s = IsStraight m s ⊎ IsTurn m s ⊎ IsEnd m s

-- at a turn: to a taker on the other axis
abbrev pub MayTurn : Drawing → Position → Direction → Type 0
MayTurn m s d = (axis_of d ≢ axis_of s.to) × IsTaker m (next s d)

-- to the one taker
pub record TurnsTo (m : Drawing) (s : Position) (d : Direction) : Type 0 where
  pub may : MayTurn m s d
  pub only : (e : Direction) → MayTurn m s e → e ≡ d

-- Where a wire goes on from a position: from an end nowhere, from a turn to the one taker if there
-- is just one and else nowhere, from any other straight ahead.
pub data GoesOn (m : Drawing) (s : Position) : List Position → Type 0 where
  ends : IsEnd m s → GoesOn m s []
  turns : (d : Direction) → IsTurn m s → TurnsTo m s d → GoesOn m s (next s d ∷ [])
  stands : IsTurn m s → ((d : Direction) → TurnsTo m s d → ⊥) → GoesOn m s []
  keeps : (IsEnd m s → ⊥) → (IsTurn m s → ⊥) → GoesOn m s (next s s.to ∷ [])

-- from one position of a wire to the one after it
abbrev pub Step : Drawing → Position → Position → Type 0
Step m s t = GoesOn m s (t ∷ []) × IsTaker m t

-- two positions have one cell on one axis; a turn is on both
abbrev pub Collide : Drawing → Position → Position → Type 0
Collide m s t = (s.place ≡ t.place) × ((axis_of s.to ≡ axis_of t.to) ⊎ IsTurn m s)

abbrev pub Trace : Type 0
Trace = List Position

-- a way from the start, step by step, on which no cell comes twice on one axis
pub record IsWay (m : Drawing) (start : Position) (way : Trace) : Type 0 where
  pub first : slice_get way 0 ≡ Some start
  pub steps : (k : ℕ) (s t : Position) → slice_get way k ≡ Some s → slice_get way (k + 1) ≡ Some t →
      Step m s t
  pub apart : AllPairs (λ s t. Collide m s t → ⊥) way

-- the trace of a wire: the longest such way
pub record IsTrace (m : Drawing) (start : Position) (trace : Trace) : Type 0 where
  pub way : IsWay m start trace
  pub longest : (more : Trace) → IsWay m start more → length more ≤ length trace
