-- The wires of a module, or the first of faults 11 to 15 (docs/GRID.md, "Wires").
use Rattle.std.specs.Prelude.{◌≡◌, ◌-◌, ◌↔◌, List, [], ◌∷◌, ◌++◌, length, drop, slice_get, Some}
use Rattle.std.specs.Prelude.{Contains, Any, AllPairs}
use Rattle.std.specs.Str.{byte}
use Rattle.umix_base.specs.declared.place.Place.{Place}
use Rattle.two_d.specs.Places.{Before, IsFirstPlace, IsSecondPlace, Rect, Within, Covers}
use Rattle.two_d.specs.Faults.{TextFault, two_ports, broken_wire, merge, bad_turn, stray}
use Rattle.two_d.specs.Reading.{Reading, give, the, refuse, refuse_at, each, each_after, ◌>>=◌, ◌>>◌}
use Rattle.two_d.specs.Cells.{cell}
use Rattle.two_d.specs.Ports.{Drawing, IsNameCell, IsNPort, IsWPort, IsSPort, IsEPort}
use Rattle.two_d.specs.Wires.{Position, StartsAt, EndsAt, IsStart, IsTurn, IsTaker, GoesOn, Collide, Trace, IsTrace}
use Rattle.two_d.specs.declared.module.Origin.{Origin}
use Rattle.two_d.specs.declared.module.To.{To}

-- a side with two ports is a fault: of the north, the west, the east, the south side
abbrev pub ports_at : Drawing → Rect → Reading TextFault (Unit {0})
ports_at m b = do
  refuse_at two_ports (IsSecondPlace (IsNPort m b))
  refuse_at two_ports (IsSecondPlace (IsWPort m b))
  refuse_at two_ports (IsSecondPlace (IsEPort m b))
  refuse_at two_ports (IsSecondPlace (IsSPort m b))

-- the starts of a module's wires, in reading order of their cells
pub record AreStarts (m : Drawing) (starts : List Position) : Type 0 where
  pub in_order : AllPairs (λ s t. Before s.place t.place) starts
  pub each : (s : Position) → Contains starts s ↔ IsStart m s

-- the cells that a wire tries: those of its trace from the second on, and the one to which it would
-- go on from the last
pub record AreTried (m : Drawing) (trace tried : Trace) : Type 0 where
  pub last : Position
  pub more : List Position
  pub is_last : slice_get trace (length trace - 1) ≡ Some last
  pub goes_on : GoesOn m last more
  pub all : tried ≡ drop 1 trace ++ more

-- a cell that a wire tries, after the earlier wires and its own cells before
abbrev pub tried_cell : Drawing → List Trace → Trace → Position → Reading TextFault Position
tried_cell m earlier own s = do
  refuse (broken_wire s.place) (IsTaker m s → ⊥)
  refuse (merge s.place) (Any (Any (Collide m s)) (own ∷ earlier))
  refuse (bad_turn s.place) (IsTurn m s × GoesOn m s [])
  give s

-- the trace of the wire of a start, after the earlier ones, or the first fault, cell by cell
abbrev pub wire_at : Drawing → List Trace → Position → Reading TextFault Trace
wire_at m earlier start = do
  trace ← the (IsTrace m start)
  tried ← the (AreTried m trace)
  each_after (tried_cell m earlier) (start ∷ []) tried

-- an interior cell that is no space, no cell of the name or of a box, and on no wire
pub record IsStray (m : Drawing) (traces : List Trace) (p : Place) : Type 0 where
  pub interior : Within m.frame p
  pub no_space : cell m.grid p ≡ byte " " → ⊥
  pub no_name : IsNameCell m p → ⊥
  pub no_box : Any (λ b. Covers b p) m.boxes → ⊥
  pub no_wire : Any (Any (λ s. s.place ≡ p)) traces → ⊥

-- a wire: where it begins and where it ends
pub record WireForm : Type 0 where
  pub from : Origin
  pub to : To

-- the wire of a trace
pub record IsWire (m : Drawing) (trace : Trace) (wire : WireForm) : Type 0 where
  pub first : Position
  pub last : Position
  pub is_first : slice_get trace 0 ≡ Some first
  pub is_last : slice_get trace (length trace - 1) ≡ Some last
  pub starts : StartsAt m first wire.from
  pub ends : EndsAt m last wire.to

-- the wires of a module in the order of their tracing, or the first of faults 11 to 15
abbrev pub wires_of : Drawing → Reading TextFault (List WireForm)
wires_of m = do
  each (ports_at m) m.boxes
  starts ← the (AreStarts m)
  traces ← each_after (wire_at m) [] starts
  refuse_at stray (IsFirstPlace (IsStray m traces))
  each (λ trace. the (IsWire m trace)) traces
