-- A module's drawing as the code lends it, and what is known of it.
use Rattle.std.specs.Prelude.{◌≡◌, ℕ, ◌<◌, ◌≤◌, ◌↔◌, ◌⊎◌, length, map, slice_get, Option, Some, MatchOption}
use Rattle.umix_base.specs.declared.place.Place.{Place}
use Rattle.two_d.specs.Places.{Rect, ShareACell}
use Rattle.two_d.specs.Cells.{cell}
use Rattle.two_d.specs.Frames.{exits_of}
use Rattle.two_d.specs.Ports.{Drawing, Holds, IsExit, IsNorthEntry, IsWestEntry}
use Rattle.grid_reader.specs.Frames.{rect_of}
use Rattle.grid_reader.specs.Boxes.{box_rect, Fits}
use Rattle.wire_trace.specs.declared.sheet.Sheet.{Sheet}
use Rattle.wire_trace.specs.declared.owners.Owners.{Owners}
use Rattle.wire_trace.specs.inner.Areas.{IsAreaOf, AreNumbers, AreOwners}

-- the drawing that is lent
abbrev pub drawing_in : Sheet → Drawing
drawing_in s = record {
  grid = s.grid.now;
  frame = rect_of s.frame.now;
  name_length = s.name;
  boxes = map box_rect s.boxes.now;
}

-- the frame has an interior on the grid, in which the boxes lie, no two of which share a cell
pub record IsLaidOut (m : Drawing) : Type 0 where
  pub top : 1 ≤ m.frame.top
  pub left : 1 ≤ m.frame.left
  pub wide : m.frame.left < m.frame.right
  pub high : m.frame.top < m.frame.bottom
  pub narrow : m.frame.right ≤ 4096
  pub few : m.frame.bottom ≤ 262145
  pub fit : (i : ℕ) (b : Rect) → slice_get m.boxes i ≡ Some b → Fits m.frame b
  pub apart : (i j : ℕ) (a b : Rect) → slice_get m.boxes i ≡ Some a → slice_get m.boxes j ≡ Some b →
      ShareACell a b → i ≡ j

-- what is lent is laid out, and the frame has the entries and the exits of its borders
pub record IsSheet (s : Sheet) : Type 0 where
  pub laid : IsLaidOut (drawing_in s)
  pub north : (p : Place) → IsNorthEntry (drawing_in s) p ↔ ((p.row ≡ s.frame.now.top) ×
      (s.frame.now.north ≡ Some p.col))
  pub west : (p : Place) → IsWestEntry (drawing_in s) p ↔ ((p.col ≡ s.frame.now.left) × (s.frame.now.west ≡ Some p.row))
  pub exits : s.frame.now.exits.items ≡ exits_of s.grid.now (rect_of s.frame.now)

-- the table has for each cell of the frame the box that covers it
pub record AreOwnersOf (m : Drawing) (owners : Owners) : Type 0 where
  pub area : IsAreaOf m.frame owners.area
  pub numbers : AreNumbers owners.area owners
  pub covers : AreOwners m.boxes (length m.boxes) owners

-- the number of a box that has the property was found, or no box has it
abbrev pub FindsBox : Drawing → (Rect → Type 0) → Option ℕ → Type 0
FindsBox m P found =
    MatchOption found ((i : ℕ) (b : Rect) → slice_get m.boxes i ≡ Some b → P b → ⊥)
    (λ i. (b : Rect) × (slice_get m.boxes i ≡ Some b) × P b)

-- a cell of the right border, between its corners, has a `-`
pub record IsExitCell (m : Drawing) (p : Place) : Type 0 where
  pub border : p.col ≡ m.frame.right
  pub below : m.frame.top < p.row
  pub above : p.row < m.frame.bottom
  pub here : cell m.grid p ≡ 45

-- a `-` of the interior or of the right border
abbrev pub MayBeginEast : Drawing → Place → Type 0
MayBeginEast m p = Holds m 45 p ⊎ IsExit m p
