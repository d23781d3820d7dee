-- One module's drawing, and the ports of its boxes (docs/GRID.md, "Ports").
use Rattle.std.specs.Prelude.{◌≡◌, ℕ, ◌+◌, ◌<◌, ◌≤◌, ◌⊎◌, List, Contains}
use Rattle.std.specs.Str.{byte}
use Rattle.umix_base.specs.declared.place.Place.{Place}
use Rattle.two_d.specs.Places.{Rect, Within}
use Rattle.two_d.specs.Cells.{Grid, cell}
use Rattle.two_d.specs.Frames.{north_entries, west_entries, exits_of}

-- a module as it is drawn: its frame, the length of its name and its boxes
pub record Drawing : Type 0 where
  pub grid : Grid
  pub frame : Rect
  pub name_length : ℕ
  pub boxes : List Rect

-- the cells of the north entry, of the west entry, of the exits
abbrev pub IsNorthEntry : Drawing → Place → Type 0
IsNorthEntry m p = (p.row ≡ m.frame.top) × Contains (north_entries m.grid m.frame) p.col

abbrev pub IsWestEntry : Drawing → Place → Type 0
IsWestEntry m p = (p.col ≡ m.frame.left) × Contains (west_entries m.grid m.frame) p.row

abbrev pub IsExit : Drawing → Place → Type 0
IsExit m p = (p.col ≡ m.frame.right) × Contains (exits_of m.grid m.frame) p.row

-- a cell of the module's name
abbrev pub IsNameCell : Drawing → Place → Type 0
IsNameCell m p =
    (p.row ≡ m.frame.top + 1) × (m.frame.left < p.col) × (p.col ≤ m.frame.left + m.name_length)

-- an interior cell with this byte
abbrev pub Holds : Drawing → ℕ → Place → Type 0
Holds m b p = Within m.frame p × (cell m.grid p ≡ b)

-- in a column strictly between the corners of a box, in a row strictly between them
abbrev pub IsAcross : Rect → Place → Type 0
IsAcross b p = (b.left < p.col) × (p.col < b.right)

abbrev pub IsAlong : Rect → Place → Type 0
IsAlong b p = (b.top < p.row) × (p.row < b.bottom)

-- The ports of a box: `v` above it, `>` before it, `|` under it, and `-` after it, there also in
-- the right border. A `v` of the name is none; the other three stand in no name.
abbrev pub IsNPort : Drawing → Rect → Place → Type 0
IsNPort m b p = Holds m (byte "v") p × (p.row + 1 ≡ b.top) × IsAcross b p × (IsNameCell m p → ⊥)

abbrev pub IsWPort : Drawing → Rect → Place → Type 0
IsWPort m b p = Holds m (byte ">") p × (p.col + 1 ≡ b.left) × IsAlong b p

abbrev pub IsSPort : Drawing → Rect → Place → Type 0
IsSPort m b p = Holds m (byte "|") p × (p.row ≡ b.bottom + 1) × IsAcross b p

abbrev pub IsEPort : Drawing → Rect → Place → Type 0
IsEPort m b p = (Holds m (byte "-") p ⊎ IsExit m p) × (p.col ≡ b.right + 1) × IsAlong b p
