-- Frames with their entries and exits, and the names in them (docs/GRID.md, "Frames", "Names").
use Rattle.std.specs.Prelude.{◌≡◌, ℕ, ◌+◌, ◌<◌, ◌⊎◌, ◌==◌, List, length, filter, slice_get, slice_index, Option, Some}
use Rattle.std.specs.Str.{byte}
use Rattle.umix_base.specs.declared.place.Place.{Place}
use Rattle.two_d.specs.Places.{at, Rect, corner_of, inner_rows, inner_columns}
use Rattle.two_d.specs.Faults.{TextFault, open_frame, frames_meet, two_entries, no_name}
use Rattle.two_d.specs.Reading.{Reading, the_or, refuse_at, ◌>>◌}
use Rattle.two_d.specs.Cells.{Grid, cell}
use Rattle.two_d.specs.Names.{IsName, IsNameByte}
use Rattle.two_d.specs.Figures as figures

-- `.` or `|`, of which a top border is made
abbrev pub IsTopByte : ℕ → Type 0
IsTopByte b = (b ≡ byte ".") ⊎ (b ≡ byte "|")

-- `:` or `-`, of which a left and a right border are made
abbrev pub IsSideByte : ℕ → Type 0
IsSideByte b = (b ≡ byte ":") ⊎ (b ≡ byte "-")

-- each cell of a row strictly between two columns has the property
abbrev pub InRow : (ℕ → Type 0) → Grid → ℕ → ℕ → ℕ → Type 0
InRow P grid row left right = (col : ℕ) → left < col → col < right → P (cell grid (at row col))

-- each cell of a column strictly between two rows has the property
abbrev pub InColumn : (ℕ → Type 0) → Grid → ℕ → ℕ → ℕ → Type 0
InColumn P grid col top bottom = (row : ℕ) → top < row → row < bottom → P (cell grid (at row col))

-- a `,` with `.` or `|` to its east and `:` or `-` to its south
pub record IsCorner (grid : Grid) (p : Place) : Type 0 where
  pub here : cell grid p ≡ byte ","
  pub east : IsTopByte (cell grid (at p.row (p.col + 1)))
  pub south : IsSideByte (cell grid (at (p.row + 1) p.col))

-- The frame with its top left corner at p. The top border ends with the next `,`, the left border
-- with the next `'`; the bottom border is made of dots.
pub record IsFrame (grid : Grid) (p : Place) (f : Rect) : Type 0 where
  pub corner : corner_of f ≡ p
  pub wide : f.left < f.right
  pub high : f.top < f.bottom
  pub top : InRow IsTopByte grid f.top f.left f.right
  pub top_right : cell grid (at f.top f.right) ≡ byte ","
  pub left : InColumn IsSideByte grid f.left f.top f.bottom
  pub bottom_left : cell grid (at f.bottom f.left) ≡ byte "'"
  pub bottom : InRow (λ b. b ≡ byte ".") grid f.bottom f.left f.right
  pub bottom_right : cell grid (at f.bottom f.right) ≡ byte "'"
  pub right : InColumn IsSideByte grid f.right f.top f.bottom

-- the inner columns of a rectangle in which a row has a byte, from the left
abbrev pub columns_with : Grid → ℕ → ℕ → Rect → List ℕ
columns_with grid row byte f = filter (λ col. cell grid (at row col) == byte) (inner_columns f)

-- the inner rows of a rectangle in which a column has a byte, from the top
abbrev pub rows_with : Grid → ℕ → ℕ → Rect → List ℕ
rows_with grid col byte f = filter (λ row. cell grid (at row col) == byte) (inner_rows f)

-- the columns of the `|` of the top border, from the left: the north entry, if there is one
abbrev pub north_entries : Grid → Rect → List ℕ
north_entries grid f = columns_with grid f.top (byte "|") f

-- the rows of the `-` of the left border, from the top: the west entry, if there is one
abbrev pub west_entries : Grid → Rect → List ℕ
west_entries grid f = rows_with grid f.left (byte "-") f

-- the rows of the `-` of the right border, from the top: the exits, in the order of their numbers
abbrev pub exits_of : Grid → Rect → List ℕ
exits_of grid f = rows_with grid f.right (byte "-") f

-- a frame as it is handed on: its borders, the column of its north entry, the row of its west
-- entry, and the rows of its exits
pub record FrameShape : Type 0 where
  pub borders : Rect
  pub north : Option ℕ
  pub west : Option ℕ
  pub exits : List ℕ

-- it is a frame, with all its entries and exits
pub record IsDrawn (grid : Grid) (s : FrameShape) : Type 0 where
  pub borders : IsFrame grid (corner_of s.borders) s.borders
  pub north : s.north ≡ slice_get (north_entries grid s.borders) 0
  pub west : s.west ≡ slice_get (west_entries grid s.borders) 0
  pub exits : s.exits ≡ exits_of grid s.borders

-- the second of a list
abbrev pub IsSecond : List ℕ → ℕ → Type 0
IsSecond ns n = slice_get ns 1 ≡ Some n

-- a second entry of a side is a fault, first of the top border, then of the left border
abbrev pub one_entry_a_side : Grid → Rect → Reading TextFault (Unit {0})
one_entry_a_side grid f = do
  refuse_at (λ col. two_entries (at f.top col)) (IsSecond (north_entries grid f))
  refuse_at (λ row. two_entries (at row f.left)) (IsSecond (west_entries grid f))

-- frames, as figures of a grid
abbrev pub frame_kind : Grid → figures.Kind
frame_kind grid = record {
  corner = IsCorner grid;
  figure = IsFrame grid;
  opens = open_frame;
  meets = frames_meet;
  further = one_entry_a_side grid;
}

-- the frames of a grid, in reading order, or the first of faults 4 to 6
abbrev pub frames_of : Grid → Reading TextFault (List Rect)
frames_of grid = figures.all_of (frame_kind grid)

-- the first cell of the first interior row
abbrev pub first_inner : Rect → Place
first_inner f = at (f.top + 1) (f.left + 1)

-- bytes stand in a row from a column on
abbrev pub IsWritten : Grid → ℕ → ℕ → List ℕ → Type 0
IsWritten grid row col bytes =
    (i : ℕ) → i < length bytes → cell grid (at row (col + i)) ≡ slice_index bytes i

-- the longest run of letters, digits and `_` from the first interior cell on, which is a name
pub record IsNameOf (grid : Grid) (f : Rect) (name : List ℕ) : Type 0 where
  pub valid : IsName name
  pub written : IsWritten grid (f.top + 1) (f.left + 1) name
  pub longest : IsNameByte (cell grid (at (f.top + 1) (f.left + 1 + length name))) → ⊥

-- the name of the module in a frame, or fault 7
abbrev pub name_of : Grid → Rect → Reading TextFault (List ℕ)
name_of grid f = the_or (no_name (first_inner f)) (IsNameOf grid f)
