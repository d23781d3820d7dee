-- The boxes of a frame and their command texts (docs/GRID.md, "Boxes").
use Rattle.std.specs.Prelude.{◌≡◌, ℕ, ◌+◌, ◌-◌, ◌/◌, ◌%◌, ◌<◌, List, map}
use Rattle.std.specs.List.{join_with_byte}
use Rattle.std.specs.Str.{byte}
use Rattle.umix_base.specs.declared.place.Place.{Place}
use Rattle.two_d.specs.Places.{at, Rect, Within, corner_of, inner_rows, inner_columns}
use Rattle.two_d.specs.Faults.{TextFault, open_box, boxes_meet}
use Rattle.two_d.specs.Reading.{Reading, give}
use Rattle.two_d.specs.Cells.{Grid, cell}
use Rattle.two_d.specs.Frames.{InRow, InColumn}
use Rattle.two_d.specs.Figures as figures

-- a `*` of the interior with `=` to its east and `!` to its south
pub record IsBoxCorner (grid : Grid) (f : Rect) (p : Place) : Type 0 where
  pub within : Within f p
  pub here : cell grid p ≡ byte "*"
  pub east : cell grid (at p.row (p.col + 1)) ≡ byte "="
  pub south : cell grid (at (p.row + 1) p.col) ≡ byte "!"

-- The box with its top left corner at p, all of it in the interior of the frame: four `*`, one or
-- more `=` along the top and as many along the bottom, one or more `!` down each side.
pub record IsBox (grid : Grid) (f : Rect) (p : Place) (b : Rect) : Type 0 where
  pub corner : corner_of b ≡ p
  pub within : Within f p × Within f (at b.bottom b.right)
  pub wide : b.left + 1 < b.right
  pub high : b.top + 1 < b.bottom
  pub top : InRow (λ c. c ≡ byte "=") grid b.top b.left b.right
  pub top_right : cell grid (at b.top b.right) ≡ byte "*"
  pub left : InColumn (λ c. c ≡ byte "!") grid b.left b.top b.bottom
  pub bottom_left : cell grid (at b.bottom b.left) ≡ byte "*"
  pub bottom : InRow (λ c. c ≡ byte "=") grid b.bottom b.left b.right
  pub bottom_right : cell grid (at b.bottom b.right) ≡ byte "*"
  pub right : InColumn (λ c. c ≡ byte "!") grid b.right b.top b.bottom

-- boxes, as figures of a frame's interior
abbrev pub box_kind : Grid → Rect → figures.Kind
box_kind grid f = record {
  corner = IsBoxCorner grid f;
  figure = IsBox grid f;
  opens = open_box;
  meets = boxes_meet;
  further = λ _. give tt;
}

-- the boxes of a frame, in reading order of their corners, or the first of faults 8 and 9
abbrev pub boxes_of : Grid → Rect → Reading TextFault (List Rect)
boxes_of grid f = figures.all_of (box_kind grid f)

-- the inner cells of a box in one row
abbrev pub row_text : Grid → Rect → ℕ → List ℕ
row_text grid b row = map (λ col. cell grid (at row col)) (inner_columns b)

-- the command text of a box: its inner rows, joined by one space
abbrev pub command_text : Grid → Rect → List ℕ
command_text grid b = join_with_byte (byte " ") (map (row_text grid b) (inner_rows b))

-- a box as it is handed on: its borders and its command text
pub record BoxShape : Type 0 where
  pub borders : Rect
  pub text : List ℕ

-- its text is the command text that stands in the grid
abbrev pub HasText : Grid → BoxShape → Type 0
HasText grid s = s.text ≡ command_text grid s.borders

-- the place of byte k of a box's command text: for the joining space and the end, on the right side
abbrev pub place_in : Rect → ℕ → Place
place_in b k = at (b.top + 1 + k / (b.right - b.left)) (b.left + 1 + k % (b.right - b.left))
