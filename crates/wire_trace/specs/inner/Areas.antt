-- The cells of a frame by their numbers, and the tables over them.
use Rattle.std.specs.Prelude.{◌≡◌, ℕ, ◌+◌, ◌-◌, ◌*◌, ◌<◌, ◌≤◌, ◌⊎◌, ◌↔◌, Bool, true, false, [], ◌∷◌}
use Rattle.std.specs.Prelude.{IsTrue, List, length, slice_index_or, slice_get, Option, Some, None}
use Rattle.umix_base.specs.declared.place.Place.{Place}
use Rattle.two_d.specs.Places.{at, Rect, Covers, corner_of}
use Rattle.wire_trace.specs.declared.area.Area.{Area}
use Rattle.wire_trace.specs.declared.marks.Marks.{Marks}
use Rattle.wire_trace.specs.declared.owners.Owners.{Owners}
use Rattle.wire_trace.specs.declared.position.Axis.{Axis}
use Rattle.wire_trace.specs.declared.position.Axis.TheVariants.{Horizontal, Vertical}

-- the cells can be numbered
pub record IsSmallArea (a : Area) : Type 0 where
  pub few : a.top + a.rows ≤ 262146
  pub narrow : a.left + a.columns ≤ 4097

-- the cells of a rectangle with its borders
pub record IsAreaOf (f : Rect) (a : Area) : Type 0 where
  pub top : a.top ≡ f.top
  pub left : a.left ≡ f.left
  pub rows : f.bottom + 1 ≡ f.top + a.rows
  pub columns : f.right + 1 ≡ f.left + a.columns

-- a place is one of the area's
pub record IsIn (a : Area) (p : Place) : Type 0 where
  pub from_top : a.top ≤ p.row
  pub to_bottom : p.row < a.top + a.rows
  pub from_left : a.left ≤ p.col
  pub to_right : p.col < a.left + a.columns

-- the number of a place
abbrev pub cell_number : Area → Place → ℕ
cell_number a p = (p.row - a.top) * a.columns + (p.col - a.left)

-- the mark of an axis, one for each cell
abbrev pub marks_of : Marks → Axis → List Bool
marks_of marks Horizontal = marks.horizontal.items
marks_of marks Vertical = marks.vertical.items

-- a cell is occupied on an axis
abbrev pub IsMarked : Marks → Place → Axis → Type 0
IsMarked marks p axis = IsTrue (slice_index_or (marks_of marks axis) (cell_number marks.area p) false)

-- there is a mark of each axis for each cell
pub record AreMarks (a : Area) (marks : Marks) : Type 0 where
  pub area : marks.area ≡ a
  pub small : IsSmallArea a
  pub horizontal : length marks.horizontal.items ≡ a.rows * a.columns
  pub vertical : length marks.vertical.items ≡ a.rows * a.columns

-- how many of a list are false
abbrev pub falses : List Bool → ℕ
falses [] = 0
falses (true ∷ bs) = falses bs
falses (false ∷ bs) = falses bs + 1

-- how many cells aren't occupied on an axis, for both axes
abbrev pub unmarked : Marks → ℕ
unmarked marks = falses marks.horizontal.items + falses marks.vertical.items

-- a cell has become occupied on an axis, and nothing else has changed
abbrev pub Occupies : Area → Marks → Marks → Place → Axis → Type 0
Occupies a old new p axis =
    (q : Place) (other : Axis) → IsIn a q → IsMarked new q other ↔ (IsMarked old q other ⊎ ((q ≡ p) × (other ≡ axis)))

-- the box that a table has for a cell
abbrev pub owner_of : Owners → Place → Option ℕ
owner_of owners p = slice_index_or owners.numbers.items (cell_number owners.area p) None

-- there is an entry for each cell
pub record AreNumbers (a : Area) (owners : Owners) : Type 0 where
  pub area : owners.area ≡ a
  pub small : IsSmallArea a
  pub long : length owners.numbers.items ≡ a.rows * a.columns

-- a rectangle lies in the area
pub record LiesIn (a : Area) (b : Rect) : Type 0 where
  pub corner : IsIn a (corner_of b)
  pub end : IsIn a (at b.bottom b.right)

-- all boxes do
abbrev pub LieIn : Area → List Rect → Type 0
LieIn a boxes = (i : ℕ) (b : Rect) → slice_get boxes i ≡ Some b → LiesIn a b

-- some places have got a box, and nothing else has changed
pub record Gets (a : Area) (old new : Owners) (number : ℕ) (Which : Place → Type 0) : Type 0 where
  pub inside : (q : Place) → IsIn a q → Which q → owner_of new q ≡ Some number
  pub outside : (q : Place) → IsIn a q → (Which q → ⊥) → owner_of new q ≡ owner_of old q

-- each cell has the box that covers it, of the first n
pub record AreOwners (boxes : List Rect) (n : ℕ) (owners : Owners) : Type 0 where
  pub some : (p : Place) (i : ℕ) → IsIn owners.area p → owner_of owners p ≡ Some i → (b : Rect) ×
      (i < n) × (slice_get boxes i ≡ Some b) × Covers b p
  pub none : (p : Place) (i : ℕ) (b : Rect) → IsIn owners.area p → owner_of owners p ≡ None →
      i < n → slice_get boxes i ≡ Some b → Covers b p → ⊥
