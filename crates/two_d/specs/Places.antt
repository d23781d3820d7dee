-- Places of a grid, in reading order: by row, then by column, both from 1. Rectangles of places.
use Rattle.std.specs.Prelude.{◌≡◌, ℕ, ◌+◌, ◌-◌, ◌<◌, ◌≤◌, ◌⊎◌, List, AllPairs}
use Rattle.std.specs.List.{range_with_len}
use Rattle.umix_base.specs.declared.place.Place.{Place}

abbrev pub at : ℕ → ℕ → Place
at row col = record { row = row; col = col }

-- p stands before q in reading order
abbrev pub Before : Place → Place → Type 0
Before p q = (p.row < q.row) ⊎ ((p.row ≡ q.row) × (p.col < q.col))

-- each of the list stands before those that follow it
abbrev pub InReadingOrder : List Place → Type 0
InReadingOrder ps = AllPairs Before ps

-- p is the first place of its kind
pub record IsFirstPlace (P : Place → Type 0) (p : Place) : Type 0 where
  pub holds : P p
  pub none_before : (q : Place) → Before q p → P q → ⊥

-- p is the second place of its kind: the first that has another before it
abbrev pub IsSecondPlace : (Place → Type 0) → Place → Type 0
IsSecondPlace P = IsFirstPlace (λ p. P p × ((q : Place) × Before q p × P q))

-- i is the least number of its kind
pub record IsLeast (P : ℕ → Type 0) (i : ℕ) : Type 0 where
  pub holds : P i
  pub none_below : (j : ℕ) → j < i → P j → ⊥

-- a rectangle of cells, by the rows and the columns of its borders
pub record Rect : Type 0 where
  pub top : ℕ
  pub left : ℕ
  pub bottom : ℕ
  pub right : ℕ

-- its top left corner
abbrev pub corner_of : Rect → Place
corner_of f = at f.top f.left

-- p is a cell of the rectangle
pub record Covers (f : Rect) (p : Place) : Type 0 where
  pub from_top : f.top ≤ p.row
  pub to_bottom : p.row ≤ f.bottom
  pub from_left : f.left ≤ p.col
  pub to_right : p.col ≤ f.right

-- p is a cell strictly within the borders
pub record Within (f : Rect) (p : Place) : Type 0 where
  pub below_top : f.top < p.row
  pub above_bottom : p.row < f.bottom
  pub after_left : f.left < p.col
  pub before_right : p.col < f.right

-- p is a cell of a border
abbrev pub OnBorder : Rect → Place → Type 0
OnBorder f p = Covers f p × (Within f p → ⊥)

-- some cell is one of both
abbrev pub ShareACell : Rect → Rect → Type 0
ShareACell f g = (p : Place) × Covers f p × Covers g p

-- the rows strictly within the borders, from the top
abbrev pub inner_rows : Rect → List ℕ
inner_rows f = range_with_len (f.top + 1) (f.bottom - f.top - 1)

-- the columns strictly within the borders, from the left
abbrev pub inner_columns : Rect → List ℕ
inner_columns f = range_with_len (f.left + 1) (f.right - f.left - 1)
