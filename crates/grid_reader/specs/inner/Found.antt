-- What a search has found, and how its table of columns tells where the next figure may stand.
use Rattle.std.specs.Prelude.{◌≡◌, ℕ, ◌-◌, ◌<◌, ◌≤◌, ◌⊎◌, List, [], map, All, Contains, Ok, Option}
use Rattle.std.specs.Prelude.{Some, None, MatchOption, option_map, slice_index_or}
use Rattle.umix_base.specs.declared.place.Place.{Place}
use Rattle.two_d.specs.Places.{Rect, ShareACell, corner_of}
use Rattle.two_d.specs.Figures.{AreLiveAmong}
use Rattle.two_d.specs.Faults.{TextFault}
use Rattle.two_d.specs.Reading.{Reading, each_after}
use Rattle.grid_reader.specs.declared.found.Found.{Found}
use Rattle.grid_reader.specs.declared.rect.Rect as code
use Rattle.grid_reader.specs.inner.Rects.{rect_shown, plains}

-- the figures that were found
abbrev pub figures : Found → List Rect
figures found = plains found.figures.items

-- the figure is in each of these columns of a table
abbrev pub IsInside : ℕ → ℕ → code.Rect → List (Option code.Rect) → Type 0
IsInside from to f columns =
    (k : ℕ) → from ≤ k → k ≤ to → slice_index_or columns k None ≡ Some f

-- all other columns of two tables agree
abbrev pub AgreeOutside : ℕ → ℕ → List (Option code.Rect) → List (Option code.Rect) → Type 0
AgreeOutside from to old new =
    (k : ℕ) → (k < from) ⊎ (to < k) → slice_index_or new k None ≡ slice_index_or old k None

-- the figure that the table has for a column
abbrev pub lowest : Found → ℕ → Option Rect
lowest found col = option_map rect_shown (slice_index_or found.lowest.items (col - found.first) None)

-- the column is one of the rectangle's
abbrev pub Spans : Rect → ℕ → Type 0
Spans f col = (f.left ≤ col) × (col ≤ f.right)

-- in some column of f the table's figure reaches down to the top of f
abbrev pub HasLow : (ℕ → Option Rect) → Rect → Type 0
HasLow low f = (col : ℕ) × Spans f col × MatchOption (low col) ⊥ (λ g. f.top ≤ g.bottom)

-- from the first column on, f has become the table's figure in its columns and no other has changed
pub record Lays (first : ℕ) (old new : ℕ → Option Rect) (f : Rect) : Type 0 where
  pub inside : (col : ℕ) → first ≤ col → Spans f col → new col ≡ Some f
  pub outside : (col : ℕ) → first ≤ col → (Spans f col → ⊥) → new col ≡ old col

-- the same of the tables of what was found before and after
abbrev pub LaysIn : Found → Found → Rect → Type 0
LaysIn old new f = Lays old.first (lowest old) (lowest new) f

-- the table's figure for a column is the one that reaches lowest of those in the column
abbrev pub IsLowest : List Rect → ℕ → Option Rect → Type 0
IsLowest fs col low =
    MatchOption low ((f : Rect) → Contains fs f → Spans f col → ⊥)
    (λ g. Contains fs g × Spans g col
    × ((f : Rect) → Contains fs f → Spans f col → f.bottom ≤ g.bottom))

-- the figures fs are those of the live corners among the places that were passed
pub record IsScanned (Corner : Place → Type 0) (Figure : Place → Rect → Type 0)
    (read : List Rect → Place → Reading TextFault Rect) (Passed : Place → Type 0) (first : ℕ) (fs : List Rect)
    (low : ℕ → Option Rect) : Type 0 where
  pub live : AreLiveAmong Corner Figure Passed (map corner_of fs)
  pub shown : All (λ f. Figure (corner_of f) f) fs
  pub apart : (e f : Rect) → Contains fs e → Contains fs f → ShareACell e f → e ≡ f
  pub given : each_after read [] (map corner_of fs) (Ok fs)
  pub lowest : (col : ℕ) → first ≤ col → IsLowest fs col (low col)
