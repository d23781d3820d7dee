-- The rectangles of the code as those of the definitions.
use Rattle.std.specs.Prelude.{List, map, Option, MatchOption, Vec}
use Rattle.std.specs.Global.{Global}
use Rattle.two_d.specs.Places as places
use Rattle.grid_reader.specs.declared.rect.Rect.{Rect}

-- a rectangle of the code, as one of the definitions
abbrev pub rect_shown : Rect → places.Rect
rect_shown r = record { top = r.top; left = r.left; bottom = r.bottom; right = r.right }

-- each of a list
abbrev pub plains : List Rect → List places.Rect
plains rs = map rect_shown rs

-- the rectangles of a vector
abbrev pub rects_in : Vec Rect Global → List places.Rect
rects_in rs = plains rs.items

-- the one rectangle that has the property was found, or there is none
abbrev pub Finds : (places.Rect → Type 0) → Option Rect → Type 0
Finds P found = MatchOption found ((f : places.Rect) → P f → ⊥) (λ f. P (rect_shown f))
