-- Places and rectangles are equal where their numbers are.
use Rattle.std.proofs.Common.{◌≡◌}
use Rattle.umix_base.specs.declared.place.Place.{Place}
use Rattle.two_d.specs.Places.{at, Rect}

pub equal_places : (p q : Place) → p.row ≡ q.row → p.col ≡ q.col → p ≡ q
equal_places p q row col = λ i. at (row i) (col i)

pub equal_rects : (f g : Rect) → f.top ≡ g.top → f.left ≡ g.left → f.bottom ≡ g.bottom → f.right ≡ g.right → f ≡ g
equal_rects f g top left bottom right =
    λ i. record { top = top i; left = left i; bottom = bottom i; right = right i }
