-- The ports of a side are looked for cell by cell.
use Rattle.std.proofs.Common.{◌≡◌, ℕ, ◌+◌, ◌-◌, ◌<◌, ◌≤◌, inl, inr, Err, Ok, arith, refl, sym, subst}
use Rattle.umix_base.specs.declared.place.Place.{Place}
use Rattle.two_d.specs.Places.{at, Rect, Before, IsSecondPlace}
use Rattle.two_d.specs.Ports.{Drawing, IsNPort, IsWPort, IsSPort, IsEPort}
use Rattle.two_d.specs.Faults.{two_ports}
use Rattle.two_d.specs.Reading.{goes_on, stops, refused_at, none}
use Rattle.two_d.specs.Clean.{ports_at}
use Rattle.wire_trace.specs.declared.sides.Side.{Side}
use Rattle.wire_trace.specs.declared.sides.Side.TheVariants.{North, West, East, South}
use Rattle.wire_trace.specs.inner.Sides.{IsPort, span, side_cell}
use Rattle.wire_trace.proofs.Laying.{same_place}

on_side : (m : Drawing) (b : Rect) (side : Side) (p : Place) → IsPort m b side p → (k : ℕ) × (0 < k) × (k < span b side) × (p ≡ side_cell b side k)
on_side m b North p port = (p.col - b.left, omega (arith, port.2.0), omega (arith, port.2.0, port.2.1), same_place p (at (b.top - 1) (b.left + (p.col - b.left))) (omega (arith, port.1)) (omega (arith, port.2.0)))
on_side m b West p port = (p.row - b.top, omega (arith, port.2.0), omega (arith, port.2.0, port.2.1), same_place p (at (b.top + (p.row - b.top)) (b.left - 1)) (omega (arith, port.2.0)) (omega (arith, port.1)))
on_side m b East p port = (p.row - b.top, omega (arith, port.2.0), omega (arith, port.2.0, port.2.1), same_place p (at (b.top + (p.row - b.top)) (b.right + 1)) (omega (arith, port.2.0)) (omega (arith, port.1)))
on_side m b South p port = (p.col - b.left, omega (arith, port.2.0), omega (arith, port.2.0, port.2.1), same_place p (at (b.bottom + 1) (b.left + (p.col - b.left))) (omega (arith, port.1)) (omega (arith, port.2.0)))

before_after : (b : Rect) (side : Side) (j k : ℕ) → j < k → Before (side_cell b side j) (side_cell b side k)
before_after b North j k less = inr (refl, omega arith)
before_after b West j k less = inl (omega arith)
before_after b East j k less = inl (omega arith)
before_after b South j k less = inr (refl, omega arith)

less_before : (b : Rect) (side : Side) (j k : ℕ) → Before (side_cell b side j) (side_cell b side k) → j < k
less_before b North j k (inl above) = omega arith
less_before b North j k (inr left) = omega (arith, left.1)
less_before b West j k (inl above) = omega arith
less_before b West j k (inr left) = omega (arith, left.1)
less_before b East j k (inl above) = omega arith
less_before b East j k (inr left) = omega (arith, left.1)
less_before b South j k (inl above) = omega arith
less_before b South j k (inr left) = omega (arith, left.1)

-- no two of the first n cells are ports
abbrev pub OneBelow : Drawing → Rect → Side → ℕ → Type 0
OneBelow m b side n = (j k : ℕ) → 0 < j → j < k → k < n → IsPort m b side (side_cell b side j) → IsPort m b side (side_cell b side k) → ⊥

pub second_is : (m : Drawing) (b : Rect) (side : Side) (n k : ℕ) (p : Place) → p ≡ side_cell b side n → OneBelow m b side n → k < n → IsPort m b side (side_cell b side k) → IsPort m b side p → IsSecondPlace (IsPort m b side) p
second_is m b side n k p is only less first here = record {
  holds = (here, (side_cell b side k, subst (Before (side_cell b side k)) (sym is) (before_after b side k n less), first));
  none_before = λ q before both.
      let (j, pos_j, in_j, is_j) = on_side m b side q both.0 in
      let (i, pos_i, in_i, is_i) = on_side m b side both.1.0 both.1.2 in
      let low : Before (side_cell b side j) (side_cell b side n) = subst (λ x. Before x (side_cell b side n)) is_j (subst (Before q) is before) in
      let lower : Before (side_cell b side i) (side_cell b side j) = subst (λ x. Before x (side_cell b side j)) is_i (subst (Before both.1.0) is_j both.1.1) in
      only i j pos_i (less_before b side i j lower) (less_before b side j n low) (subst (IsPort m b side) is_i both.1.2) (subst (IsPort m b side) is_j both.0);
}

pub no_second : (m : Drawing) (b : Rect) (side : Side) (n : ℕ) → span b side ≤ n → OneBelow m b side n → (p : Place) → IsSecondPlace (IsPort m b side) p → ⊥
no_second m b side n all only p second =
    let (j, pos_j, in_j, is_j) = on_side m b side p second.holds.0 in
    let (i, pos_i, in_i, is_i) = on_side m b side second.holds.1.0 second.holds.1.2 in
    let lower : Before (side_cell b side i) (side_cell b side j) = subst (λ x. Before x (side_cell b side j)) is_i (subst (Before second.holds.1.0) is_j second.holds.1.1) in
    only i j pos_i (less_before b side i j lower) (omega arith) (subst (IsPort m b side) is_i second.holds.1.2) (subst (IsPort m b side) is_j second.holds.0)

abbrev None : (Place → Type 0) → Type 0
None P = (p : Place) → IsSecondPlace P p → ⊥

pub at_north : (m : Drawing) (b : Rect) (p : Place) → IsSecondPlace (IsNPort m b) p → ports_at m b (Err (two_ports p))
at_north m b p second = stops (two_ports p) (refused_at p second)

pub at_west : (m : Drawing) (b : Rect) (p : Place) → None (IsNPort m b) → IsSecondPlace (IsWPort m b) p → ports_at m b (Err (two_ports p))
at_west m b p n second = goes_on tt (none n) (stops (two_ports p) (refused_at p second))

pub at_east : (m : Drawing) (b : Rect) (p : Place) → None (IsNPort m b) → None (IsWPort m b) → IsSecondPlace (IsEPort m b) p → ports_at m b (Err (two_ports p))
at_east m b p n w second = goes_on tt (none n) (goes_on tt (none w) (stops (two_ports p) (refused_at p second)))

pub at_south : (m : Drawing) (b : Rect) (p : Place) → None (IsNPort m b) → None (IsWPort m b) → None (IsEPort m b) → IsSecondPlace (IsSPort m b) p → ports_at m b (Err (two_ports p))
at_south m b p n w e second = goes_on tt (none n) (goes_on tt (none w) (goes_on tt (none e) (refused_at p second)))

pub at_none : (m : Drawing) (b : Rect) → None (IsNPort m b) → None (IsWPort m b) → None (IsEPort m b) → None (IsSPort m b) → ports_at m b (Ok tt)
at_none m b n w e s = goes_on tt (none n) (goes_on tt (none w) (goes_on tt (none e) (none s)))
