-- Straight legs of a wire: their cells, and the lines on which they lie.
use Rattle.std.specs.Prelude.{◌≡◌, ◌+◌, ◌-◌, ◌≤◌, ℕ, zero, suc, [], ◌∷◌, ⊤}
use Rattle.std.proofs.Common.{arith, refl, sym, ap, subst, ◌∙◌}
use Rattle.umix_base.specs.declared.place.Place.{Place}
use Rattle.two_d.specs.Wires.{Direction, east, west, south, north, Axis, horizontal, vertical, axis_of, ahead, Position, next, Trace}
use Rattle.two_d.proofs.Equal.{equal_places}
use Rattle.grid_picture.specs.Courses.{along, Leg}

-- no more cells than there are in this direction
abbrev pub Fits : Direction → Place → ℕ → Type 0
Fits east p n = ⊤
Fits west p n = n ≤ p.col
Fits south p n = ⊤
Fits north p n = n ≤ p.row

-- the position on a leg, after so many cells
abbrev pub spot : Leg → ℕ → Position
spot l i = record { place = along l.to i l.from; to = l.to }

-- the positions on a leg after the first i, n of them
abbrev pub run : Leg → ℕ → ℕ → Trace
run l i zero = []
run l i (suc n) = spot l (i + 1) ∷ run l (i + 1) n

-- the row of a horizontal line, the column of a vertical one; and how far it reaches
abbrev pub across : Axis → Place → ℕ
across horizontal p = p.row
across vertical p = p.col

abbrev pub forth : Axis → Place → ℕ
forth horizontal p = p.col
forth vertical p = p.row

abbrev pub low : Direction → Place → ℕ → ℕ
low east p n = p.col
low west p n = p.col - n
low south p n = p.row
low north p n = p.row - n

abbrev pub high : Direction → Place → ℕ → ℕ
high east p n = p.col + n
high west p n = p.col
high south p n = p.row + n
high north p n = p.row

-- two legs on one line that share a cell, or have neighbouring cells
pub record Near (l k : Leg) : Type 0 where
  pub axis : axis_of l.to ≡ axis_of k.to
  pub line : across (axis_of l.to) l.from ≡ across (axis_of l.to) k.from
  pub from_low : low l.to l.from l.long ≤ high k.to k.from k.long + 1
  pub to_high : low k.to k.from k.long ≤ high l.to l.from l.long + 1

pub spot_first : (l : Leg) → spot l 0 ≡ (record { place = l.from; to = l.to })
spot_first l = ap (λ p. record { place = p; to = l.to }) (by l.to l.from)
  where
    by : (d : Direction) (p : Place) → along d 0 p ≡ p
    by east p = equal_places _ _ refl (omega arith)
    by west p = equal_places _ _ refl (omega arith)
    by south p = equal_places _ _ (omega arith) refl
    by north p = equal_places _ _ (omega arith) refl

pub spot_next : (l : Leg) (i : ℕ) → next (spot l i) l.to ≡ spot l (i + 1)
spot_next l i = ap (λ p. record { place = p; to = l.to }) (by l.to l.from)
  where
    by : (d : Direction) (p : Place) → ahead d (along d i p) ≡ along d (i + 1) p
    by east p = equal_places _ _ refl (omega arith)
    by west p = equal_places _ _ refl (omega arith)
    by south p = equal_places _ _ (omega arith) refl
    by north p = equal_places _ _ (omega arith) refl

-- a cell of a leg lies on its line
pub spot_lies : (l : Leg) (i : ℕ) → i ≤ l.long → Fits l.to l.from l.long
    → (across (axis_of l.to) (along l.to i l.from) ≡ across (axis_of l.to) l.from) × (low l.to l.from l.long ≤ forth (axis_of l.to) (along l.to i l.from)) × (forth (axis_of l.to) (along l.to i l.from) ≤ high l.to l.from l.long)
spot_lies l i le = by l.to l.from l.long le
  where
    by : (d : Direction) (p : Place) (n : ℕ) → i ≤ n → Fits d p n → (across (axis_of d) (along d i p) ≡ across (axis_of d) p) × (low d p n ≤ forth (axis_of d) (along d i p)) × (forth (axis_of d) (along d i p) ≤ high d p n)
    by east p n le fits = (refl, omega arith, omega arith)
    by west p n le fits = (refl, omega arith, omega arith)
    by south p n le fits = (refl, omega arith, omega arith)
    by north p n le fits = (refl, omega arith, omega arith)

-- cells of one leg are told apart by how far they are
pub spot_one : (l : Leg) (i j : ℕ) → i ≤ l.long → j ≤ l.long → Fits l.to l.from l.long → along l.to i l.from ≡ along l.to j l.from → i ≡ j
spot_one l i j le me = by l.to l.from l.long le me
  where
    by : (d : Direction) (p : Place) (n : ℕ) → i ≤ n → j ≤ n → Fits d p n → along d i p ≡ along d j p → i ≡ j
    by east p n le me fits e = let x = ap (λ (q : Place). q.col) e in omega arith
    by west p n le me fits e = let x = ap (λ (q : Place). q.col) e in omega arith
    by south p n le me fits e = let x = ap (λ (q : Place). q.row) e in omega arith
    by north p n le me fits e = let x = ap (λ (q : Place). q.row) e in omega arith

-- two legs on one axis with cells that are one, or neighbours on that axis, are near
pub near_at : (l k : Leg) (i j : ℕ) → i ≤ l.long → j ≤ k.long → Fits l.to l.from l.long → Fits k.to k.from k.long → axis_of l.to ≡ axis_of k.to
    → across (axis_of l.to) (along l.to i l.from) ≡ across (axis_of l.to) (along k.to j k.from)
    → forth (axis_of l.to) (along l.to i l.from) ≤ forth (axis_of l.to) (along k.to j k.from) + 1
    → forth (axis_of l.to) (along k.to j k.from) ≤ forth (axis_of l.to) (along l.to i l.from) + 1 → Near l k
near_at l k i j le me fits fit axes line before after =
    let one = spot_lies l i le fits in
    let two = spot_lies k j me fit in
    let other = subst (λ a. (across a (along k.to j k.from) ≡ across a k.from) × (low k.to k.from k.long ≤ forth a (along k.to j k.from)) × (forth a (along k.to j k.from) ≤ high k.to k.from k.long)) (sym axes) two in
    let e = one.0 in let a = one.1 in let b = one.2 in let f = other.0 in let c = other.1 in let d = other.2 in
    record { axis = axes; line = sym e ∙ (line ∙ f); from_low = omega arith; to_high = omega arith }

-- two legs with one cell, on one axis
pub near_one : (l k : Leg) (i j : ℕ) → i ≤ l.long → j ≤ k.long → Fits l.to l.from l.long → Fits k.to k.from k.long → axis_of l.to ≡ axis_of k.to → along l.to i l.from ≡ along k.to j k.from → Near l k
near_one l k i j le me fits fit axes e =
    let same = ap (forth (axis_of l.to)) e in
    near_at l k i j le me fits fit axes (ap (across (axis_of l.to)) e) (omega arith) (omega arith)
