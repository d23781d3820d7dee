-- Whether a cell is a port can be told, and so whether a side has a second one.
use Rattle.std.specs.Prelude.{◌≡◌, ◌+◌, ℕ, zero, suc, List, [], ◌∷◌, slice_get, Some, Ok}
use Rattle.std.proofs.Common.{arith, refl, subst, inl, inr}
use Rattle.std.proofs.lemmas.Bool.{cases_eq}
use Rattle.umix_base.specs.declared.place.Place.{Place}
use Rattle.two_d.specs.Places.{Rect, IsSecondPlace}
use Rattle.two_d.specs.Faults.{two_ports}
use Rattle.two_d.specs.Reading.{RefusedAt}
use Rattle.two_d.specs.Cells.{cell}
use Rattle.two_d.specs.Frames.{north_entries, west_entries, exits_of}
use Rattle.two_d.specs.Ports.{Drawing, IsNorthEntry, IsWestEntry, IsExit, IsNameCell, Holds, IsAcross, IsAlong, IsNPort, IsWPort, IsSPort, IsEPort}
use Rattle.two_d.specs.Clean.{ports_at}
use Rattle.two_d.proofs.Decide.{Decided, decided_both, decided_three, decided_four, decided_either, decided_lt, decided_not}
use Rattle.two_d.proofs.FirstPlace.{second_place, no_second, first_one}
use Rattle.two_d.proofs.GoodTable.{none_at}
use Rattle.two_d.proofs.InOrder.{then_ok}
use Rattle.two_d.proofs.LiveCorners.{decided_within}
use Rattle.two_d.proofs.NumberLists.{decided_in}
use Rattle.two_d.proofs.OneReading.{HasOneAnswer, IsOne, then_one, refused_at_one}
use Rattle.two_d.proofs.SomeFigures.{decided_le}
use Rattle.two_d.proofs.SomeReading.{HasAnswer, Found, then_some, refused_at_some}

module _ (m : Drawing) where
  pub decided_north : (p : Place) → Decided (IsNorthEntry m p)
  decided_north p = decided_both (cases_eq p.row m.frame.top) (decided_in p.col (north_entries m.grid m.frame))

  pub decided_west : (p : Place) → Decided (IsWestEntry m p)
  decided_west p = decided_both (cases_eq p.col m.frame.left) (decided_in p.row (west_entries m.grid m.frame))

  pub decided_exit : (p : Place) → Decided (IsExit m p)
  decided_exit p = decided_both (cases_eq p.col m.frame.right) (decided_in p.row (exits_of m.grid m.frame))

  pub decided_name : (p : Place) → Decided (IsNameCell m p)
  decided_name p = decided_three (cases_eq p.row (m.frame.top + 1)) (decided_lt m.frame.left p.col) (decided_le p.col (m.frame.left + m.name_length))

  pub decided_holds : (b : ℕ) (p : Place) → Decided (Holds m b p)
  decided_holds b p = decided_both (decided_within m.frame p) (cases_eq (cell m.grid p) b)

  decided_across : (b : Rect) (p : Place) → Decided (IsAcross b p)
  decided_across b p = decided_both (decided_lt b.left p.col) (decided_lt p.col b.right)

  decided_along : (b : Rect) (p : Place) → Decided (IsAlong b p)
  decided_along b p = decided_both (decided_lt b.top p.row) (decided_lt p.row b.bottom)

  pub decided_n_port : (b : Rect) (p : Place) → Decided (IsNPort m b p)
  decided_n_port b p = decided_four (decided_holds 118 p) (cases_eq (p.row + 1) b.top) (decided_across b p) (decided_not (decided_name p))

  pub decided_w_port : (b : Rect) (p : Place) → Decided (IsWPort m b p)
  decided_w_port b p = decided_three (decided_holds 62 p) (cases_eq (p.col + 1) b.left) (decided_along b p)

  pub decided_s_port : (b : Rect) (p : Place) → Decided (IsSPort m b p)
  decided_s_port b p = decided_three (decided_holds 124 p) (cases_eq p.row (b.bottom + 1)) (decided_across b p)

  pub decided_e_port : (b : Rect) (p : Place) → Decided (IsEPort m b p)
  decided_e_port b p = decided_three (decided_either (decided_holds 45 p) (decided_exit p)) (cases_eq p.col (b.right + 1)) (decided_along b p)

  module _ (b : Rect) where
    second_n : Found (IsSecondPlace (IsNPort m b))
    second_n = second_place (IsNPort m b) (decided_n_port b) m.frame.bottom m.frame.right (λ p port. (port.0.0.above_bottom, port.0.0.before_right))

    second_w : Found (IsSecondPlace (IsWPort m b))
    second_w = second_place (IsWPort m b) (decided_w_port b) m.frame.bottom m.frame.right (λ p port. (port.0.0.above_bottom, port.0.0.before_right))

    second_e : Found (IsSecondPlace (IsEPort m b))
    second_e = second_place (IsEPort m b) (decided_e_port b) b.bottom (b.right + 2) (λ p port. (port.2.1, let e = port.1 in omega arith))

    second_s : Found (IsSecondPlace (IsSPort m b))
    second_s = second_place (IsSPort m b) (decided_s_port b) m.frame.bottom m.frame.right (λ p port. (port.0.0.above_bottom, port.0.0.before_right))

    -- a box whose ports were read has one N port and one W port at most
    pub n_port_one : ports_at m b (Ok tt) → IsOne (IsNPort m b)
    n_port_one read =
        let (u, first, more) = then_ok (RefusedAt two_ports (IsSecondPlace (IsNPort m b))) _ tt read in
        no_second (IsNPort m b) (decided_n_port b) m.frame.bottom m.frame.right (λ p port. (port.0.0.above_bottom, port.0.0.before_right)) (none_at two_ports (IsSecondPlace (IsNPort m b)) (Ok u) first refl)

    pub w_port_one : ports_at m b (Ok tt) → IsOne (IsWPort m b)
    w_port_one read =
        let (u, first, more) = then_ok (RefusedAt two_ports (IsSecondPlace (IsNPort m b))) _ tt read in
        let (v, second, rest) = then_ok (RefusedAt two_ports (IsSecondPlace (IsWPort m b))) _ tt more in
        no_second (IsWPort m b) (decided_w_port b) m.frame.bottom m.frame.right (λ p port. (port.0.0.above_bottom, port.0.0.before_right)) (none_at two_ports (IsSecondPlace (IsWPort m b)) (Ok v) second refl)

    -- the sides of a box are told in order
    pub some_ports : HasAnswer (ports_at m b)
    some_ports =
        then_some (RefusedAt two_ports (IsSecondPlace (IsNPort m b))) _ (refused_at_some two_ports (IsSecondPlace (IsNPort m b)) second_n)
        (λ _. then_some (RefusedAt two_ports (IsSecondPlace (IsWPort m b))) _ (refused_at_some two_ports (IsSecondPlace (IsWPort m b)) second_w)
        (λ _. then_some (RefusedAt two_ports (IsSecondPlace (IsEPort m b))) (λ _. RefusedAt two_ports (IsSecondPlace (IsSPort m b))) (refused_at_some two_ports (IsSecondPlace (IsEPort m b)) second_e)
        (λ _. refused_at_some two_ports (IsSecondPlace (IsSPort m b)) second_s)))

    pub one_of_ports : HasOneAnswer (ports_at m b)
    one_of_ports =
        then_one (RefusedAt two_ports (IsSecondPlace (IsNPort m b))) _ (refused_at_one two_ports (IsSecondPlace (IsNPort m b)) (first_one _))
        (λ _. then_one (RefusedAt two_ports (IsSecondPlace (IsWPort m b))) _ (refused_at_one two_ports (IsSecondPlace (IsWPort m b)) (first_one _))
        (λ _. then_one (RefusedAt two_ports (IsSecondPlace (IsEPort m b))) (λ _. RefusedAt two_ports (IsSecondPlace (IsSPort m b))) (refused_at_one two_ports (IsSecondPlace (IsEPort m b)) (first_one _))
        (λ _. refused_at_one two_ports (IsSecondPlace (IsSPort m b)) (first_one _))))

-- one of a list, with its number
pub decided_numbered : {A : Type 0} (Q : A → Type 0) → ((x : A) → Decided (Q x)) → (xs : List A) → Decided ((i : ℕ) × (x : A) × (slice_get xs i ≡ Some x) × Q x)
decided_numbered Q d [] = inr (λ (i, x, is, q). cc)
decided_numbered {A} Q d (y ∷ ys) = elim (d y) [
  | inl here ↦ inl (0, y, refl, here)
  | inr bare ↦ elim (decided_numbered Q d ys) [
    | inl (i, x, is, q) ↦ inl (suc i, x, is, q)
    | inr none ↦ inr (λ (i, x, is, q). by bare none i x is q)
  ]
]
  where
    by : (Q y → ⊥) → ((i : ℕ) × (x : A) × (slice_get ys i ≡ Some x) × Q x → ⊥) → (i : ℕ) (x : A) → slice_get (y ∷ ys) i ≡ Some x → Q x → ⊥
    by bare none zero x is q = bare (let e : x ≡ y = cc in subst Q e q)
    by bare none (suc i) x is q = none (i, x, is, q)
