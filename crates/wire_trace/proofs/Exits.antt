-- The rows and the columns at which a border has a byte.
use Rattle.std.proofs.Common.{◌≡◌, ℕ, zero, suc, ◌+◌, ◌-◌, ◌<◌, ◌≤◌, ◌↔◌, List, [], ◌∷◌, Bool, true, false, cond, nat_eq, arith, ap, sym, subst, ◌∙◌}
use Rattle.std.specs.List.{filter, range_with_len, Contains, All}
use Rattle.std.specs.Str.{byte}
use Rattle.std.proofs.lemmas.Bool.{false≢true, eqb-true, eq-eqb}
use Rattle.std.proofs.lemmas.List.Elements.{All-contains, All-filter, filter_passes}
use Rattle.std.proofs.lemmas.List.FromFn.{get_or-range_with_len, length-range_with_len}
use Rattle.two_d.specs.Places.{at, Rect}
use Rattle.two_d.specs.Cells.{Grid, cell}
use Rattle.two_d.specs.Frames.{columns_with, rows_with}
use Rattle.two_d.specs.Ports.{Drawing, IsExit}
use Rattle.umix_base.specs.declared.place.Place.{Place}
use Rattle.wire_trace.specs.inner.Sheets.{IsExitCell}

kept : (b : Bool) (y : ℕ) (zs : List ℕ) (x : ℕ) → b ≡ true → y ≡ x → Contains (cond b (y ∷ zs) zs) x
kept true y zs x passes is = (0, omega arith, is)
kept false y zs x passes is = absurd (false≢true passes)

kept_more : (b : Bool) (y : ℕ) (zs : List ℕ) (x : ℕ) → Contains zs x → Contains (cond b (y ∷ zs) zs) x
kept_more true y zs x (k, lt, is) = (suc k, omega arith, is)
kept_more false y zs x c = c

pub filter_has : (p : ℕ → Bool) (xs : List ℕ) (x : ℕ) → Contains xs x → p x ≡ true → Contains (filter p xs) x
filter_has p [] x (k, lt, is) passes = absurd (omega arith)
filter_has p (y ∷ ys) x (zero, lt, is) passes = kept (p y) y (filter p ys) x (ap p is ∙ passes) is
filter_has p (y ∷ ys) x (suc k, lt, is) passes = kept_more (p y) y (filter p ys) x (filter_has p ys x (k, omega arith, is) passes)

range_bounds : (a n : ℕ) → All (λ x. (a ≤ x) × (x < a + n)) (range_with_len a n)
range_bounds a n i d lt = let long = length-range_with_len a n in let e = get_or-range_with_len a n i d (omega arith) in (omega arith, omega arith)

in_range : (a n x : ℕ) → a ≤ x → x < a + n → Contains (range_with_len a n) x
in_range a n x low high = (x - a, let long = length-range_with_len a n in omega arith, let e = get_or-range_with_len a n (x - a) x (omega arith) in omega arith)

-- a number of a range that passes a test
pub in_filter : (p : ℕ → Bool) (a n x : ℕ) → Contains (filter p (range_with_len a n)) x ↔ ((a ≤ x) × (x < a + n) × (p x ≡ true))
in_filter p a n x = (
  (λ c. let within = All-contains (λ y. (a ≤ y) × (y < a + n)) (filter p (range_with_len a n)) x (All-filter p (λ y. (a ≤ y) × (y < a + n)) (range_with_len a n) (range_bounds a n)) c in
      (within.0, within.1, All-contains (λ y. p y ≡ true) (filter p (range_with_len a n)) x (filter_passes p (range_with_len a n)) c)),
  (λ h. filter_has p (range_with_len a n) x (in_range a n x h.0 h.1) h.2),
)

pub in_rows : (grid : Grid) (col b : ℕ) (f : Rect) (row : ℕ) → Contains (rows_with grid col b f) row ↔ ((f.top < row) × (row < f.bottom) × (cell grid (at row col) ≡ b))
in_rows grid col b f row =
    let both = in_filter (λ (r : ℕ). nat_eq (cell grid (at r col)) b) (f.top + 1) (f.bottom - f.top - 1) row in (
      (λ c. let h = both.0 c in (omega (arith, h.0), omega (arith, h.0, h.1), eqb-true (cell grid (at row col)) b h.2)),
      (λ h. both.1 (omega (arith, h.0), omega (arith, h.0, h.1), eq-eqb (cell grid (at row col)) b h.2)),
    )

pub in_columns : (grid : Grid) (row b : ℕ) (f : Rect) (col : ℕ) → Contains (columns_with grid row b f) col ↔ ((f.left < col) × (col < f.right) × (cell grid (at row col) ≡ b))
in_columns grid row b f col =
    let both = in_filter (λ (c : ℕ). nat_eq (cell grid (at row c)) b) (f.left + 1) (f.right - f.left - 1) col in (
      (λ c. let h = both.0 c in (omega (arith, h.0), omega (arith, h.0, h.1), eqb-true (cell grid (at row col)) b h.2)),
      (λ h. both.1 (omega (arith, h.0), omega (arith, h.0, h.1), eq-eqb (cell grid (at row col)) b h.2)),
    )

pub exit_leaves : (m : Drawing) (p : Place) → IsExitCell m p → IsExit m p
exit_leaves m p leaves = (leaves.border, (in_rows m.grid m.frame.right (byte "-") m.frame p.row).1 (leaves.below, leaves.above, subst (λ (c : ℕ). cell m.grid (at p.row c) ≡ 45) leaves.border leaves.here))

pub leaves_exit : (m : Drawing) (p : Place) → IsExit m p → IsExitCell m p
leaves_exit m p exit = let h = (in_rows m.grid m.frame.right (byte "-") m.frame p.row).0 exit.1 in record {
  border = exit.0;
  below = h.0;
  above = h.1;
  here = subst (λ (c : ℕ). cell m.grid (at p.row c) ≡ 45) (sym exit.0) h.2;
}
