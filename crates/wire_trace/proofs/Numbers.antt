-- Numbers of cells: each is below their count, and no two cells have one.
use Rattle.std.proofs.Common.{◌≡◌, ℕ, ◌-◌, ◌*◌, ◌/◌, ◌%◌, ◌<◌, ◌⊎◌, ◌↔◌, inl, inr, List, length, get_or, Bool, true, false, IsTrue, arith, ap, sym, subst, ◌∙◌}
use Rattle.std.proofs.Math.ListN.{set}
use Rattle.std.proofs.lemmas.Bool.{cases_eq}
use Rattle.std.proofs.lemmas.List.{get_or-set_same, get_or-set_other}
use Rattle.std.proofs.lemmas.Nat.{mul-add-lt, div-mul-add, mod-mul-add}
use Rattle.std.proofs.Math.Nat.{mul_comm}
use Rattle.umix_base.specs.declared.place.Place.{Place}
use Rattle.wire_trace.specs.declared.area.Area.{Area}
use Rattle.wire_trace.specs.inner.Areas.{IsIn, cell_number}

pub number_below : (a : Area) (p : Place) → IsIn a p → cell_number a p < a.rows * a.columns
number_below a p within =
    let lt = mul-add-lt (p.row - a.top) a.columns (p.col - a.left) a.rows (omega (arith, within.from_top, within.to_bottom)) (omega (arith, within.from_left, within.to_right)) in
    omega (arith, mul_comm a.columns a.rows)

pub same_number : (a : Area) (p q : Place) → IsIn a p → IsIn a q → cell_number a p ≡ cell_number a q → p ≡ q
same_number a p q in_p in_q same =
    let cp : p.col - a.left < a.columns = omega (arith, in_p.from_left, in_p.to_right) in
    let cq : q.col - a.left < a.columns = omega (arith, in_q.from_left, in_q.to_right) in
    let r : p.row - a.top ≡ q.row - a.top = sym (div-mul-add (p.row - a.top) a.columns (p.col - a.left) cp) ∙ (ap (λ (n : ℕ). n / a.columns) same ∙ div-mul-add (q.row - a.top) a.columns (q.col - a.left) cq) in
    let c : p.col - a.left ≡ q.col - a.left = sym (mod-mul-add (p.row - a.top) a.columns (p.col - a.left) cp) ∙ (ap (λ (n : ℕ). n % a.columns) same ∙ mod-mul-add (q.row - a.top) a.columns (q.col - a.left) cq) in
    let row : p.row ≡ q.row = omega (arith, in_p.from_top, in_q.from_top) in
    let col : p.col ≡ q.col = omega (arith, in_p.from_left, in_q.from_left) in
    ap (λ (n : ℕ). record { row = n; col = p.col }) row ∙ ap (λ (n : ℕ). record { row = q.row; col = n }) col

-- a table in which the mark of one place was set
pub marked_after : (a : Area) (table : List Bool) (p q : Place) (n : ℕ) → n ≡ cell_number a p → length table ≡ a.rows * a.columns → IsIn a p → IsIn a q → IsTrue (get_or (set table n true) (cell_number a q) false) ↔ (IsTrue (get_or table (cell_number a q) false) ⊎ (q ≡ p))
marked_after a table p q n is long in_p in_q = elim (cases_eq (cell_number a q) n) [
  | inl same ↦ (
    (λ _. inr (same_number a q p in_q in_p (same ∙ is))),
    (λ _. subst (λ (k : ℕ). IsTrue (get_or (set table n true) k false)) (sym same) (get_or-set_same table n true false (let lt = number_below a p in_p in omega arith))),
  )
  | inr other ↦ (let e = get_or-set_other table n (cell_number a q) true false other in (
    (λ m. inl (sym e ∙ m)),
    (λ m. elim m [
      | inl old ↦ e ∙ old
      | inr same ↦ absurd (other (ap (λ (x : Place). cell_number a x) same ∙ sym is))
    ]),
  ))
]

-- a table in which the value of one place was set
pub value_after : {A : Type 0} (a : Area) (table : List A) (p q : Place) (n : ℕ) (x d : A) → n ≡ cell_number a p → length table ≡ a.rows * a.columns → IsIn a p → IsIn a q → ((q ≡ p → get_or (set table n x) (cell_number a q) d ≡ x) × ((q ≡ p → ⊥) → get_or (set table n x) (cell_number a q) d ≡ get_or table (cell_number a q) d))
value_after a table p q n x d is long in_p in_q = (
  (λ same. subst (λ (k : ℕ). get_or (set table n x) k d ≡ x) (is ∙ sym (ap (λ (y : Place). cell_number a y) same)) (get_or-set_same table n x d (let lt = number_below a p in_p in omega arith))),
  (λ other. get_or-set_other table n (cell_number a q) x d (λ same. other (same_number a q p in_q in_p (same ∙ is)))),
)
