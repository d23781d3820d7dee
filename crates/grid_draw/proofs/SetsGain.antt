-- Sets of cells that gain cells.
use Rattle.std.proofs.Common.{◌≡◌, ℕ, ◌+◌, ◌*◌, ◌/◌, ◌%◌, ◌<◌, ◌≤◌, Bool, true, false, List, length, get_or, arith, ap, sym, ◌∙◌, inl, inr}
use Rattle.std.specs.Prelude.{◌&&◌, ◌||◌, ◌==◌, nat_lt, nat_le}
use Rattle.std.proofs.Math.ListN.{set}
use Rattle.std.proofs.Math.Nat.{mul_comm}
use Rattle.std.proofs.lemmas.Bool.{cases_Bool, cases_lt, and_left, lt-leb, lt-ltb, le-ltb, and_parts, both_ways, eqb-true, eq-eqb, and_from, or_right}
use Rattle.std.proofs.lemmas.Bool.Decides.{nat_tests}
use Rattle.std.proofs.lemmas.List.{get_or-set_same, get_or-set_other}
use Rattle.std.proofs.lemmas.Nat.{mul-add-lt, div-mul-add, mod-mul-add}
use Rattle.grid_draw.specs.declared.cells.CellSet.{CellSet}
use Rattle.grid_draw.specs.inner.Sets.{has, IsSized, Gains}

pub or_false : (x : Bool) → (x || false) ≡ x
or_false true = grind arith
or_false false = grind arith

pub or_or : (x y z : Bool) → ((x || y) || z) ≡ (x || (y || z))
or_or true y z = grind arith
or_or false y z = grind arith

-- a list of marks, row by row, in which one cell was marked
pub cell_marked : (xs : List Bool) (rows n row col r c : ℕ) → length xs ≡ rows * n → row < rows → col < n → c < n
    → get_or (set xs (row * n + col) true) (r * n + c) false ≡ (get_or xs (r * n + c) false || ((r == row) && (c == col)))
cell_marked xs rows n row col r c long in_row in_col in_c = elim (cases_Bool ((r == row) && (c == col))) [
  | inl is_it ↦ (
      let (e, f) = and_parts (r == row) (c == col) is_it in
      let same_row : r ≡ row = eqb-true r row e in
      let same_col : c ≡ col = eqb-true c col f in
      let here : r * n + c ≡ row * n + col = ap (λ (k : ℕ). k * n + c) same_row ∙ ap (λ (k : ℕ). row * n + k) same_col in
      let below = mul-add-lt row n col rows in_row in_col in
      let lt : row * n + col < length xs = omega (arith, below, mul_comm n rows) in
      ap (λ (k : ℕ). get_or (set xs (row * n + col) true) k false) here ∙ (get_or-set_same xs (row * n + col) true false lt ∙ sym (or_right (get_or xs (r * n + c) false) ((r == row) && (c == col)) is_it))
      )
  | inr isnt ↦ (
      let other : r * n + c ≡ row * n + col → ⊥ = λ same. both_ways ((r == row) && (c == col)) isnt (and_from (r == row) (c == col)
      (eq-eqb r row (sym (div-mul-add r n c in_c) ∙ (ap (λ (k : ℕ). k / n) same ∙ div-mul-add row n col in_col)))
      (eq-eqb c col (sym (mod-mul-add r n c in_c) ∙ (ap (λ (k : ℕ). k % n) same ∙ mod-mul-add row n col in_col)))) in
      get_or-set_other xs (row * n + col) (r * n + c) true false other ∙ sym (ap (λ (b : Bool). get_or xs (r * n + c) false || b) isnt ∙ or_false (get_or xs (r * n + c) false))
      )
]

pub gains_then : (first second third : CellSet) (p q s : ℕ → ℕ → Bool) → Gains first second p → Gains second third q
    → ((r c : ℕ) → r < first.rows → c < first.columns → (p r c || q r c) ≡ s r c) → Gains first third s
gains_then first second third p q s one two is = record {
  sized = record {
    high = two.sized.high ∙ one.sized.high;
    wide = two.sized.wide ∙ one.sized.wide;
    whole = two.sized.whole ∙ (ap (λ (n : ℕ). n * second.columns) one.sized.high ∙ ap (λ (n : ℕ). first.rows * n) one.sized.wide);
  };
  has_both = λ r c in_r in_c.
      two.has_both r c (omega (arith, one.sized.high)) (omega (arith, one.sized.wide))
      ∙ (ap (λ (b : Bool). b || q r c) (one.has_both r c in_r in_c) ∙ (or_or (has first r c) (p r c) (q r c) ∙ ap (λ (b : Bool). has first r c || b) (is r c in_r in_c)));
}

pub gains_none : (set : CellSet) (p : ℕ → ℕ → Bool) → IsSized set.rows set.columns set → ((r c : ℕ) → p r c ≡ false) → Gains set set p
gains_none set p sized none = record {
  sized = sized;
  has_both = λ r c in_r in_c. sym (ap (λ (b : Bool). has set r c || b) (none r c) ∙ or_false (has set r c));
}

pub gains_as : (old new : CellSet) (p s : ℕ → ℕ → Bool) → Gains old new p → ((r c : ℕ) → r < old.rows → c < old.columns → p r c ≡ s r c) → Gains old new s
gains_as old new p s gains is = record {
  sized = gains.sized;
  has_both = λ r c in_r in_c. gains.has_both r c in_r in_c ∙ ap (λ (b : Bool). has old r c || b) (is r c in_r in_c);
}

pub none_yet : (a : Bool) (left c : ℕ) → (a && (nat_le left c && nat_lt c left)) ≡ false
none_yet true left c = grind (arith, nat_tests)
none_yet false left c = grind (arith, nat_tests)

pub one_more : (a : Bool) (left col c : ℕ) → left ≤ col → ((a && (nat_le left c && nat_lt c col)) || (a && (c == col))) ≡ (a && (nat_le left c && nat_lt c (col + 1)))
one_more true left col c le = grind (arith, nat_tests)
one_more false left col c le = grind (arith, nat_tests)

same_column : (left right col c : ℕ) → (left ≤ c → c < col → c < right) → (left ≤ c → c < right → c < col) → (nat_le left c && nat_lt c col) ≡ (nat_le left c && nat_lt c right)
same_column left right col c one two = elim (cases_lt c left) [
  | inl out ↦ and_left (nat_le left c) (nat_lt c col) (lt-leb left c out) ∙ sym (and_left (nat_le left c) (nat_lt c right) (lt-leb left c out))
  | inr within ↦ ap (λ (x : Bool). nat_le left c && x) (elim (cases_lt c col) [
    | inl lower ↦ lt-ltb c col lower ∙ sym (lt-ltb c right (one within lower))
    | inr past ↦ le-ltb c col past ∙ sym (le-ltb c right (elim (cases_lt c right) [ inl less ↦ absurd (let lt = two within less in omega arith) | inr le ↦ le ]))
  ])
]

pub all_there : (a : Bool) (left right col c : ℕ) → (left ≤ c → c < col → c < right) → (left ≤ c → c < right → c < col) → (a && (nat_le left c && nat_lt c col)) ≡ (a && (nat_le left c && nat_lt c right))
all_there true left right col c one two = same_column left right col c one two
all_there false left right col c one two = grind (arith, nat_tests)

pub no_row_yet : (a : Bool) (top r : ℕ) → ((nat_le top r && nat_lt r top) && a) ≡ false
no_row_yet true top r = grind (arith, nat_tests)
no_row_yet false top r = grind (arith, nat_tests)

pub one_row_more : (a : Bool) (top row r : ℕ) → top ≤ row → (((nat_le top r && nat_lt r row) && a) || ((r == row) && a)) ≡ ((nat_le top r && nat_lt r (row + 1)) && a)
one_row_more true top row r le = grind (arith, nat_tests)
one_row_more false top row r le = grind (arith, nat_tests)

pub all_rows_there : (a : Bool) (top bottom row r : ℕ) → (top ≤ r → r < row → r < bottom) → (top ≤ r → r < bottom → r < row) → ((nat_le top r && nat_lt r row) && a) ≡ ((nat_le top r && nat_lt r bottom) && a)
all_rows_there a top bottom row r one two = ap (λ (x : Bool). x && a) (same_column top bottom row r one two)
