-- The bytes of a module's drawing, by regions.
use Rattle.std.specs.Prelude.{◌≡◌, ◌≢◌, ◌+◌, ◌-◌, ◌*◌, ◌/◌, ◌%◌, ◌<◌, ◌≤◌, ◌==◌, ◌&&◌, ◌||◌, ◌⊎◌, ℕ}
use Rattle.std.specs.Prelude.{zero, suc, Bool, true, false, if◌then◌else◌, nat_le, nat_lt, List, []}
use Rattle.std.specs.Prelude.{◌∷◌, length, slice_get, slice_index, Option, Some, None, is_some}
use Rattle.std.proofs.Common.{arith, refl, ap, inl, inr, ◌∙◌}
use Rattle.std.proofs.lemmas.Bool.{ne_eqb, lt-ltb, lt-leb}
use Rattle.std.proofs.lemmas.Option.{same_Some, slice_get_within}
use Rattle.two_d.specs.Places.{at}
use Rattle.two_d.specs.Programs.{BoxForm, ModuleForm}
use Rattle.grid_picture.specs.Courses.{wire_byte}
use Rattle.grid_draw.specs.Layout.{width, reach_over, reach, columns, rows, box_row, courses}
use Rattle.grid_draw.specs.Layout.{inner_byte, box_byte, byte_at}

-- no test of four is true
past_four : (a b c d : Bool) (w x y z v : ℕ) → a ≡ false → b ≡ false → c ≡ false → d ≡ false
    → (if a then w else (if b then x else (if c then y else (if d then z else v)))) ≡ v
past_four false false false false w x y z v e f g h = refl
past_four true b c d w x y z v e f g h = absurd (cc)
past_four false true c d w x y z v e f g h = absurd (cc)
past_four false false true d w x y z v e f g h = absurd (cc)
past_four false false false true w x y z v e f g h = absurd (cc)

-- not all three are true where one of the first two isn't
not_all : (a b c : Bool) → (a ≡ false) ⊎ (b ≡ false) → (a && b && c) ≡ false
not_all false b c e = refl
not_all true false c e = refl
not_all true true c (inl e) = absurd (cc)
not_all true true c (inr e) = absurd (cc)

-- not both are true where the second isn't
not_both : (a b : Bool) → b ≡ false → (a && b) ≡ false
not_both false b e = refl
not_both true b e = e

-- one is true where the second is
one_true : (a b : Bool) → b ≡ true → (a || b) ≡ true
one_true true b e = refl
one_true false b e = e

-- the third of tests is the first that is true
past_two : (a b c : Bool) (u v w z : ℕ) → a ≡ false → b ≡ false → c ≡ true
    → (if a then u else (if b then v else (if c then w else z))) ≡ w
past_two false false true u v w z e f g = refl
past_two false false false u v w z e f g = absurd (cc)
past_two true b c u v w z e f g = absurd (cc)
past_two false true c u v w z e f g = absurd (cc)

-- to the right of a box
pub box_right : (one : BoxForm) (q c other : ℕ) → 5 + width one < c → box_byte one q c other ≡ other
box_right one q c other lt =
    past_two ((q == 2) && (c == 5) && is_some one.n) ((q == 4) && (c == 3) && is_some one.w)
    (nat_lt c 4 || nat_lt (5 + width one) c) _ _ other _
    (not_all (q == 2) (c == 5) (is_some one.n) (inr (ne_eqb c 5 (λ e. omega arith))))
    (not_all (q == 4) (c == 3) (is_some one.w) (inr (ne_eqb c 3 (λ e. omega arith))))
    (one_true (nat_lt c 4) (nat_lt (5 + width one) c) (lt-ltb (5 + width one) c lt))

-- to the left of a box, but for its W port
pub box_left : (one : BoxForm) (q c other : ℕ) → c < 4 → (q ≢ 4) ⊎ (c ≢ 3)
    → box_byte one q c other ≡ other
box_left one q c other lt no_port =
    past_two ((q == 2) && (c == 5) && is_some one.n) ((q == 4) && (c == 3) && is_some one.w)
    (nat_lt c 4 || nat_lt (5 + width one) c) _ _ other _
    (not_all (q == 2) (c == 5) (is_some one.n) (inr (ne_eqb c 5 (λ e. omega arith)))) (port no_port)
    (ap (λ b. b || nat_lt (5 + width one) c) (lt-ltb c 4 lt))
  where
    port : (q ≢ 4) ⊎ (c ≢ 3) → ((q == 4) && (c == 3) && is_some one.w) ≡ false
    port (inl e) = not_all (q == 4) (c == 3) (is_some one.w) (inl (ne_eqb q 4 e))
    port (inr e) = not_all (q == 4) (c == 3) (is_some one.w) (inr (ne_eqb c 3 e))

-- the layout reaches to the right side of each box
pub box_reaches : (n b : ℕ) (boxes : List BoxForm) (one : BoxForm) → slice_get boxes b ≡ Some one
    → 5 + width one ≤ reach_over n boxes
box_reaches n b [] one is = absurd (cc)
box_reaches n zero (row ∷ boxes) one is = let same = ap width (same_Some row one is) in omega arith
box_reaches n (suc b) (row ∷ boxes) one is = let rest = box_reaches n b boxes one is in omega arith

-- it reaches to the end of the name
pub name_reaches : (n : ℕ) (boxes : List BoxForm) → n ≤ reach_over n boxes
name_reaches n [] = omega arith
name_reaches n (row ∷ boxes) = let rest = name_reaches n boxes in omega arith

-- not both are true where the first isn't
pub first_not : (a b : Bool) → a ≡ false → (a && b) ≡ false
first_not true b e = absurd (cc)
first_not false b e = refl

-- neither is true
neither : (a b : Bool) → a ≡ false → b ≡ false → (a || b) ≡ false
neither true b e f = absurd (cc)
neither false b e f = f

-- no test is true but perhaps the third, which picks the same
past_all : (a b c d e : Bool) (u v w x z : ℕ) → a ≡ false → b ≡ false → d ≡ false → e ≡ false
    → (if a then u else (if b then v else (if c then z
    else (if d then w else (if e then x else z))))) ≡ z
past_all true b c d e u v w x z f g h i = absurd (cc)
past_all false true c d e u v w x z f g h i = absurd (cc)
past_all false false true d e u v w x z f g h i = refl
past_all false false false true e u v w x z f g h i = absurd (cc)
past_all false false false false true u v w x z f g h i = absurd (cc)
past_all false false false false false u v w x z f g h i = refl

-- in a row that is neither of the box nor right above it
pub box_gap : (one : BoxForm) (q c other : ℕ) → q ≢ 2 → q ≢ 3 → q ≢ 4 → q ≢ 5
    → box_byte one q c other ≡ other
box_gap one q c other two three four five =
    past_all ((q == 2) && (c == 5) && is_some one.n) ((q == 4) && (c == 3) && is_some one.w)
    (nat_lt c 4 || nat_lt (5 + width one) c) ((q == 3) || (q == 5)) (q == 4) _ _ _ _ other
    (not_all (q == 2) (c == 5) (is_some one.n) (inl (ne_eqb q 2 two)))
    (not_all (q == 4) (c == 3) (is_some one.w) (inl (ne_eqb q 4 four)))
    (neither (q == 3) (q == 5) (ne_eqb q 3 three) (ne_eqb q 5 five)) (ne_eqb q 4 four)

module _ (m : ModuleForm) where
  -- within the borders
  pub inside : (r c : ℕ) → 0 < r → r ≤ rows m → 0 < c → c ≤ columns m
      → byte_at m r c ≡ inner_byte m r c
  inside r c pos le pos_c le_c =
      past_four (r == 0) (r == rows m + 1) (c == 0) (c == columns m + 1) _ _ _ _ (inner_byte m r c)
      (ne_eqb r 0 (λ e. omega arith)) (ne_eqb r (rows m + 1) (λ e. omega arith))
      (ne_eqb c 0 (λ e. omega arith)) (ne_eqb c (columns m + 1) (λ e. omega arith))

  -- to the right of the name and the boxes there are but wires
  pub right_of_boxes : (r c : ℕ) → reach m < c → inner_byte m r c ≡ wire_byte (courses m) (at r c)
  right_of_boxes r c lt =
      by ((r == 1) && nat_le c (length m.name)) (nat_lt r 3)
      (slice_get m.boxes ((r - 3) / 8)) no_name
      (λ one e. box_reaches (length m.name) ((r - 3) / 8) m.boxes one e)
    where
      no_name : ((r == 1) && nat_le c (length m.name)) ≡ false
      no_name =
          not_both (r == 1) (nat_le c (length m.name))
          (lt-leb c (length m.name)
          (let name = name_reaches (length m.name) m.boxes in omega arith))

      by : (a b : Bool) (o : Option BoxForm) → a ≡ false
          → ((one : BoxForm) → o ≡ Some one → 5 + width one ≤ reach m)
          → (if a then slice_index m.name (c - 1)
          else (if b then wire_byte (courses m) (at r c) else elim o [
            | None ↦ wire_byte (courses m) (at r c)
            | Some one ↦ box_byte one ((r - 3) % 8) c (wire_byte (courses m) (at r c))
          ])) ≡ wire_byte (courses m) (at r c)
      by true b o e within = absurd (cc)
      by false true o e within = refl
      by false false None e within = refl
      by false false (Some one) e within =
          box_right one ((r - 3) % 8) c (wire_byte (courses m) (at r c))
          (let le = within one refl in omega arith)

  -- a cell right of the name and the boxes has the byte that the wires say
  pub track_byte : (r c : ℕ) → 0 < r → r ≤ rows m → reach m < c → c ≤ columns m
      → byte_at m r c ≡ wire_byte (courses m) (at r c)
  track_byte r c pos le lt le_c = inside r c pos le (omega arith) le_c ∙ right_of_boxes r c lt

  -- in row 2, and in the rows between boxes, there are but wires
  pub between_boxes : (r c : ℕ) → r ≢ 1 → (r - 3) % 8 ≢ 2 → (r - 3) % 8 ≢ 3 → (r - 3) % 8 ≢ 4
      → (r - 3) % 8 ≢ 5 → inner_byte m r c ≡ wire_byte (courses m) (at r c)
  between_boxes r c not_name two three four five =
      by ((r == 1) && nat_le c (length m.name)) (nat_lt r 3) (slice_get m.boxes ((r - 3) / 8))
      (first_not (r == 1) (nat_le c (length m.name)) (ne_eqb r 1 not_name))
    where
      by : (a b : Bool) (o : Option BoxForm) → a ≡ false
          → (if a then slice_index m.name (c - 1)
          else (if b then wire_byte (courses m) (at r c) else elim o [
            | None ↦ wire_byte (courses m) (at r c)
            | Some one ↦ box_byte one ((r - 3) % 8) c (wire_byte (courses m) (at r c))
          ])) ≡ wire_byte (courses m) (at r c)
      by true b o e = absurd (cc)
      by false true o e = refl
      by false false None e = refl
      by false false (Some one) e =
          box_gap one ((r - 3) % 8) c (wire_byte (courses m) (at r c)) two three four five

  -- under the boxes there are but wires
  pub under_boxes : (r c : ℕ) → 3 + 8 * length m.boxes ≤ r
      → inner_byte m r c ≡ wire_byte (courses m) (at r c)
  under_boxes r c under =
      by ((r == 1) && nat_le c (length m.name)) (nat_lt r 3) (slice_get m.boxes ((r - 3) / 8))
      (first_not (r == 1) (nat_le c (length m.name)) (ne_eqb r 1 (λ e. omega arith)))
      (λ one e. let lt = slice_get_within m.boxes ((r - 3) / 8) one e in omega arith)
    where
      by : (a b : Bool) (o : Option BoxForm) → a ≡ false → ((one : BoxForm) → o ≡ Some one → ⊥)
          → (if a then slice_index m.name (c - 1)
          else (if b then wire_byte (courses m) (at r c) else elim o [
            | None ↦ wire_byte (courses m) (at r c)
            | Some one ↦ box_byte one ((r - 3) % 8) c (wire_byte (courses m) (at r c))
          ])) ≡ wire_byte (courses m) (at r c)
      by true b o e none = absurd (cc)
      by false true o e none = refl
      by false false None e none = refl
      by false false (Some one) e none = absurd (none one refl)

  -- to the left of the boxes, but for the W ports, there are but wires
  pub left_of_boxes : (r c : ℕ) → r ≢ 1 → c < 4 → ((r - 3) % 8 ≢ 4) ⊎ (c ≢ 3)
      → inner_byte m r c ≡ wire_byte (courses m) (at r c)
  left_of_boxes r c not_name lt no_port =
      by ((r == 1) && nat_le c (length m.name)) (nat_lt r 3) (slice_get m.boxes ((r - 3) / 8))
      (first_not (r == 1) (nat_le c (length m.name)) (ne_eqb r 1 not_name))
    where
      by : (a b : Bool) (o : Option BoxForm) → a ≡ false
          → (if a then slice_index m.name (c - 1)
          else (if b then wire_byte (courses m) (at r c) else elim o [
            | None ↦ wire_byte (courses m) (at r c)
            | Some one ↦ box_byte one ((r - 3) % 8) c (wire_byte (courses m) (at r c))
          ])) ≡ wire_byte (courses m) (at r c)
      by true b o e = absurd (cc)
      by false true o e = refl
      by false false None e = refl
      by false false (Some one) e =
          box_left one ((r - 3) % 8) c (wire_byte (courses m) (at r c)) lt no_port

  -- to the right of a box there are but wires
  pub right_of_box : (r c : ℕ) → r ≢ 1 → (one : BoxForm)
      → slice_get m.boxes ((r - 3) / 8) ≡ Some one → 5 + width one < c
      → inner_byte m r c ≡ wire_byte (courses m) (at r c)
  right_of_box r c not_name one is past =
      by ((r == 1) && nat_le c (length m.name)) (nat_lt r 3) (slice_get m.boxes ((r - 3) / 8)) is
      (first_not (r == 1) (nat_le c (length m.name)) (ne_eqb r 1 not_name))
    where
      by : (a b : Bool) (o : Option BoxForm) → o ≡ Some one → a ≡ false
          → (if a then slice_index m.name (c - 1)
          else (if b then wire_byte (courses m) (at r c) else elim o [
            | None ↦ wire_byte (courses m) (at r c)
            | Some one ↦ box_byte one ((r - 3) % 8) c (wire_byte (courses m) (at r c))
          ])) ≡ wire_byte (courses m) (at r c)
      by true b o same e = absurd (cc)
      by false true o same e = refl
      by false false None same e = refl
      by false false (Some two) same e =
          box_right two ((r - 3) % 8) c (wire_byte (courses m) (at r c))
          (let equal = ap width (same_Some two one same) in omega (arith, equal, past))

-- box b has its eight rows alone
pub in_box : (b q : ℕ) → q < 8 → ((box_row b q - 3) / 8 ≡ b) × ((box_row b q - 3) % 8 ≡ q)
in_box b q lt = (omega arith, omega arith)
