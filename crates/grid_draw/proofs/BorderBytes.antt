-- The bytes of the borders of a module's drawing.
use Rattle.std.specs.Prelude.{◌≡◌, ◌+◌, ◌<◌, ◌==◌, ◌||◌, ℕ, Bool, true, false}
use Rattle.std.specs.Prelude.{if◌then◌else◌, nat_le}
use Rattle.std.proofs.Common.{arith, refl, ap, ◌∙◌}
use Rattle.std.proofs.lemmas.Bool.{ne_eqb, eq-eqb, or_from}
use Rattle.two_d.specs.Places.{at}
use Rattle.two_d.specs.Programs.{ModuleForm}
use Rattle.two_d.specs.Wires.{horizontal, vertical}
use Rattle.grid_picture.specs.Courses.{passes}
use Rattle.grid_draw.specs.Layout.{columns, rows, exit_row, courses, byte_at}
use Rattle.grid_draw.specs.Layout.{border_byte}

-- the first of tests that is true
second_of : (a b : Bool) (u v w : ℕ) → a ≡ false → b ≡ true
    → (if a then u else (if b then v else w)) ≡ v
second_of true b u v w e f = absurd (cc)
second_of false true u v w e f = refl
second_of false false u v w e f = absurd (cc)

-- the third of tests is the first that is true
third_of : (a b c : Bool) (u v w x : ℕ) → a ≡ false → b ≡ false → c ≡ true
    → (if a then u else (if b then v else (if c then w else x))) ≡ w
third_of true b c u v w x e f g = absurd (cc)
third_of false true c u v w x e f g = absurd (cc)
third_of false false true u v w x e f g = refl
third_of false false false u v w x e f g = absurd (cc)

-- the fourth of tests is
fourth_of : (a b c d : Bool) (u v w x y : ℕ) → a ≡ false → b ≡ false → c ≡ false → d ≡ true
    → (if a then u else (if b then v else (if c then w else (if d then x else y)))) ≡ x
fourth_of true b c d u v w x y e f g h = absurd (cc)
fourth_of false true c d u v w x y e f g h = absurd (cc)
fourth_of false false true d u v w x y e f g h = absurd (cc)
fourth_of false false false true u v w x y e f g h = refl
fourth_of false false false false u v w x y e f g h = absurd (cc)

-- one of two is true where the second is
true_second : (a b : Bool) → b ≡ true → (a || b) ≡ true
true_second true b e = refl
true_second false b e = e

module _ (m : ModuleForm) where
  -- between the corners of a border
  between : (corner c other : ℕ) → 0 < c → c < columns m + 1 → border_byte m corner c other ≡ other
  between corner c other pos lt =
      ap (λ b. if b then corner else other)
      (or_from (c == 0) (c == columns m + 1) (ne_eqb c 0 (λ e. omega arith))
      (ne_eqb c (columns m + 1) (λ e. omega arith)))

  -- the right corner of a border
  at_right : (corner other : ℕ) → border_byte m corner (columns m + 1) other ≡ corner
  at_right corner other =
      ap (λ b. if b then corner else other)
      (true_second (columns m + 1 == 0) (columns m + 1 == columns m + 1)
      (eq-eqb (columns m + 1) (columns m + 1) refl))

  -- the top border: a bar where a wire comes in, else dots
  pub top_byte : (c : ℕ) → 0 < c → c < columns m + 1 → byte_at m 0 c
      ≡ (if passes vertical (courses m) (at 0 c) then 124 else 46)
  top_byte c pos lt = between 44 c (if passes vertical (courses m) (at 0 c) then 124 else 46) pos lt

  -- its left corner
  pub top_left : byte_at m 0 0 ≡ 44
  top_left = refl

  -- its right corner
  pub top_right : byte_at m 0 (columns m + 1) ≡ 44
  top_right = at_right 44 (if passes vertical (courses m) (at 0 (columns m + 1)) then 124 else 46)

  -- the last row is the bottom border
  bottom_row : (c : ℕ) → byte_at m (rows m + 1) c ≡ border_byte m 39 c 46
  bottom_row c =
      second_of (rows m + 1 == 0) (rows m + 1 == rows m + 1) _ (border_byte m 39 c 46) _
      (ne_eqb (rows m + 1) 0 (λ e. omega arith)) (eq-eqb (rows m + 1) (rows m + 1) refl)

  -- the bottom border is of dots
  pub bottom_byte : (c : ℕ) → 0 < c → c < columns m + 1 → byte_at m (rows m + 1) c ≡ 46
  bottom_byte c pos lt = bottom_row c ∙ between 39 c 46 pos lt

  -- its left corner
  pub bottom_left : byte_at m (rows m + 1) 0 ≡ 39
  bottom_left = bottom_row 0

  -- its right corner
  pub bottom_right : byte_at m (rows m + 1) (columns m + 1) ≡ 39
  bottom_right = bottom_row (columns m + 1) ∙ at_right 39 46

  -- the left border: a minus where a wire comes in, else colons
  pub left_byte : (r : ℕ) → 0 < r → r < rows m + 1 → byte_at m r 0
      ≡ (if passes horizontal (courses m) (at r 0) then 45 else 58)
  left_byte r pos lt =
      third_of (r == 0) (r == rows m + 1) true _ _
      (if passes horizontal (courses m) (at r 0) then 45 else 58) 0
      (ne_eqb r 0 (λ e. omega arith)) (ne_eqb r (rows m + 1) (λ e. omega arith)) refl

  -- the right border: a minus in the row of each exit, colons above
  pub right_byte : (r : ℕ) → 0 < r → r < rows m + 1 → byte_at m r (columns m + 1)
      ≡ (if nat_le (exit_row m 0) r then 45 else 58)
  right_byte r pos lt =
      fourth_of (r == 0) (r == rows m + 1) (columns m + 1 == 0)
      (columns m + 1 == columns m + 1) _ _ _ (if nat_le (exit_row m 0) r then 45 else 58) _
      (ne_eqb r 0 (λ e. omega arith)) (ne_eqb r (rows m + 1) (λ e. omega arith))
      (ne_eqb (columns m + 1) 0 (λ e. omega arith))
      (eq-eqb (columns m + 1) (columns m + 1) refl)
