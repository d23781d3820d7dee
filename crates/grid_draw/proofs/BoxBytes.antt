-- The bytes in the rows of a box.
use Rattle.std.specs.Prelude.{◌≡◌, ◌+◌, ◌-◌, ◌/◌, ◌%◌, ◌<◌, ◌≤◌, ◌==◌, ◌&&◌, ◌||◌, ◌⊎◌, ℕ}
use Rattle.std.specs.Prelude.{Bool, true, false}
use Rattle.std.specs.Prelude.{if◌then◌else◌, nat_le, nat_lt, length, slice_get, slice_index, Option}
use Rattle.std.specs.Prelude.{Some, None, is_some}
use Rattle.std.proofs.Common.{arith, refl, sym, ap, subst, ◌∙◌, inl, inr}
use Rattle.std.proofs.lemmas.Bool.{ne_eqb, eq-eqb, le-ltb, or_from, and_left}
use Rattle.std.proofs.lemmas.Option.{same_Some}
use Rattle.two_d.specs.Canonical.{canonical}
use Rattle.two_d.specs.Places.{at}
use Rattle.two_d.specs.Programs.{BoxForm, ModuleForm}
use Rattle.grid_picture.specs.Courses.{wire_byte}
use Rattle.grid_draw.specs.Layout.{width, box_row, courses, is_side, box_byte, inner_byte}
use Rattle.grid_draw.proofs.Regions.{in_box, first_not}

-- the eight rows of a box have its bytes
pub box_rows : (m : ModuleForm) (b q c : ℕ) (one : BoxForm) → slice_get m.boxes b ≡ Some one → q < 8
    → inner_byte m (box_row b q) c ≡ box_byte one q c (wire_byte (courses m) (at (box_row b q) c))
box_rows m b q c one at_b lt =
    by ((box_row b q == 1) && nat_le c (length m.name)) (nat_lt (box_row b q) 3)
    (slice_get m.boxes ((box_row b q - 3) / 8)) ((box_row b q - 3) % 8)
    (first_not (box_row b q == 1) (nat_le c (length m.name))
    (ne_eqb (box_row b q) 1 (λ e. omega arith))) (le-ltb (box_row b q) 3 (omega arith))
    (ap (slice_get m.boxes) (in_box b q lt).0 ∙ at_b) (in_box b q lt).1
  where
    by : (name top : Bool) (o : Option BoxForm) (k : ℕ) → name ≡ false → top ≡ false → o ≡ Some one
        → k ≡ q
        → (if name then slice_index m.name (c - 1)
        else (if top then wire_byte (courses m) (at (box_row b q) c) else elim o [
          | None ↦ wire_byte (courses m) (at (box_row b q) c)
          | Some two ↦ box_byte two k c (wire_byte (courses m) (at (box_row b q) c))
        ])) ≡ box_byte one q c (wire_byte (courses m) (at (box_row b q) c))
    by true top o k e f g h = absurd (cc)
    by false true o k e f g h = absurd (cc)
    by false false None k e f g h = absurd (cc)
    by false false (Some two) k e f g h =
        ap (λ (z : BoxForm). box_byte z k c (wire_byte (courses m) (at (box_row b q) c)))
        (same_Some two one g)
        ∙ ap (λ j. box_byte one j c (wire_byte (courses m) (at (box_row b q) c))) h

module _ (one : BoxForm) (c : ℕ) (other : ℕ) where
  not_out : 4 ≤ c → c ≤ 5 + width one → (nat_lt c 4 || nat_lt (5 + width one) c) ≡ false
  not_out from to =
      or_from (nat_lt c 4) (nat_lt (5 + width one) c) (le-ltb c 4 from)
      (le-ltb (5 + width one) c to)

  -- the upper and the lower side of a box
  pub edge_byte : (q : ℕ) → (q ≡ 3) ⊎ (q ≡ 5) → 4 ≤ c → c ≤ 5 + width one
      → box_byte one q c other ≡ (if is_side one c then 42 else 61)
  edge_byte q (inl e) from to =
      subst (λ q. box_byte one q c other ≡ (if is_side one c then 42 else 61)) (sym e)
      (ap (λ (b : Bool). if b then other else (if is_side one c then 42 else 61)) (not_out from to))
  edge_byte q (inr e) from to =
      subst (λ q. box_byte one q c other ≡ (if is_side one c then 42 else 61)) (sym e)
      (ap (λ (b : Bool). if b then other else (if is_side one c then 42 else 61)) (not_out from to))

  -- the row of its text
  pub text_byte : 4 ≤ c → c ≤ 5 + width one → box_byte one 4 c other
      ≡ (if is_side one c then 33 else slice_index (canonical one.command) (c - 5))
  text_byte from to =
      ap (λ (b : Bool). if b then 62 else (if nat_lt c 4 || nat_lt
      (5 + width one) c then other
      else (if is_side one c then 33 else slice_index (canonical one.command) (c - 5))))
      (and_left (c == 3) (is_some one.w) (ne_eqb c 3 (λ e. omega arith)))
      ∙ ap (λ (b : Bool). if b then other else (if is_side one c then 33 else slice_index
      (canonical one.command) (c - 5))) (not_out from to)

  -- the two columns of a box's sides
  pub at_side : (c ≡ 4) ⊎ (c ≡ 5 + width one) → is_side one c ≡ true
  at_side (inl e) = ap (λ (b : Bool). b || (c == 5 + width one)) (eq-eqb c 4 e)
  at_side (inr e) = by (c == 4)
    where
      by : (b : Bool) → (b || (c == 5 + width one)) ≡ true
      by true = refl
      by false = eq-eqb c (5 + width one) e

  -- between them is none
  pub off_side : 4 < c → c < 5 + width one → is_side one c ≡ false
  off_side after before =
      or_from (c == 4) (c == 5 + width one) (ne_eqb c 4 (λ e. omega arith))
      (ne_eqb c (5 + width one) (λ e. omega arith))

-- the port at the end of a wire to N
pub n_byte : (one : BoxForm) (other : ℕ) → is_some one.n ≡ true → box_byte one 2 5 other ≡ 118
n_byte one other some =
    ap (λ (b : Bool). if b then 118 else (if nat_lt (5 + width one) 5 then other else other)) some

-- the port at the end of a wire to W
pub w_byte : (one : BoxForm) (other : ℕ) → is_some one.w ≡ true → box_byte one 4 3 other ≡ 62
w_byte one other some = ap (λ (b : Bool). if b then 62 else other) some
