-- What stands within the borders of a module's drawing: the name, the ports at ends of wires, the
-- boxes, and wires.
use Rattle.std.specs.Prelude.{◌≡◌, ◌+◌, ◌-◌, ◌/◌, ◌%◌, ◌<◌, ◌≤◌, ◌==◌, ◌&&◌, ◌||◌, ◌⊎◌, ℕ}
use Rattle.std.specs.Prelude.{Bool, true, false, if◌then◌else◌, nat_le, nat_lt, List, length}
use Rattle.std.specs.Prelude.{slice_get, slice_index, Option, Some, None, is_some}
use Rattle.std.proofs.Common.{arith, refl, sym, ap, subst, inl, inr, ◌∙◌}
use Rattle.std.proofs.lemmas.Bool.{eqb-true, eqb-false, leb-true, ltb-false, and_parts}
use Rattle.std.proofs.lemmas.Bool.{cases_eq, or_cases}
use Rattle.std.proofs.lemmas.Option.{slice_get_within, get_or_from_slice_get}
use Rattle.umix_base.specs.declared.place.Place.{Place}
use Rattle.two_d.specs.Canonical.{canonical}
use Rattle.two_d.specs.Names.{IsNameByte}
use Rattle.two_d.specs.Places.{at}
use Rattle.two_d.specs.Programs.{BoxForm, ModuleForm}
use Rattle.two_d.specs.Sound.{IsSound}
use Rattle.two_d.specs.Trees.{IsWithin}
use Rattle.two_d.specs.Wires.{horizontal, vertical}
use Rattle.grid_picture.specs.Courses.{Course, passes, bends_at, wire_byte}
use Rattle.grid_draw.specs.Layout.{width, box_row, courses, is_side, box_byte}
use Rattle.grid_draw.specs.Layout.{inner_byte}
use Rattle.grid_draw.proofs.PlainTexts.{IsPlain, plain_text}

-- a byte over which a wire goes
pub data IsSign (v : ℕ) : Type 0 where
  hash : v ≡ 35 → IsSign v
  plus : v ≡ 43 → IsSign v
  minus : v ≡ 45 → IsSign v
  bar : v ≡ 124 → IsSign v

-- the byte of a cell of wires, by what passes there
abbrev pub byte_of : Bool → Bool → Bool → ℕ
byte_of turns across down =
    if turns then 43 else (if across then (if down then 35 else 45) else (if down then 124 else 32))

-- a cell of wires has a sign of theirs, or none and is a space
pub wire_signs : (cs : List Course) (p : Place) → (wire_byte cs p ≡ 32) ⊎ IsSign (wire_byte cs p)
wire_signs cs p = by (bends_at cs p) (passes horizontal cs p) (passes vertical cs p)
  where
    by : (turns across down : Bool) → (byte_of turns across down ≡ 32)
        ⊎ IsSign (byte_of turns across down)
    by true across down = inr (plus refl)
    by false true true = inr (hash refl)
    by false true false = inr (minus refl)
    by false false true = inr (bar refl)
    by false false false = inl refl

-- no cell of wires has another byte
pub no_wire : (cs : List Course) (p : Place) (v b : ℕ) → v ≡ wire_byte cs p → v ≡ b → (b ≡ 32 → ⊥)
    → (IsSign b → ⊥) → ⊥
no_wire cs p v b wired is no_space no_sign = elim (wire_signs cs p) [
  | inl space ↦ no_space (sym is ∙ (wired ∙ space))
  | inr sign ↦ no_sign (subst IsSign (sym wired ∙ is) sign)
]

-- the byte is none of a wire
pub sign_not : (v b : ℕ) → v ≡ b → (b ≡ 35 → ⊥) → (b ≡ 43 → ⊥) → (b ≡ 45 → ⊥) → (b ≡ 124 → ⊥)
    → IsSign v → ⊥
sign_not v w e a b c d (hash x) = a (sym e ∙ x)
sign_not v w e a b c d (plus x) = b (sym e ∙ x)
sign_not v w e a b c d (minus x) = c (sym e ∙ x)
sign_not v w e a b c d (bar x) = d (sym e ∙ x)

-- a plain byte is none of a wire
pub plain_no_sign : (v : ℕ) → IsPlain v → IsSign v → ⊥
plain_no_sign v plain sign =
    sign_not v v refl plain.no_hash plain.no_plus plain.no_minus plain.no_bar sign

-- the byte of a box in row q of its rows
pub data BoxByte (one : BoxForm) (q c v : ℕ) : Type 0 where
  corner : (q ≡ 3) ⊎ (q ≡ 5) → (c ≡ 4) ⊎ (c ≡ 5 + width one) → v ≡ 42 → BoxByte one q c v
  edge : v ≡ 61 → BoxByte one q c v
  side : v ≡ 33 → BoxByte one q c v
  letter : IsPlain v → BoxByte one q c v

-- what stands in a row and a column within the borders
pub data Inner (m : ModuleForm) (r c v : ℕ) : Type 0 where
  of_name : r ≡ 1 → c ≤ length m.name → IsNameByte v → Inner m r c v
  n_mark : (b : ℕ) (one : BoxForm) → slice_get m.boxes b ≡ Some one → is_some one.n ≡ true
      → r ≡ box_row b 2 → c ≡ 5 → v ≡ 118 → Inner m r c v
  w_mark : (b : ℕ) (one : BoxForm) → slice_get m.boxes b ≡ Some one → is_some one.w ≡ true
      → r ≡ box_row b 4 → c ≡ 3 → v ≡ 62 → Inner m r c v
  of_box : (b : ℕ) (one : BoxForm) → slice_get m.boxes b ≡ Some one → (q : ℕ) → 3 ≤ q → q ≤ 5
      → r ≡ box_row b q → 4 ≤ c → c ≤ 5 + width one → BoxByte one q c v → Inner m r c v
  of_wires : v ≡ wire_byte (courses m) (at r c) → Inner m r c v

-- a sign of a wire stands in cells of wires alone
pub sign_wired : (m : ModuleForm) (r c v : ℕ) → Inner m r c v → IsSign v
    → v ≡ wire_byte (courses m) (at r c)
sign_wired m r c v (of_name row col (inl lower)) sign =
    absurd (sign_not v v refl (λ x. omega arith) (λ x. omega arith) (λ x. omega arith)
    (λ x. omega arith) sign)
sign_wired m r c v (of_name row col (inr (inl digit))) sign =
    absurd (sign_not v v refl (λ x. omega arith) (λ x. omega arith) (λ x. omega arith)
    (λ x. omega arith) sign)
sign_wired m r c v (of_name row col (inr (inr line))) sign =
    absurd (sign_not v v refl (λ x. omega arith) (λ x. omega arith) (λ x. omega arith)
    (λ x. omega arith) sign)
sign_wired m r c v (n_mark b one at_b some row col is) sign =
    absurd (sign_not v 118 is (λ x. omega arith) (λ x. omega arith) (λ x. omega arith)
    (λ x. omega arith) sign)
sign_wired m r c v (w_mark b one at_b some row col is) sign =
    absurd (sign_not v 62 is (λ x. omega arith) (λ x. omega arith) (λ x. omega arith)
    (λ x. omega arith) sign)
sign_wired m r c v (of_box b one at_b q low high row from to (corner x y is)) sign =
    absurd (sign_not v 42 is (λ x. omega arith) (λ x. omega arith) (λ x. omega arith)
    (λ x. omega arith) sign)
sign_wired m r c v (of_box b one at_b q low high row from to (edge is)) sign =
    absurd (sign_not v 61 is (λ x. omega arith) (λ x. omega arith) (λ x. omega arith)
    (λ x. omega arith) sign)
sign_wired m r c v (of_box b one at_b q low high row from to (side is)) sign =
    absurd (sign_not v 33 is (λ x. omega arith) (λ x. omega arith) (λ x. omega arith)
    (λ x. omega arith) sign)
sign_wired m r c v (of_box b one at_b q low high row from to (letter plain)) sign =
    absurd (plain_no_sign v plain sign)
sign_wired m r c v (of_wires is) sign = is

-- all that stands there is printable
abbrev pub IsPrintable : ℕ → Type 0
IsPrintable b = (32 ≤ b) × (b ≤ 126)

module _ (m : ModuleForm) (sound : IsSound m) where
  -- each command is one that can be written
  within : (b : ℕ) (one : BoxForm) → slice_get m.boxes b ≡ Some one → IsWithin one.command
  within b one at_b =
      subst (λ (row : BoxForm). IsWithin row.command) (get_or_from_slice_get m.boxes b one one at_b)
      (sound.commands b one (slice_get_within m.boxes b one at_b))

  -- in the rows of a box
  box_inner : (b q c r : ℕ) (one : BoxForm) → slice_get m.boxes b ≡ Some one → r ≡ box_row b q
      → Inner m r c (box_byte one q c (wire_byte (courses m) (at r c)))
  box_inner b q c r one at_b row =
      by ((q == 2) && (c == 5) && is_some one.n) ((q == 4) && (c == 3) && is_some one.w)
      (nat_lt c 4 || nat_lt (5 + width one) c) ((q == 3) || (q == 5)) (is_side one c) (q == 4)
      refl refl refl refl refl refl
    where
      between : (nat_lt c 4 || nat_lt (5 + width one) c) ≡ false → (4 ≤ c) × (c ≤ 5 + width one)
      between e = by_both (nat_lt c 4) (nat_lt (5 + width one) c) refl refl e
        where
          by_both : (x y : Bool) → nat_lt c 4 ≡ x → nat_lt (5 + width one) c ≡ y → (x || y) ≡ false
              → (4 ≤ c) × (c ≤ 5 + width one)
          by_both true y f g e = absurd (cc)
          by_both false true f g e = absurd (cc)
          by_both false false f g e = (ltb-false c 4 f, ltb-false (5 + width one) c g)

      no_side : is_side one c ≡ false → (c ≡ 4 → ⊥) × (c ≡ 5 + width one → ⊥)
      no_side e = by_both (c == 4) (c == 5 + width one) refl refl e
        where
          by_both : (x y : Bool) → (c == 4) ≡ x → (c == 5 + width one) ≡ y → (x || y) ≡ false
              → (c ≡ 4 → ⊥) × (c ≡ 5 + width one → ⊥)
          by_both true y f g e = absurd (cc)
          by_both false true f g e = absurd (cc)
          by_both false false f g e = (eqb-false c 4 f, eqb-false c (5 + width one) g)

      a_side : is_side one c ≡ true → (c ≡ 4) ⊎ (c ≡ 5 + width one)
      a_side e =
          elim (or_cases (c == 4) (c == 5 + width one) e)
          [ inl x ↦ inl (eqb-true c 4 x) | inr x ↦ inr (eqb-true c (5 + width one) x) ]

      edge_row : ((q == 3) || (q == 5)) ≡ true → (q ≡ 3) ⊎ (q ≡ 5)
      edge_row e =
          elim (or_cases (q == 3) (q == 5) e)
          [ inl x ↦ inl (eqb-true q 3 x) | inr x ↦ inr (eqb-true q 5 x) ]

      edge_low : (q ≡ 3) ⊎ (q ≡ 5) → (3 ≤ q) × (q ≤ 5)
      edge_low (inl e) = (omega arith, omega arith)
      edge_low (inr e) = (omega arith, omega arith)

      inner_of : 4 ≤ c → c ≤ 5 + width one → (c ≡ 4 → ⊥) → (c ≡ 5 + width one → ⊥)
          → c - 5 < width one
      inner_of from to left right = elim (cases_eq c 4) [
        | inl e ↦ absurd (left e)
        | inr e ↦ elim (cases_eq c (5 + width one))
            [ inl f ↦ absurd (right f) | inr f ↦ omega arith ]
      ]

      by : (n_here w_here out edges on_side text : Bool)
          → ((q == 2) && (c == 5) && is_some one.n) ≡ n_here
          → ((q == 4) && (c == 3) && is_some one.w) ≡ w_here
          → (nat_lt c 4 || nat_lt (5 + width one) c) ≡ out → ((q == 3) || (q == 5)) ≡ edges
          → is_side one c ≡ on_side → (q == 4) ≡ text
          → Inner m r c (if n_here then 118 else (if w_here then 62
          else (if out then wire_byte (courses m) (at r c)
          else (if edges then (if on_side then 42 else 61) else
          (if text then (if on_side then 33 else slice_index (canonical one.command) (c - 5))
          else wire_byte (courses m) (at r c))))))
      by true w_here out edges on_side text e f g h i j =
          let (rest, some) = and_parts ((q == 2) && (c == 5)) (is_some one.n) e in
          let (two, five) = and_parts (q == 2) (c == 5) rest in
          n_mark b one at_b some (row ∙ ap (box_row b) (eqb-true q 2 two)) (eqb-true c 5 five) refl
      by false true out edges on_side text e f g h i j =
          let (rest, some) = and_parts ((q == 4) && (c == 3)) (is_some one.w) f in
          let (four, three) = and_parts (q == 4) (c == 3) rest in
          w_mark b one at_b some (row ∙ ap (box_row b) (eqb-true q 4 four))
          (eqb-true c 3 three) refl
      by false false true edges on_side text e f g h i j = of_wires refl
      by false false false true true text e f g h i j =
          let (low, high) = edge_low (edge_row h) in let (from, to) = between g in
          of_box b one at_b q low high row from to (corner (edge_row h) (a_side i) refl)
      by false false false true false text e f g h i j =
          let (low, high) = edge_low (edge_row h) in let (from, to) = between g in
          of_box b one at_b q low high row from to (edge refl)
      by false false false false true true e f g h i j =
          let four = eqb-true q 4 j in let (from, to) = between g in
          of_box b one at_b q (omega arith) (omega arith) row from to (side refl)
      by false false false false false true e f g h i j =
          let four = eqb-true q 4 j in let (from, to) = between g in
          let (left, right) = no_side i in
          let in_text : c - 5 < width one = inner_of from to left right in
          of_box b one at_b q (omega arith) (omega arith) row from to
          (letter (plain_text one.command (within b one at_b) (c - 5) 0 in_text))
      by false false false false on_side false e f g h i j = of_wires refl

  -- what stands in a cell within the borders
  pub inner : (r c : ℕ) → 0 < c → Inner m r c (inner_byte m r c)
  inner r c pos =
      by ((r == 1) && nat_le c (length m.name)) (nat_lt r 3)
      (slice_get m.boxes ((r - 3) / 8)) refl refl refl
    where
      by : (a b : Bool) (o : Option BoxForm) → ((r == 1) && nat_le c (length m.name)) ≡ a
          → nat_lt r 3 ≡ b → slice_get m.boxes ((r - 3) / 8) ≡ o
          → Inner m r c (if a then slice_index m.name (c - 1)
          else (if b then wire_byte (courses m) (at r c) else elim o [
            | None ↦ wire_byte (courses m) (at r c)
            | Some one ↦ box_byte one ((r - 3) % 8) c (wire_byte (courses m) (at r c))
          ]))
      by true b o e f g =
          let (row, le) = and_parts (r == 1) (nat_le c (length m.name)) e in
          let in_name = leb-true c (length m.name) le in
          of_name (eqb-true r 1 row) in_name (sound.named.letters (c - 1) 0 (omega arith))
      by false true o e f g = of_wires refl
      by false false None e f g = of_wires refl
      by false false (Some one) e f g =
          let under = ltb-false r 3 f in
          box_inner ((r - 3) / 8) ((r - 3) % 8) c r one g (omega arith)

  -- the bytes of boxes are printable
  printable_box : (one : BoxForm) (q c v : ℕ) → BoxByte one q c v → IsPrintable v
  printable_box one q c v (corner x y is) = (omega arith, omega arith)
  printable_box one q c v (edge is) = (omega arith, omega arith)
  printable_box one q c v (side is) = (omega arith, omega arith)
  printable_box one q c v (letter plain) = (plain.low, plain.high)

  -- so are those of wires
  printable_sign : (v : ℕ) → (v ≡ 32) ⊎ IsSign v → IsPrintable v
  printable_sign v (inl e) = (omega arith, omega arith)
  printable_sign v (inr (hash e)) = (omega arith, omega arith)
  printable_sign v (inr (plus e)) = (omega arith, omega arith)
  printable_sign v (inr (minus e)) = (omega arith, omega arith)
  printable_sign v (inr (bar e)) = (omega arith, omega arith)

  -- so are all within the borders
  pub printable : (r c v : ℕ) → Inner m r c v → IsPrintable v
  printable r c v (of_name row col (inl lower)) = (omega arith, omega arith)
  printable r c v (of_name row col (inr (inl digit))) = (omega arith, omega arith)
  printable r c v (of_name row col (inr (inr line))) = (omega arith, omega arith)
  printable r c v (n_mark b one at_b some row col is) = (omega arith, omega arith)
  printable r c v (w_mark b one at_b some row col is) = (omega arith, omega arith)
  printable r c v (of_box b one at_b q low high row from to byte) = printable_box one q c v byte
  printable r c v (of_wires is) =
      subst IsPrintable (sym is)
      (printable_sign (wire_byte (courses m) (at r c)) (wire_signs (courses m) (at r c)))
