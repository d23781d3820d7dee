-- Which box a cell has, as boxes are laid cell by cell.
use Rattle.std.proofs.Common.{◌≡◌, ℕ, ◌+◌, ◌<◌, inl, inr, List, map, length, get_or, Some, arith, ap, sym, subst, refl, ◌∙◌}
use Rattle.std.specs.Option.{option_map}
use Rattle.std.proofs.lemmas.Option.{slice_get-map, slice_get-get_or}
use Rattle.grid_reader.specs.Boxes.{box_rect}
use Rattle.grid_reader.specs.declared.box_frame.BoxFrame.{BoxFrame}
use Rattle.std.specs.List.{slice_get}
use Rattle.std.proofs.lemmas.Bool.{cases_eq, cases_lt}
use Rattle.umix_base.specs.declared.place.Place.{Place}
use Rattle.two_d.specs.Places.{at, Before, Rect, Covers}
use Rattle.two_d.proofs.Decide.{Decided}
use Rattle.wire_trace.specs.declared.area.Area.{Area}
use Rattle.wire_trace.specs.declared.owners.Owners.{Owners}
use Rattle.wire_trace.specs.inner.Areas.{IsIn, Gets, AreOwners, owner_of}

pub same_place : (p q : Place) → p.row ≡ q.row → p.col ≡ q.col → p ≡ q
same_place p q row col = ap (λ (n : ℕ). record { row = n; col = p.col }) row ∙ ap (λ (n : ℕ). record { row = q.row; col = n }) col

pub gets_same : (a : Area) (old new : Owners) (n : ℕ) (P Q : Place → Type 0) → ((q : Place) → P q → Q q) → ((q : Place) → Q q → P q) → Gets a old new n P → Gets a old new n Q
gets_same a old new n P Q there back gets = record {
  inside = λ q within is. gets.inside q within (back q is);
  outside = λ q within isnt. gets.outside q within (λ is. isnt (there q is));
}

pub gets_none : (a : Area) (old : Owners) (n : ℕ) (P : Place → Type 0) → ((q : Place) → P q → ⊥) → Gets a old old n P
gets_none a old n P none = record {
  inside = λ q within is. absurd (none q is);
  outside = λ q within isnt. refl;
}

-- one cell more
pub next_cell : (a : Area) (old mid new : Owners) (n : ℕ) (f : Rect) (row col : ℕ) → Covers f (at row col) → Gets a old mid n (λ q. Covers f q × Before q (at row col)) → Gets a mid new n (λ q. q ≡ at row col) → Gets a old new n (λ q. Covers f q × Before q (at row (col + 1)))
next_cell a old mid new n f row col here before one = record {
  inside = λ q within is. elim is.1 [
    | inl above ↦ apart q within (λ e. let r = ap (λ (p : Place). p.row) e in omega arith) ∙ before.inside q within (is.0, inl above)
    | inr left ↦ elim (cases_eq q.col col) [
      | inl same ↦ one.inside q within (same_place q (at row col) left.0 same)
      | inr other ↦ apart q within (λ e. other (ap (λ (p : Place). p.col) e)) ∙ before.inside q within (is.0, inr (left.0, omega arith))
    ]
  ];
  outside = λ q within isnt.
      apart q within (λ e. isnt (subst (λ p. Covers f p) (sym e) here, inr (ap (λ (p : Place). p.row) e, let c = ap (λ (p : Place). p.col) e in omega arith)))
      ∙ before.outside q within (λ is. isnt (is.0, later q is.1));
}
  where
    apart : (q : Place) → IsIn a q → (q ≡ at row col → ⊥) → owner_of new q ≡ owner_of mid q
    apart q within other = one.outside q within other

    later : (q : Place) → Before q (at row col) → Before q (at row (col + 1))
    later q (inl above) = inl above
    later q (inr left) = inr (left.0, omega (arith, left.1))

pub first_cell : (a : Area) (old new : Owners) (n : ℕ) (f : Rect) (row : ℕ) → Gets a old new n (λ q. Covers f q × (q.row < row)) → Gets a old new n (λ q. Covers f q × Before q (at row f.left))
first_cell a old new n f row gets = gets_same a old new n (λ q. Covers f q × (q.row < row)) (λ q. Covers f q × Before q (at row f.left)) (λ q is. (is.0, inl is.1)) back gets
  where
    back : (q : Place) → (Covers f q × Before q (at row f.left)) → Covers f q × (q.row < row)
    back q (covers, inl above) = (covers, above)
    back q (covers, inr left) = absurd (omega (arith, covers.from_left, left.1))

pub row_done : (a : Area) (old new : Owners) (n : ℕ) (f : Rect) (row : ℕ) → Gets a old new n (λ q. Covers f q × Before q (at row (f.right + 1))) → Gets a old new n (λ q. Covers f q × (q.row < row + 1))
row_done a old new n f row gets = gets_same a old new n (λ q. Covers f q × Before q (at row (f.right + 1))) (λ q. Covers f q × (q.row < row + 1)) there back gets
  where
    there : (q : Place) → (Covers f q × Before q (at row (f.right + 1))) → Covers f q × (q.row < row + 1)
    there q (covers, inl above) = (covers, omega (arith, above))
    there q (covers, inr left) = (covers, omega (arith, left.0))

    back : (q : Place) → (Covers f q × (q.row < row + 1)) → Covers f q × Before q (at row (f.right + 1))
    back q (covers, above) = elim (cases_eq q.row row) [
      | inl same ↦ (covers, inr (same, omega (arith, covers.to_right)))
      | inr other ↦ (covers, inl (omega arith))
    ]

pub rows_done : (a : Area) (old new : Owners) (n : ℕ) (f : Rect) → Gets a old new n (λ q. Covers f q × (q.row < f.bottom + 1)) → Gets a old new n (Covers f)
rows_done a old new n f gets = gets_same a old new n (λ q. Covers f q × (q.row < f.bottom + 1)) (Covers f) (λ q is. is.0) (λ q covers. (covers, omega (arith, covers.to_bottom))) gets

pub decided_covers : (b : Rect) (p : Place) → Decided (Covers b p)
decided_covers b p = elim (cases_lt p.row b.top) [
  | inl above ↦ inr (λ covers. omega (arith, covers.from_top))
  | inr low ↦ elim (cases_lt b.bottom p.row) [
    | inl below ↦ inr (λ covers. omega (arith, covers.to_bottom))
    | inr high ↦ elim (cases_lt p.col b.left) [
      | inl left ↦ inr (λ covers. omega (arith, covers.from_left))
      | inr after ↦ elim (cases_lt b.right p.col) [
        | inl right ↦ inr (λ covers. omega (arith, covers.to_right))
        | inr before ↦ inl (record { from_top = low; to_bottom = high; from_left = after; to_right = before })
      ]
    ]
  ]
]

-- one box more
pub next_box : (a : Area) (boxes : List Rect) (n : ℕ) (b : Rect) (old new : Owners) → old.area ≡ a → new.area ≡ a → slice_get boxes n ≡ Some b → AreOwners boxes n old → Gets a old new n (Covers b) → AreOwners boxes (n + 1) new
next_box a boxes n b old new area_old area_new at_n owners gets = record {
  some = λ p i within is. elim (decided_covers b p) [
    | inl covers ↦ (b, let e : Some i ≡ Some n = sym is ∙ gets.inside p (into p within) covers in let f : i ≡ n = cc in (omega arith), let e : Some i ≡ Some n = sym is ∙ gets.inside p (into p within) covers in let f : i ≡ n = cc in ap (slice_get boxes) f ∙ at_n, covers)
    | inr bare ↦ (let (c, less, here, covers) = owners.some p i (back p within) (sym (gets.outside p (into p within) bare) ∙ is) in (c, omega arith, here, covers))
  ];
  none = λ p i c within is less here covers. elim (decided_covers b p) [
    | inl covers ↦ absurd (let e = sym is ∙ gets.inside p (into p within) covers in cc)
    | inr bare ↦ elim (cases_eq i n) [
      | inl same ↦ bare (let e : Some c ≡ Some b = sym here ∙ (ap (slice_get boxes) same ∙ at_n) in let f : c ≡ b = cc in subst (λ r. Covers r p) f covers)
      | inr other ↦ owners.none p i c (back p within) (sym (gets.outside p (into p within) bare) ∙ is) (omega arith) here covers
    ]
  ];
}
  where
    into : (p : Place) → IsIn new.area p → IsIn a p
    into p within = subst (λ x. IsIn x p) area_new within

    back : (p : Place) → IsIn new.area p → IsIn old.area p
    back p within = subst (λ x. IsIn x p) (sym area_old) (into p within)

-- a box of the code as one of the drawing
pub box_there : (boxes : List BoxFrame) (n : ℕ) (b : BoxFrame) → n < length boxes → b ≡ get_or boxes n b → slice_get (map box_rect boxes) n ≡ Some (box_rect b)
box_there boxes n b less is = slice_get-map box_rect boxes n ∙ ap (option_map box_rect) (slice_get-get_or boxes n b less ∙ ap (λ x. Some x) (sym is))

pub box_at : (boxes : List BoxFrame) (n : ℕ) (b : BoxFrame) → n < length boxes → slice_get (map box_rect boxes) n ≡ Some (box_rect (get_or boxes n b))
box_at boxes n b less = slice_get-map box_rect boxes n ∙ ap (option_map box_rect) (slice_get-get_or boxes n b less)
