-- Wires are laid leg by leg.
use Rattle.std.specs.Prelude.{◌≡◌, ◌+◌, ◌*◌, ◌<◌, ◌≤◌, ◌^◌, ℕ, List, [], ◌∷◌, Bool, true, false, ◌&&◌, ◌||◌, ◌==◌, length}
use Rattle.std.proofs.Common.{arith, refl, sym, ap, subst, ◌∙◌, drop, get_or}
use Rattle.std.proofs.lemmas.List.{at_drop_more, at_drop_all}
use Rattle.umix_base.specs.declared.place.Place.{Place}
use Rattle.two_d.specs.Places.{at}
use Rattle.two_d.specs.Wires.{Direction, east, west, south, north, Axis, axis_of, horizontal, vertical}
use Rattle.grid_picture.specs.Courses.{Course, Leg, along, bends_at, bent_legs, has_cell, legs, legs_from, passes, same_axis}
use Rattle.grid_draw.specs.declared.cells.CellSet.{CellSet}
use Rattle.grid_draw.specs.declared.course.Bend as coded_bend
use Rattle.grid_draw.specs.declared.course.Course as code
use Rattle.grid_draw.specs.declared.course.Leg as coded_leg
use Rattle.grid_draw.specs.declared.course.Point as coded_point
use Rattle.grid_draw.specs.declared.sheet.Sheet.{Sheet}
use Rattle.grid_draw.specs.inner.Inks.{Inks, IsBlank, IsInked, IsWhole, AreSized, passed, turned}
use Rattle.grid_draw.specs.inner.Legs.{IsCourse, IsNear, bent_of, bends_of, direction_of, form_of, legs_of, place_of, total}
use Rattle.grid_draw.specs.inner.Sets.{Gains, IsSized, has}
use Rattle.grid_draw.proofs.SetsGain.{or_false, or_or}

-- of all these cells the set lacks at most the rest
pub record Remains (old now : CellSet) (all rest : ℕ → ℕ → Bool) : Type 0 where
  pub sized : IsSized old.rows old.columns now
  pub has_both : (r c : ℕ) → r < old.rows → c < old.columns → (has now r c || rest r c) ≡ (has old r c || all r c)

pub remains_first : (old now : CellSet) (p all rest : ℕ → ℕ → Bool) → Gains old now p
    → ((r c : ℕ) → (p r c || rest r c) ≡ all r c) → Remains old now all rest
remains_first old now p all rest gains is = record {
  sized = gains.sized;
  has_both = λ r c in_r in_c.
      ap (λ (b : Bool). b || rest r c) (gains.has_both r c in_r in_c)
      ∙ (or_or (has old r c) (p r c) (rest r c) ∙ ap (λ (b : Bool). has old r c || b) (is r c));
}

pub remains_next : (old now next : CellSet) (all rest p more : ℕ → ℕ → Bool) → Remains old now all rest → Gains now next p
    → ((r c : ℕ) → (p r c || more r c) ≡ rest r c) → Remains old next all more
remains_next old now next all rest p more before gains is = record {
  sized = record {
    high = gains.sized.high ∙ before.sized.high;
    wide = gains.sized.wide ∙ before.sized.wide;
    whole = gains.sized.whole ∙ (ap (λ (n : ℕ). n * now.columns) before.sized.high ∙ ap (λ (n : ℕ). old.rows * n) before.sized.wide);
  };
  has_both = λ r c in_r in_c.
      ap (λ (b : Bool). b || more r c) (gains.has_both r c (omega (arith, before.sized.high)) (omega (arith, before.sized.wide)))
      ∙ (or_or (has now r c) (p r c) (more r c)
      ∙ (ap (λ (b : Bool). has now r c || b) (is r c) ∙ before.has_both r c in_r in_c));
}

pub remains_none : (old now : CellSet) (all rest : ℕ → ℕ → Bool) → Remains old now all rest → ((r c : ℕ) → rest r c ≡ false)
    → Gains old now all
remains_none old now all rest before none = record {
  sized = before.sized;
  has_both = λ r c in_r in_c.
      sym (ap (λ (b : Bool). has now r c || b) (none r c) ∙ or_false (has now r c)) ∙ before.has_both r c in_r in_c;
}

-- the first part of a wire is laid, not yet the rest of its legs
pub record Laying (old now : Sheet) (all bent rest : List Leg) : Type 0 where
  pub across : Remains old.across now.across (passed horizontal all) (passed horizontal rest)
  pub down : Remains old.down now.down (passed vertical all) (passed vertical rest)
  pub turns : Remains old.turns now.turns (turned bent) (turned rest)

one_then : (x y : Bool) → ((x || false) || y) ≡ (x || y)
one_then x y = ap (λ (b : Bool). b || y) (or_false x)

passed_one : (a : Axis) (leg : Leg) (rest : List Leg) (r c : ℕ) → (passed a (leg ∷ []) r c || passed a rest r c) ≡ passed a (leg ∷ rest) r c
passed_one a leg rest r c = one_then (same_axis a (axis_of leg.to) && has_cell leg.to leg.from leg.long (at r c)) (passed a rest r c)

turned_one : (leg : Leg) (rest : List Leg) (r c : ℕ) → (turned (leg ∷ []) r c || turned rest r c) ≡ turned (leg ∷ rest) r c
turned_one leg rest r c = one_then ((leg.from.row == r) && (leg.from.col == c)) (turned rest r c)

pub laying_first : (old now : Sheet) (leg : Leg) (rest : List Leg) → Inks old now (leg ∷ []) [] → Laying old now (leg ∷ rest) rest rest
laying_first old now leg rest inks = record {
  across = remains_first old.across now.across (passed horizontal (leg ∷ [])) (passed horizontal (leg ∷ rest)) (passed horizontal rest)
      inks.across (passed_one horizontal leg rest);
  down = remains_first old.down now.down (passed vertical (leg ∷ [])) (passed vertical (leg ∷ rest)) (passed vertical rest)
      inks.down (passed_one vertical leg rest);
  turns = remains_first old.turns now.turns (turned []) (turned rest) (turned rest) inks.turns (λ r c. refl);
}

pub laying_next : (old now next : Sheet) (all bent : List Leg) (leg : Leg) (more : List Leg) → Laying old now all bent (leg ∷ more)
    → Inks now next (leg ∷ []) (leg ∷ []) → Laying old next all bent more
laying_next old now next all bent leg more before inks = record {
  across = remains_next old.across now.across next.across (passed horizontal all) (passed horizontal (leg ∷ more)) (passed horizontal (leg ∷ []))
      (passed horizontal more) before.across inks.across (passed_one horizontal leg more);
  down = remains_next old.down now.down next.down (passed vertical all) (passed vertical (leg ∷ more)) (passed vertical (leg ∷ []))
      (passed vertical more) before.down inks.down (passed_one vertical leg more);
  turns = remains_next old.turns now.turns next.turns (turned bent) (turned (leg ∷ more)) (turned (leg ∷ []))
      (turned more) before.turns inks.turns (turned_one leg more);
}

pub laying_end : (old now : Sheet) (all bent : List Leg) → Laying old now all bent [] → Inks old now all bent
laying_end old now all bent before = record {
  across = remains_none old.across now.across (passed horizontal all) (passed horizontal []) before.across (λ r c. refl);
  down = remains_none old.down now.down (passed vertical all) (passed vertical []) before.down (λ r c. refl);
  turns = remains_none old.turns now.turns (turned bent) (turned []) before.turns (λ r c. refl);
}

-- the first wires are laid on a sheet that was blank, not yet the rest
pub record Inking (blank now : Sheet) (all rest : List Course) : Type 0 where
  pub across : Remains blank.across now.across (λ r c. passes horizontal all (at r c)) (λ r c. passes horizontal rest (at r c))
  pub down : Remains blank.down now.down (λ r c. passes vertical all (at r c)) (λ r c. passes vertical rest (at r c))
  pub turns : Remains blank.turns now.turns (λ r c. bends_at all (at r c)) (λ r c. bends_at rest (at r c))

pub inking_first : (blank : Sheet) (all : List Course) → IsSized blank.across.rows blank.across.columns blank.across
    → IsSized blank.down.rows blank.down.columns blank.down → IsSized blank.turns.rows blank.turns.columns blank.turns → Inking blank blank all all
inking_first blank all across down turns = record {
  across = record { sized = across; has_both = λ r c in_r in_c. refl };
  down = record { sized = down; has_both = λ r c in_r in_c. refl };
  turns = record { sized = turns; has_both = λ r c in_r in_c. refl };
}

pub inking_next : (blank now next : Sheet) (all : List Course) (one : Course) (rest : List Course) → Inking blank now all (one ∷ rest)
    → Inks now next (legs one) (bent_legs one) → Inking blank next all rest
inking_next blank now next all one rest before inks = record {
  across = remains_next blank.across now.across next.across (λ r c. passes horizontal all (at r c)) (λ r c. passes horizontal (one ∷ rest) (at r c))
      (passed horizontal (legs one)) (λ r c. passes horizontal rest (at r c)) before.across inks.across (λ r c. refl);
  down = remains_next blank.down now.down next.down (λ r c. passes vertical all (at r c)) (λ r c. passes vertical (one ∷ rest) (at r c))
      (passed vertical (legs one)) (λ r c. passes vertical rest (at r c)) before.down inks.down (λ r c. refl);
  turns = remains_next blank.turns now.turns next.turns (λ r c. bends_at all (at r c)) (λ r c. bends_at (one ∷ rest) (at r c))
      (turned (bent_legs one)) (λ r c. bends_at rest (at r c)) before.turns inks.turns (λ r c. refl);
}

-- the wire's legs are those of the course
pub same_legs : (c : code.Course) (d : Course) → IsCourse c d → (legs_of c ≡ legs d) × (bent_of c ≡ bent_legs d)
same_legs c d is =
    let corner : along (direction_of c.first.to) c.first.long (place_of c.first.from) ≡ along d.start.to d.long d.start.place
    = ap (λ (x : Direction). along x c.first.long (place_of c.first.from)) is.to
    ∙ (ap (λ (n : ℕ). along d.start.to n (place_of c.first.from)) is.long ∙ ap (λ (p : Place). along d.start.to d.long p) is.from) in
    let bent : bent_of c ≡ bent_legs d
    = ap (λ (p : Place). legs_from p (bends_of c.bends.items)) corner ∙ ap (legs_from (along d.start.to d.long d.start.place)) is.bends in
    let first : form_of c.first ≡ record { from = d.start.place; to = d.start.to; long = d.long }
    = ap (λ (p : Place). record { from = p; to = direction_of c.first.to; long = c.first.long }) is.from
    ∙ (ap (λ (x : Direction). record { from = d.start.place; to = x; long = c.first.long }) is.to
    ∙ ap (λ (n : ℕ). record { from = d.start.place; to = d.start.to; long = n }) is.long) in
    (ap (λ (l : Leg). l ∷ bent_of c) first ∙ ap (λ (ls : List Leg). record { from = d.start.place; to = d.start.to; long = d.long } ∷ ls) bent, bent)

-- the first of these bends are laid, and the pen is where the next one is
pub record LayingOn (old now : Sheet) (first : coded_leg.Leg) (bends : List coded_bend.Bend) (k : ℕ) (pen : coded_point.Point) : Type 0 where
  pub legs : Laying old now (form_of first ∷ legs_from (along (direction_of first.to) first.long (place_of first.from)) (bends_of bends))
      (legs_from (along (direction_of first.to) first.long (place_of first.from)) (bends_of bends)) (legs_from (place_of pen) (bends_of (drop k bends)))
  pub row : pen.row + total (bends_of (drop k bends)) < 2 ^ 62
  pub col : pen.col + total (bends_of (drop k bends)) < 2 ^ 62

along_row : (d : Direction) (n : ℕ) (p : Place) → (along d n p).row ≤ p.row + n
along_row east n p = omega arith
along_row west n p = omega arith
along_row south n p = omega arith
along_row north n p = omega arith

along_col : (d : Direction) (n : ℕ) (p : Place) → (along d n p).col ≤ p.col + n
along_col east n p = omega arith
along_col west n p = omega arith
along_col south n p = omega arith
along_col north n p = omega arith

pub laying_on_first : (old now : Sheet) (first : coded_leg.Leg) (bends : List coded_bend.Bend) (pen : coded_point.Point) → Inks old now (form_of first ∷ []) []
    → place_of pen ≡ along (direction_of first.to) first.long (place_of first.from)
    → first.from.row + (first.long + total (bends_of bends)) < 2 ^ 62 → first.from.col + (first.long + total (bends_of bends)) < 2 ^ 62
    → LayingOn old now first bends 0 pen
laying_on_first old now first bends pen inks is low left =
    let corner = along (direction_of first.to) first.long (place_of first.from) in
    let rest = legs_from corner (bends_of bends) in
    let down = along_row (direction_of first.to) first.long (place_of first.from) in
    let right = along_col (direction_of first.to) first.long (place_of first.from) in
    record {
      legs = subst (λ (p : Place). Laying old now (form_of first ∷ rest) rest (legs_from p (bends_of bends))) (sym is) (laying_first old now (form_of first) rest inks);
      row = omega (arith, ap (λ (p : Place). p.row) is, down, low);
      col = omega (arith, ap (λ (p : Place). p.col) is, right, left);
    }

next_bend : (bends : List coded_bend.Bend) (k : ℕ) (one : coded_bend.Bend) → k < length bends → one ≡ get_or bends k one
    → bends_of (drop k bends) ≡ (direction_of one.to, one.long) ∷ bends_of (drop (k + 1) bends)
next_bend bends k one lt is =
    at_drop_more bends_of bends k one lt ∙ ap (λ (b : coded_bend.Bend). (direction_of b.to, b.long) ∷ bends_of (drop (k + 1) bends)) (sym is)

pub laying_on_near : (old now : Sheet) (first : coded_leg.Leg) (bends : List coded_bend.Bend) (k : ℕ) (pen : coded_point.Point) (one : coded_bend.Bend) → k < length bends
    → one ≡ get_or bends k one → LayingOn old now first bends k pen → IsNear (record { from = pen; to = one.to; long = one.long })
laying_on_near old now first bends k pen one lt is before =
    let sum = ap total (next_bend bends k one lt is) in
    record { row = omega (arith, before.row, sum); col = omega (arith, before.col, sum) }

pub laying_on_next : (old now next : Sheet) (first : coded_leg.Leg) (bends : List coded_bend.Bend) (k : ℕ) (pen there : coded_point.Point) (one : coded_bend.Bend) → k < length bends
    → one ≡ get_or bends k one → LayingOn old now first bends k pen
    → Inks now next (form_of (record { from = pen; to = one.to; long = one.long }) ∷ []) (form_of (record { from = pen; to = one.to; long = one.long }) ∷ [])
    → place_of there ≡ along (direction_of one.to) one.long (place_of pen) → LayingOn old next first bends (k + 1) there
laying_on_next old now next first bends k pen there one lt is before inks end =
    let corner = along (direction_of first.to) first.long (place_of first.from) in
    let all = legs_from corner (bends_of bends) in
    let one_more = next_bend bends k one lt is in
    let sum = ap total one_more in
    let rest = bends_of (drop (k + 1) bends) in
    let down = along_row (direction_of one.to) one.long (place_of pen) in
    let right = along_col (direction_of one.to) one.long (place_of pen) in
    record {
      legs = subst (λ (p : Place). Laying old next (form_of first ∷ all) all (legs_from p rest)) (sym end)
          (laying_next old now next (form_of first ∷ all) all (form_of (record { from = pen; to = one.to; long = one.long }))
          (legs_from (along (direction_of one.to) one.long (place_of pen)) rest)
          (subst (λ (bs : List (Direction × ℕ)). Laying old now (form_of first ∷ all) all (legs_from (place_of pen) bs)) one_more before.legs) inks);
      row = omega (arith, ap (λ (p : Place). p.row) end, down, sum, before.row);
      col = omega (arith, ap (λ (p : Place). p.col) end, right, sum, before.col);
    }

pub laying_on_end : (old now : Sheet) (first : coded_leg.Leg) (bends : List coded_bend.Bend) (k : ℕ) (pen : coded_point.Point) → length bends ≤ k
    → LayingOn old now first bends k pen
    → Inks old now (form_of first ∷ legs_from (along (direction_of first.to) first.long (place_of first.from)) (bends_of bends))
    (legs_from (along (direction_of first.to) first.long (place_of first.from)) (bends_of bends))
laying_on_end old now first bends k pen le done =
    let corner = along (direction_of first.to) first.long (place_of first.from) in
    let all = legs_from corner (bends_of bends) in
    laying_end old now (form_of first ∷ all) all
    (subst (λ (bs : List (Direction × ℕ)). Laying old now (form_of first ∷ all) all (legs_from (place_of pen) bs)) (at_drop_all bends_of bends k le) done.legs)

set_after : (rows columns : ℕ) (old now : CellSet) → IsSized rows columns old → IsSized old.rows old.columns now → IsSized rows columns now
set_after rows columns old now was sized = record {
  high = sized.high ∙ was.high;
  wide = sized.wide ∙ was.wide;
  whole = sized.whole ∙ (ap (λ (n : ℕ). n * old.columns) was.high ∙ ap (λ (n : ℕ). rows * n) was.wide);
}

set_of : (rows columns r c : ℕ) (set : CellSet) → rows ≡ r → columns ≡ c → IsSized rows columns set → IsSized r c set
set_of rows columns r c set e f sized = record {
  high = sized.high ∙ e;
  wide = sized.wide ∙ f;
  whole = sized.whole ∙ (ap (λ (n : ℕ). n * columns) e ∙ ap (λ (n : ℕ). r * n) f);
}

-- a sheet keeps its size
pub sized_after : (rows columns : ℕ) (old now : Sheet) → AreSized rows columns old → IsSized old.across.rows old.across.columns now.across
    → IsSized old.down.rows old.down.columns now.down → IsSized old.turns.rows old.turns.columns now.turns → AreSized rows columns now
sized_after rows columns old now was across down turns = record {
  across = set_after rows columns old.across now.across was.across across;
  down = set_after rows columns old.down now.down was.down down;
  turns = set_after rows columns old.turns now.turns was.turns turns;
}

pub whole_of : (rows columns : ℕ) (sheet : Sheet) → AreSized rows columns sheet → IsWhole sheet
whole_of rows columns sheet sized =
    let high = sym sized.across.high in
    let wide = sym sized.across.wide in
    record {
      across = set_of rows columns sheet.across.rows sheet.across.columns sheet.across high wide sized.across;
      down = set_of rows columns sheet.across.rows sheet.across.columns sheet.down high wide sized.down;
      turns = set_of rows columns sheet.across.rows sheet.across.columns sheet.turns high wide sized.turns;
    }

-- it is whole after some legs
pub whole_laying : (old now : Sheet) (first : coded_leg.Leg) (bends : List coded_bend.Bend) (k : ℕ) (pen : coded_point.Point) → IsWhole old
    → LayingOn old now first bends k pen → IsWhole now
whole_laying old now first bends k pen whole on =
    whole_of old.across.rows old.across.columns now
    (sized_after old.across.rows old.across.columns old now whole on.legs.across.sized on.legs.down.sized on.legs.turns.sized)
