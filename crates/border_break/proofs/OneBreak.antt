-- A corner has one answer.
use Rattle.std.proofs.Common.{◌≡◌, ℕ, Option, None, inl, inr, refl, ap, subst, arith}
use Rattle.std.proofs.lemmas.Bool.{cases_lt}
use Rattle.umix_base.specs.declared.place.Place.{Place}
use Rattle.two_d.specs.Cells.{Grid, cell}
use Rattle.two_d.specs.Frames.{InColumn, InRow}
use Rattle.two_d.specs.Places.{IsLeast, at}
use Rattle.border_break.specs.declared.figure.Break.{Break}
use Rattle.border_break.specs.declared.figure.Figure.{Figure}
use Rattle.border_break.specs.declared.figure.Side.TheVariants.{Top, Left, Bottom, Right}
use Rattle.border_break.specs.Borders.{IsOfBottom, IsOfSide, lower_corner, upper_corner}
use Rattle.border_break.specs.Breaks.{BreaksBottom, BreaksRight, IsBreak, LeftCloses, LeftEnds}
use Rattle.border_break.specs.Breaks.{TopCloses, TopEnds, break_at, bottom, closed, last_corner, left, no_corner}
use Rattle.border_break.specs.Breaks.{right, top}

one_least : (P : ℕ → Type 0) (i j : ℕ) → IsLeast P i → IsLeast P j → i ≡ j
one_least P i j a b = elim (cases_lt i j) [
  | inl less ↦ absurd (b.none_below i less a.holds)
  | inr least ↦ elim (cases_lt j i) [
    | inl more ↦ absurd (a.none_below j more b.holds)
    | inr most ↦ omega (arith, least, most)
  ]
]

one_right : (grid : Grid) (f : Figure) (p : Place) (r s : ℕ) → TopEnds grid f p r → TopEnds grid f p s → r ≡ s
one_right grid f p r s a b = elim (cases_lt r s) [
  | inl less ↦ absurd (a.ends (b.goes_on r a.east less))
  | inr least ↦ elim (cases_lt s r) [
    | inl more ↦ absurd (b.ends (a.goes_on s b.east more))
    | inr most ↦ omega (arith, least, most)
  ]
]

one_bottom : (grid : Grid) (f : Figure) (p : Place) (r s : ℕ) → LeftEnds grid f p r → LeftEnds grid f p s → r ≡ s
one_bottom grid f p r s a b = elim (cases_lt r s) [
  | inl less ↦ absurd (a.ends (b.goes_on r a.below less))
  | inr least ↦ elim (cases_lt s r) [
    | inl more ↦ absurd (b.ends (a.goes_on s b.below more))
    | inr most ↦ omega (arith, least, most)
  ]
]

-- what is found behind the left side, where the top and it close
data Behind (grid : Grid) (f : Figure) (p : Place) (r b : ℕ) : Option Break → Type 0 where
  gap : (col : ℕ) → IsLeast (BreaksBottom grid f b p.col r) col → Behind grid f p r b (break_at Bottom b col)
  corner : InRow (IsOfBottom f) grid b p.col r → (cell grid (at b r) ≡ lower_corner f → ⊥) →
      Behind grid f p r b (break_at Bottom b r)
  side : (row : ℕ) → InRow (IsOfBottom f) grid b p.col r → cell grid (at b r) ≡ lower_corner f →
      IsLeast (BreaksRight grid f r p.row b) row → Behind grid f p r b (break_at Right row r)
  none : InRow (IsOfBottom f) grid b p.col r → cell grid (at b r) ≡ lower_corner f →
      InColumn (IsOfSide f) grid r p.row b → Behind grid f p r b None

gapless : (grid : Grid) (f : Figure) (p : Place) (r b col : ℕ) → IsLeast (BreaksBottom grid f b p.col r) col →
    InRow (IsOfBottom f) grid b p.col r → ⊥
gapless grid f p r b col least run = least.holds.lacks (run col least.holds.after least.holds.before)

sideless : (grid : Grid) (f : Figure) (p : Place) (r b row : ℕ) → IsLeast (BreaksRight grid f r p.row b) row →
    InColumn (IsOfSide f) grid r p.row b → ⊥
sideless grid f p r b row least run = least.holds.lacks (run row least.holds.after least.holds.before)

one_behind : (grid : Grid) (f : Figure) (p : Place) (r b : ℕ) (x y : Option Break) →
    Behind grid f p r b x → Behind grid f p r b y → x ≡ y
one_behind grid f p r b _ _ (gap c least) (gap d other) = ap (break_at Bottom b) (one_least _ c d least other)
one_behind grid f p r b _ _ (gap c least) (corner run lacks) = absurd (gapless grid f p r b c least run)
one_behind grid f p r b _ _ (gap c least) (side row run is other) = absurd (gapless grid f p r b c least run)
one_behind grid f p r b _ _ (gap c least) (none run is all) = absurd (gapless grid f p r b c least run)
one_behind grid f p r b _ _ (corner run lacks) (gap c least) = absurd (gapless grid f p r b c least run)
one_behind grid f p r b _ _ (corner run lacks) (corner again other) = refl
one_behind grid f p r b _ _ (corner run lacks) (side row again is least) = absurd (lacks is)
one_behind grid f p r b _ _ (corner run lacks) (none again is all) = absurd (lacks is)
one_behind grid f p r b _ _ (side row run is least) (gap c other) = absurd (gapless grid f p r b c other run)
one_behind grid f p r b _ _ (side row run is least) (corner again lacks) = absurd (lacks is)
one_behind grid f p r b _ _ (side row run is least) (side other again too next) =
    ap (λ (k : ℕ). break_at Right k r) (one_least _ row other least next)
one_behind grid f p r b _ _ (side row run is least) (none again too all) = absurd (sideless grid f p r b row least all)
one_behind grid f p r b _ _ (none run is all) (gap c least) = absurd (gapless grid f p r b c least run)
one_behind grid f p r b _ _ (none run is all) (corner again lacks) = absurd (lacks is)
one_behind grid f p r b _ _ (none run is all) (side row again too least) = absurd (sideless grid f p r b row least all)
one_behind grid f p r b _ _ (none run is all) (none again too more) = refl

-- an answer by how far the border closes
data Sorted (grid : Grid) (f : Figure) (p : Place) : Option Break → Type 0 where
  nowhere : (cell grid p ≡ upper_corner f → ⊥) → Sorted grid f p None
  at_top : (r : ℕ) → cell grid p ≡ upper_corner f → TopEnds grid f p r →
      (cell grid (at p.row r) ≡ upper_corner f → ⊥) → Sorted grid f p (break_at Top p.row r)
  at_left : (r b : ℕ) → TopCloses grid f p r → LeftEnds grid f p b →
      (cell grid (at b p.col) ≡ lower_corner f → ⊥) → Sorted grid f p (break_at Left b p.col)
  behind : (r b : ℕ) (x : Option Break) → LeftCloses grid f p r b → Behind grid f p r b x → Sorted grid f p x

sorted : (grid : Grid) (f : Figure) (p : Place) (x : Option Break) → IsBreak grid f p x → Sorted grid f p x
sorted grid f p _ (no_corner lacks) = nowhere lacks
sorted grid f p _ (top r from ends lacks) = at_top r from ends lacks
sorted grid f p _ (left r b closes ends lacks) = at_left r b closes ends lacks
sorted grid f p _ (bottom r b col closes least) = behind r b _ closes (gap col least)
sorted grid f p _ (last_corner r b closes run lacks) = behind r b _ closes (corner run lacks)
sorted grid f p _ (right r b row closes least) =
    behind r b _ closes.before (side row closes.bottom_is closes.to least)
sorted grid f p _ (closed r b closes all) = behind r b _ closes.before (none closes.bottom_is closes.to all)

-- the top closes here, and it doesn't
top_both : (grid : Grid) (f : Figure) (p : Place) (r s : ℕ) → TopEnds grid f p r →
    (cell grid (at p.row r) ≡ upper_corner f → ⊥) → TopCloses grid f p s → ⊥
top_both grid f p r s ends lacks closes =
    lacks (subst (λ (k : ℕ). cell grid (at p.row k) ≡ upper_corner f) (one_right grid f p s r closes.top ends) closes.to)

left_both : (grid : Grid) (f : Figure) (p : Place) (b c r : ℕ) → LeftEnds grid f p b →
    (cell grid (at b p.col) ≡ lower_corner f → ⊥) → LeftCloses grid f p r c → ⊥
left_both grid f p b c r ends lacks closes =
    lacks (subst (λ (k : ℕ). cell grid (at k p.col) ≡ lower_corner f) (one_bottom grid f p c b closes.left ends) closes.to)

behind_here : (grid : Grid) (f : Figure) (p : Place) (r b s c : ℕ) (x : Option Break) → LeftCloses grid f p r b →
    LeftCloses grid f p s c → Behind grid f p s c x → Behind grid f p r b x
behind_here grid f p r b s c x here there found =
    subst (λ (k : ℕ). Behind grid f p k b x) (one_right grid f p s r there.before.top here.before.top)
    (subst (λ (k : ℕ). Behind grid f p s k x) (one_bottom grid f p c b there.left here.left) found)

one_sorted : (grid : Grid) (f : Figure) (p : Place) (x y : Option Break) → Sorted grid f p x → Sorted grid f p y → x ≡ y
one_sorted grid f p _ _ (nowhere lacks) (nowhere other) = refl
one_sorted grid f p _ _ (nowhere lacks) (at_top r from ends short) = absurd (lacks from)
one_sorted grid f p _ _ (nowhere lacks) (at_left r b closes ends short) = absurd (lacks closes.from)
one_sorted grid f p _ _ (nowhere lacks) (behind r b y closes found) = absurd (lacks closes.before.from)
one_sorted grid f p _ _ (at_top r from ends short) (nowhere lacks) = absurd (lacks from)
one_sorted grid f p _ _ (at_top r from ends short) (at_top s too other not) =
    ap (break_at Top p.row) (one_right grid f p r s ends other)
one_sorted grid f p _ _ (at_top r from ends short) (at_left s b closes other not) = absurd (top_both grid f p r s ends short closes)
one_sorted grid f p _ _ (at_top r from ends short) (behind s b y closes found) =
    absurd (top_both grid f p r s ends short closes.before)
one_sorted grid f p _ _ (at_left r b closes ends short) (nowhere lacks) = absurd (lacks closes.from)
one_sorted grid f p _ _ (at_left r b closes ends short) (at_top s from other not) = absurd (top_both grid f p s r other not closes)
one_sorted grid f p _ _ (at_left r b closes ends short) (at_left s c again other not) =
    ap (λ (k : ℕ). break_at Left k p.col) (one_bottom grid f p b c ends other)
one_sorted grid f p _ _ (at_left r b closes ends short) (behind s c y again found) =
    absurd (left_both grid f p b c s ends short again)
one_sorted grid f p _ _ (behind r b x closes found) (nowhere lacks) = absurd (lacks closes.before.from)
one_sorted grid f p _ _ (behind r b x closes found) (at_top s from ends short) =
    absurd (top_both grid f p s r ends short closes.before)
one_sorted grid f p _ _ (behind r b x closes found) (at_left s c again ends short) =
    absurd (left_both grid f p c b r ends short closes)
one_sorted grid f p _ _ (behind r b x closes found) (behind s c y again other) =
    one_behind grid f p r b x y found (behind_here grid f p r b s c y closes again other)

pub one_break : (grid : Grid) (f : Figure) (p : Place) (x y : Option Break) → IsBreak grid f p x → IsBreak grid f p y → x ≡ y
one_break grid f p x y a b = one_sorted grid f p x y (sorted grid f p x a) (sorted grid f p y b)
