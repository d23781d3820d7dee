-- A reading has one answer.
use Rattle.std.proofs.Common.{◌≡◌, ◌⊎◌, ℕ, ◌+◌, ◌<◌, inl, inr, List, [], ◌∷◌, ◌++◌, length, get_or, Result, Ok, Err, Some, refl, sym, subst, ap, ◌∙◌, append_assoc, arith}
use Rattle.std.proofs.lemmas.Bool.{cases_order}
use Rattle.std.proofs.lemmas.Grind.{common_steps}
use Rattle.std.specs.List.{Contains}
use Rattle.std.proofs.lemmas.List.Elements.{Contains-append_left, Contains-append_right, Contains-append_cases}
use Rattle.umix_base.specs.declared.place.Place.{Place}
use Rattle.two_d.specs.Places.{at, Before, InReadingOrder, IsLeast, Rect}
use Rattle.two_d.specs.Faults.{TextFault, too_long, bad_byte, line_too_long, open_frame, frames_meet, two_entries, no_name, open_box, boxes_meet}
use Rattle.two_d.specs.Reading.{Reading, Gave, gave, Then, goes_on, stops, The, it, TheOr, found, missing, Refused, refused, passed, RefusedAt, refused_at, none, Told, went, failed, each, each_after}
use Rattle.two_d.specs.Figures as figures
use Rattle.std.proofs.lemmas.List.{same_lists, get_or_default}
use Rattle.std.specs.Str.Lines.{lines}
use Rattle.two_d.specs.Cells.{Grid, grid_of, place_at, IsBadByte, IsTooLong}
use Rattle.two_d.specs.Names.{IsNameByte}
use Rattle.two_d.specs.Frames.{IsCorner, IsFrame, IsSecond, IsNameOf, north_entries, west_entries, one_entry_a_side, first_inner, frames_of, name_of}
use Rattle.two_d.specs.Boxes.{IsBoxCorner, IsBox, boxes_of}
use Rattle.two_d.proofs.FrameAt.{frame-one}
use Rattle.two_d.proofs.BoxAt.{box-one}
use Rattle.two_d.proofs.Equal.{equal_places}
use Rattle.two_d.proofs.ReadingOrder.{Before-irreflexive, Before-asymmetric, Before-transitive}

abbrev pub HasOneAnswer : {F A : Type 0} → Reading F A → Type 0
HasOneAnswer {F = F} {A = A} m = (r s : Result A F) → m r → m s → r ≡ s

-- at most one has the property
abbrev pub IsOne : {A : Type 0} → (A → Type 0) → Type 0
IsOne {A} P = (x y : A) → P x → P y → x ≡ y

pub gave_one : {F A : Type 0} (x : A) → HasOneAnswer (Gave {F = F} x)
gave_one x _ _ gave gave = refl

pub the_one : {F A : Type 0} (P : A → Type 0) → IsOne P → HasOneAnswer (The {F = F} P)
the_one P one _ _ (it x p) (it y q) = ap Ok (one x y p q)

pub the_or_one : {F A : Type 0} (f : F) (P : A → Type 0) → IsOne P → HasOneAnswer (TheOr f P)
the_or_one f P one _ _ (found x p) (found y q) = ap Ok (one x y p q)
the_or_one f P one _ _ (found x p) (missing not_so) = absurd (not_so x p)
the_or_one f P one _ _ (missing not_so) (found y q) = absurd (not_so y q)
the_or_one f P one _ _ (missing not_so) (missing _) = refl

pub refused_one : {F : Type 0} (f : F) (P : Type 0) → HasOneAnswer (Refused f P)
refused_one f P _ _ (refused p) (refused q) = refl
refused_one f P _ _ (refused p) (passed not_so) = absurd (not_so p)
refused_one f P _ _ (passed not_so) (refused q) = absurd (not_so q)
refused_one f P _ _ (passed not_so) (passed _) = refl

pub refused_at_one : {F A : Type 0} (f : A → F) (P : A → Type 0) → IsOne P → HasOneAnswer (RefusedAt f P)
refused_at_one f P one _ _ (refused_at x p) (refused_at y q) = ap (λ z. Err (f z)) (one x y p q)
refused_at_one f P one _ _ (refused_at x p) (none not_so) = absurd (not_so x p)
refused_at_one f P one _ _ (none not_so) (refused_at y q) = absurd (not_so y q)
refused_at_one f P one _ _ (none not_so) (none _) = refl

pub then_one : {F A B : Type 0} (m : Reading F A) (k : A → Reading F B) → HasOneAnswer m → ((x : A) → HasOneAnswer (k x)) → HasOneAnswer (Then m k)
then_one m k first next r s (goes_on x p q) (goes_on y u v) =
    let same : x ≡ y = (let e = first (Ok x) (Ok y) p u in cc) in
    next y r s (subst (λ z. k z r) same q) v
then_one m k first next r _ (goes_on x p q) (stops f u) = absurd (let e = first (Ok x) (Err f) p u in cc)
then_one m k first next _ s (stops f p) (goes_on y u v) = absurd (let e = first (Err f) (Ok y) p u in cc)
then_one m k first next _ _ (stops f p) (stops g u) = let e = first (Err f) (Err g) p u in cc

pub each_after_one : {F A B : Type 0} (k : List B → A → Reading F B) → ((before : List B) (x : A) → HasOneAnswer (k before x)) → (before : List B) (xs : List A) → HasOneAnswer (each_after k before xs)
each_after_one k one before [] = gave_one before
each_after_one k one before (x ∷ xs) =
    then_one (k before x) (λ y. each_after k (before ++ y ∷ []) xs) (one before x) (λ y. each_after_one k one (before ++ y ∷ []) xs)

-- what comes after may rest on what was read
pub then_one_of : {F A B : Type 0} (m : Reading F A) (k : A → Reading F B) → HasOneAnswer m → ((x : A) → m (Ok x) → HasOneAnswer (k x)) → HasOneAnswer (Then m k)
then_one_of m k first next r s (goes_on x p q) (goes_on y u v) =
    let same : x ≡ y = (let e = first (Ok x) (Ok y) p u in cc) in
    next y u r s (subst (λ z. k z r) same q) v
then_one_of m k first next r _ (goes_on x p q) (stops f u) = absurd (let e = first (Ok x) (Err f) p u in cc)
then_one_of m k first next _ s (stops f p) (goes_on y u v) = absurd (let e = first (Err f) (Ok y) p u in cc)
then_one_of m k first next _ _ (stops f p) (stops g u) = let e = first (Err f) (Err g) p u in cc

pub after_one_of : {F A B : Type 0} (k : List B → A → Reading F B) (xs : List A) → ((before : List B) (x : A) → Contains xs x → HasOneAnswer (k before x)) → (before : List B) → HasOneAnswer (each_after k before xs)
after_one_of k [] one before = gave_one before
after_one_of k (x ∷ xs) one before =
    then_one (k before x) (λ y. each_after k (before ++ y ∷ []) xs) (one before x (0, omega arith, refl))
    (λ y. after_one_of k xs (λ earlier z there. one earlier z (Contains-append_right (x ∷ []) xs z there)) (before ++ y ∷ []))

pub list_one_of : {F A B : Type 0} (k : A → Reading F B) (xs : List A) → ((x : A) → Contains xs x → HasOneAnswer (k x)) → HasOneAnswer (each k xs)
list_one_of k [] one = gave_one []
list_one_of k (x ∷ xs) one =
    then_one (k x) (λ y. Then (each k xs) (λ ys. Gave (y ∷ ys))) (one x (0, omega arith, refl))
    (λ y. then_one (each k xs) (λ ys. Gave (y ∷ ys)) (list_one_of k xs (λ z there. one z (Contains-append_right (x ∷ []) xs z there))) (λ ys. gave_one (y ∷ ys)))

pub told_one : {F G A : Type 0} (tell : F → G) (m : Reading F A) → HasOneAnswer m → HasOneAnswer (Told tell m)
told_one tell m one _ _ (went x p) (went y q) = let e = one (Ok x) (Ok y) p q in cc
told_one tell m one _ _ (went x p) (failed g q) = absurd (let e = one (Ok x) (Err g) p q in cc)
told_one tell m one _ _ (failed f p) (went y q) = absurd (let e = one (Err f) (Ok y) p q in cc)
told_one tell m one _ _ (failed f p) (failed g q) = let e = one (Err f) (Err g) p q in let same : f ≡ g = cc in ap (λ h. Err (tell h)) same

pub least_one : (P : ℕ → Type 0) → IsOne (IsLeast P)
least_one P i j h g = elim (cases_order i j) [
  | inl same ↦ same
  | inr (inl less) ↦ absurd (g.none_below i less h.holds)
  | inr (inr more) ↦ absurd (h.none_below j more g.holds)
]

-- what stands in front of a place of a list in reading order, and what stands behind it
in_front : (front behind : List Place) (p q : Place) → InReadingOrder (front ++ p ∷ behind) → Contains front q → Before q p
in_front front behind p q order (k, lt, is) =
    let low : get_or (front ++ p ∷ behind) k q ≡ q = grind (arith, common_steps) in
    let high : get_or (front ++ p ∷ behind) (length front) q ≡ p = grind (arith, common_steps) in
    let long : length front < length (front ++ p ∷ behind) = grind (arith, common_steps) in
    subst (λ x. Before q x) high (subst (λ x. Before x (get_or (front ++ p ∷ behind) (length front) q)) low (order k (length front) q lt long))

is_behind : (front behind : List Place) (p q : Place) → InReadingOrder (front ++ p ∷ behind) → Contains behind q → Before p q
is_behind front behind p q order (k, lt, is) =
    let low : get_or (front ++ p ∷ behind) (length front) q ≡ p = grind (arith, common_steps) in
    let high : get_or (front ++ p ∷ behind) (length front + (1 + k)) q ≡ q = grind (arith, common_steps) in
    let long : length front + (1 + k) < length (front ++ p ∷ behind) = grind (arith, common_steps) in
    subst (λ x. Before x q) low (subst (λ x. Before (get_or (front ++ p ∷ behind) (length front) q) x) high (order (length front) (length front + (1 + k)) q (omega arith) long))

pub in_order_or : (p q : Place) → Before p q ⊎ (p ≡ q) ⊎ Before q p
in_order_or p q = elim (cases_order p.row q.row) [
  | inl row ↦ elim (cases_order p.col q.col) [
    | inl col ↦ inr (inl (equal_places p q row col))
    | inr (inl less) ↦ inl (inr (row, less))
    | inr (inr more) ↦ inr (inr (inr (sym row, more)))
  ]
  | inr (inl less) ↦ inl (inl less)
  | inr (inr more) ↦ inr (inr (inl more))
]

contains_here : (front behind : List Place) (p : Place) → Contains (front ++ p ∷ behind) p
contains_here front behind p = Contains-append_right front (p ∷ behind) p (0, grind (arith, common_steps), refl)

behind_or_here : (behind : List Place) (p q : Place) → Contains (p ∷ behind) q → (p ≡ q) ⊎ Contains behind q
behind_or_here behind p q member = elim (Contains-append_cases (p ∷ []) behind q member) [
  | inl (k, lt, is) ↦ inl (let first : k ≡ 0 = grind (arith, common_steps) in subst (λ i. get_or (p ∷ []) i q ≡ q) first is)
  | inr m ↦ inr m
]

module _ (Corner : Place → Type 0) (Figure : Place → Rect → Type 0) where
  -- Two lists of live corners begin alike, and one goes on with p: in the other p isn't passed over.
  not_passed_over : (front xs ys : List Place) (p : Place) → figures.AreLive Corner Figure (front ++ xs) → figures.AreLive Corner Figure (front ++ p ∷ ys) → ((q : Place) → Contains xs q → Before p q) → ⊥
  not_passed_over front xs ys p one other late =
      let live = (other.each p).0 (contains_here front ys p) in
      let free : figures.IsFree Corner Figure (front ++ xs) p = (λ q f member before. elim (Contains-append_cases front xs q member) [
        | inl m ↦ live.2 q f (Contains-append_left front (p ∷ ys) q m) before
        | inr m ↦ absurd (Before-asymmetric p q (late q m) before)
      ]) in
      elim (Contains-append_cases front xs p ((one.each p).1 (tt, live.1, free))) [
        | inl m ↦ Before-irreflexive p (in_front front ys p p other.in_order m)
        | inr m ↦ Before-irreflexive p (late p m)
      ]

  -- p and what stands behind it are behind what stands before p
  all_late : (front xs : List Place) (p q : Place) → InReadingOrder (front ++ p ∷ xs) → Before q p → (r : Place) → Contains (p ∷ xs) r → Before q r
  all_late front xs p q order before r member = elim (behind_or_here xs p r member) [
    | inl same ↦ subst (Before q) same before
    | inr m ↦ Before-transitive q p r before (is_behind front xs p r order m)
  ]

  same_rest : (front xs ys : List Place) → figures.AreLive Corner Figure (front ++ xs) → figures.AreLive Corner Figure (front ++ ys) → xs ≡ ys
  same_rest front [] [] one other = refl
  same_rest front [] (q ∷ ys) one other = absurd (not_passed_over front [] ys q one other (λ r (k, lt, is). absurd (omega arith)))
  same_rest front (p ∷ xs) [] one other = absurd (not_passed_over front [] xs p other one (λ r (k, lt, is). absurd (omega arith)))
  same_rest front (p ∷ xs) (q ∷ ys) one other = elim (in_order_or p q) [
    | inl before ↦ absurd (not_passed_over front (q ∷ ys) xs p other one (all_late front ys q p other.in_order before))
    | inr (inl same) ↦ (let rest = same_rest (front ++ p ∷ []) xs ys (subst (figures.AreLive Corner Figure) (sym (append_assoc front (p ∷ []) xs)) one) (subst (λ x. figures.AreLive Corner Figure ((front ++ x ∷ []) ++ ys)) (sym same) (subst (figures.AreLive Corner Figure) (sym (append_assoc front (q ∷ []) ys)) other)) in cc)
    | inr (inr after) ↦ absurd (not_passed_over front (p ∷ xs) ys q one other (all_late front xs p q one.in_order after))
  ]

  pub live_one : IsOne (figures.AreLive Corner Figure)
  live_one xs ys one other = same_rest [] xs ys one other

  pub figures_one : (opens meets : Place → TextFault) (further : Rect → Reading TextFault (Unit {0})) → ((p : Place) → IsOne (Figure p)) → ((f : Rect) → HasOneAnswer (further f)) → HasOneAnswer (figures.figures_of Corner Figure opens meets further)
  figures_one opens meets further one more =
      then_one (The (figures.AreLive Corner Figure)) (λ live. each_after (figures.figure_at Corner Figure opens meets further) [] live)
      (the_one (figures.AreLive Corner Figure) live_one)
      (λ live. each_after_one (figures.figure_at Corner Figure opens meets further) each [] live)
    where
      each : (earlier : List Rect) (p : Place) → HasOneAnswer (figures.figure_at Corner Figure opens meets further earlier p)
      each earlier p =
          then_one _ _ (the_or_one (opens p) (Figure p) (one p))
          (λ f. then_one _ _ (refused_one (meets p) _) (λ _. then_one _ _ (more f) (λ _. gave_one f)))

second_one : (ns : List ℕ) → IsOne (IsSecond ns)
second_one ns m n h g = let e : Some m ≡ Some n = sym h ∙ g in cc

name_one : (grid : Grid) (f : Rect) → IsOne (IsNameOf grid f)
name_one grid f a b h g = elim (cases_order (length a) (length b)) [
  | inl same ↦ same_lists a b same (λ k d within. get_or_default a k d 0 within ∙ (sym (h.written k within) ∙ g.written k (omega arith)) ∙ get_or_default b k 0 d (omega arith))
  | inr (inl less) ↦ absurd (h.longest (subst IsNameByte (sym (g.written (length a) less)) (g.valid.letters (length a) 0 less)))
  | inr (inr more) ↦ absurd (g.longest (subst IsNameByte (sym (h.written (length b) more)) (h.valid.letters (length b) 0 more)))
]

-- the four readings of a grid
pub one_grid : (text : List ℕ) → HasOneAnswer (grid_of text)
one_grid text =
    then_one _ _ (refused_one too_long (262144 < length text)) (λ _. then_one _ _ (refused_at_one (λ i. bad_byte (place_at text i)) (IsLeast (IsBadByte text)) (least_one (IsBadByte text))) (λ _. then_one _ _ (refused_at_one (λ i. line_too_long (at (i + 1) 4097)) (IsLeast (IsTooLong (lines text))) (least_one (IsTooLong (lines text)))) (λ _. gave_one (lines text))))

pub one_list_of_frames : (grid : Grid) → HasOneAnswer (frames_of grid)
one_list_of_frames grid = figures_one (IsCorner grid) (IsFrame grid) open_frame frames_meet (one_entry_a_side grid) (frame-one grid) (λ f.
    then_one _ _ (refused_at_one (λ col. two_entries (at f.top col)) (IsSecond (north_entries grid f)) (second_one (north_entries grid f))) (λ _. refused_at_one (λ row. two_entries (at row f.left)) (IsSecond (west_entries grid f)) (second_one (west_entries grid f))))

pub one_name : (grid : Grid) (f : Rect) → HasOneAnswer (name_of grid f)
one_name grid f = the_or_one (no_name (first_inner f)) (IsNameOf grid f) (name_one grid f)

pub one_list_of_boxes : (grid : Grid) (f : Rect) → HasOneAnswer (boxes_of grid f)
one_list_of_boxes grid f = figures_one (IsBoxCorner grid f) (IsBox grid f) open_box boxes_meet (λ _. Gave tt) (box-one grid f) (λ _. gave_one tt)
