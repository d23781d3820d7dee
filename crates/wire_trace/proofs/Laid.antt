-- The boxes of a frame lie in it, and no two of them share a cell.
use Rattle.std.proofs.Common.{◌≡◌, ℕ, ◌⊎◌, ◌++◌, inl, inr, List, [], ◌∷◌, get_or, Result, Ok, Some, refl, sym, subst, arith}
use Rattle.std.specs.List.{All, Any, AllPairs, slice_get}
use Rattle.std.proofs.lemmas.Bool.{cases_order}
use Rattle.std.proofs.lemmas.List.Elements.{All-push}
use Rattle.std.proofs.lemmas.List.{get_or_default}
use Rattle.std.proofs.lemmas.List.Quantifiers.{all_pairs_push}
use Rattle.std.proofs.lemmas.Option.{slice_get_within, get_or_from_slice_get}
use Rattle.umix_base.specs.declared.place.Place.{Place}
use Rattle.two_d.specs.Places.{Rect, Within, OnBorder, ShareACell}
use Rattle.two_d.specs.Faults.{TextFault}
use Rattle.two_d.specs.Reading.{Reading, Gave, Refused, TheOr, each_after, found, missing, refused, passed}
use Rattle.two_d.specs.Cells.{Grid}
use Rattle.two_d.specs.Boxes.{IsBox, box_kind, boxes_of}
use Rattle.two_d.specs.Figures as figures
use Rattle.two_d.proofs.InOrder.{then_ok, gave_is}
use Rattle.grid_reader.specs.Boxes.{Fits}

found_is : {F A : Type 0} (f : F) (P : A → Type 0) (r : Result A F) (x : A) → r ≡ Ok x → TheOr f P r → P x
found_is f P _ x is (found y p) = let e : y ≡ x = cc in subst P e p
found_is f P _ x is (missing none) = absurd (cc)

passed_is : {F : Type 0} (f : F) (P : Type 0) (r : Result (Unit {0}) F) → r ≡ Ok tt → Refused f P r → P → ⊥
passed_is f P _ is (refused p) = absurd (cc)
passed_is f P _ is (passed none) = none

abbrev IsFigure : (Place → Rect → Type 0) → Rect → Type 0
IsFigure Figure f = (p : Place) × Figure p f

abbrev AreApart : List Rect → Type 0
AreApart fs = AllPairs (λ a b. ShareACell b a → ⊥) fs

figure_free : (Corner : Place → Type 0) (Figure : Place → Rect → Type 0) (opens meets : Place → TextFault) (further : Rect → Reading TextFault (Unit {0})) (earlier : List Rect) (p : Place) (y : Rect)
    → figures.figure_at Corner Figure opens meets further earlier p (Ok y) → Figure p y × (Any (λ e. OnBorder e p ⊎ ShareACell y e) earlier → ⊥)
figure_free Corner Figure opens meets further earlier p y t =
    let (f, is, more) = then_ok _ _ y t in
    let (u, free, last) = then_ok _ _ y more in
    let (v, also, given) = then_ok (further f) (λ _. Gave f) y last in
    let e : f ≡ y = (let x = gave_is f (Ok y) given in cc) in (
      subst (Figure p) e (found_is (opens p) (Figure p) (Ok f) f refl is),
      subst (λ z. Any (λ e. OnBorder e p ⊎ ShareACell z e) earlier → ⊥) e (passed_is (meets p) (Any (λ e. OnBorder e p ⊎ ShareACell f e) earlier) (Ok u) refl free),
    )

figures_apart : (Corner : Place → Type 0) (Figure : Place → Rect → Type 0) (opens meets : Place → TextFault) (further : Rect → Reading TextFault (Unit {0})) (earlier : List Rect) (live : List Place) (fs : List Rect)
    → each_after (figures.figure_at Corner Figure opens meets further) earlier live (Ok fs) → All (IsFigure Figure) earlier → AreApart earlier → All (IsFigure Figure) fs × AreApart fs
figures_apart Corner Figure opens meets further earlier [] fs t all apart = (let e = gave_is earlier (Ok fs) t in let same : earlier ≡ fs = cc in (subst (All (IsFigure Figure)) same all, subst AreApart same apart))
figures_apart Corner Figure opens meets further earlier (p ∷ ps) fs t all apart =
    let (y, here, rest) = then_ok (figures.figure_at Corner Figure opens meets further earlier p) (λ y. each_after (figures.figure_at Corner Figure opens meets further) (earlier ++ y ∷ []) ps) fs t in
    let free = figure_free Corner Figure opens meets further earlier p y here in
    figures_apart Corner Figure opens meets further (earlier ++ y ∷ []) ps fs rest
    (All-push (IsFigure Figure) earlier y all (p, free.0))
    (all_pairs_push (λ a b. ShareACell b a → ⊥) earlier y apart (λ k d less share. free.1 (k, get_or earlier k d, less, get_or_default earlier k (get_or earlier k d) d less, inr share)))

box_fits : (grid : Grid) (f b : Rect) (p : Place) → IsBox grid f p b → Fits f b
box_fits grid f b p box = record {
  corner = subst (Within f) (sym box.corner) box.within.0;
  end = box.within.1;
  wide = box.wide;
  high = box.high;
}

-- two places of the list
share_swap : (a b : Rect) → ShareACell a b → ShareACell b a
share_swap a b (p, in_a, in_b) = (p, in_b, in_a)

pub boxes_fit : (grid : Grid) (f : Rect) (boxes : List Rect) → boxes_of grid f (Ok boxes) → (i : ℕ) (b : Rect) → slice_get boxes i ≡ Some b → Fits f b
boxes_fit grid f boxes t i b there =
    let kind = box_kind grid f in
    let (live, is, all) = then_ok _ _ boxes t in
    let h = figures_apart kind.corner kind.figure kind.opens kind.meets kind.further [] live boxes all (λ k d lt. absurd (omega arith)) (λ k j d less lt. absurd (omega arith)) in
    let one = h.0 i b (slice_get_within boxes i b there) in
    let e = get_or_from_slice_get boxes i b b there in
    box_fits grid f b one.0 (subst (kind.figure one.0) e one.1)

pub boxes_apart : (grid : Grid) (f : Rect) (boxes : List Rect) → boxes_of grid f (Ok boxes) → (i j : ℕ) (a b : Rect) → slice_get boxes i ≡ Some a → slice_get boxes j ≡ Some b → ShareACell a b → i ≡ j
boxes_apart grid f boxes t i j a b at_i at_j share =
    let kind = box_kind grid f in
    let (live, is, all) = then_ok _ _ boxes t in
    let h = figures_apart kind.corner kind.figure kind.opens kind.meets kind.further [] live boxes all (λ k d lt. absurd (omega arith)) (λ k l d less lt. absurd (omega arith)) in
    elim (cases_order i j) [
      | inl same ↦ same
      | inr (inl less) ↦ absurd (h.1 i j b less (slice_get_within boxes j b at_j)
          (subst (λ x. ShareACell x (get_or boxes i b)) (sym (get_or_from_slice_get boxes j b b at_j)) (subst (ShareACell b) (sym (get_or_from_slice_get boxes i a b at_i)) (share_swap a b share))))
      | inr (inr more) ↦ absurd (h.1 j i a more (slice_get_within boxes i a at_i)
          (subst (λ x. ShareACell x (get_or boxes j a)) (sym (get_or_from_slice_get boxes i a a at_i)) (subst (ShareACell a) (sym (get_or_from_slice_get boxes j b a at_j)) share)))
    ]
