-- Each figure that was read is one, and no two of them share a cell.
use Rattle.std.specs.Prelude.{◌≡◌, ◌⊎◌, ◌<◌, ℕ, zero, suc, Result, List, [], ◌∷◌, length, take, slice_get, Some, Ok, Any}
use Rattle.std.specs.List.{Contains}
use Rattle.std.proofs.Common.{arith, refl, sym, ap, subst, ◌∙◌, inl, inr, get_or}
use Rattle.std.proofs.lemmas.Bool.{cases_order}
use Rattle.std.proofs.lemmas.Option.{slice_get_within, slice_get-get_or, get_or_from_slice_get, same_Some}
use Rattle.umix_base.specs.declared.place.Place.{Place}
use Rattle.two_d.specs.Places.{Rect, OnBorder, ShareACell, corner_of}
use Rattle.two_d.specs.Faults.{TextFault, open_box, boxes_meet, open_frame, frames_meet}
use Rattle.two_d.specs.Reading.{Reading, Gave, The, TheOr, found, missing, Refused, each_after}
use Rattle.two_d.specs.Cells.{Grid}
use Rattle.two_d.specs.Figures as figures
use Rattle.two_d.specs.Frames.{IsCorner, IsFrame, one_entry_a_side, frames_of}
use Rattle.two_d.specs.Boxes.{IsBoxCorner, IsBox, boxes_of}
use Rattle.two_d.proofs.GoodTable.{not_so}
use Rattle.two_d.proofs.InOrder.{then_ok, gave_is, each_after_gave}

found_is : {F A : Type 0} (f : F) (P : A → Type 0) (x : A) → TheOr f P (Ok x) → P x
found_is {F = F} {A = A} f P x read = by (Ok x) read refl
  where
    by : (r : Result A F) → TheOr f P r → r ≡ Ok x → P x
    by _ (found y p) e = let same : y ≡ x = cc in subst P same p
    by _ (missing none) e = absurd (cc)

pub take_place_at : {A : Type 0} (xs : List A) (i j : ℕ) (x : A) → i < j → slice_get xs i ≡ Some x → slice_get (take j xs) i ≡ Some x
take_place_at xs i zero x less is = absurd (omega arith)
take_place_at [] i (suc j) x less is = absurd (cc)
take_place_at (y ∷ ys) zero (suc j) x less is = is
take_place_at (y ∷ ys) (suc i) (suc j) x less is = take_place_at ys i j x (omega arith) is

module _ (Corner : Place → Type 0) (Figure : Place → Rect → Type 0) (opens meets : Place → TextFault) (further : Rect → Reading TextFault (Unit {0})) where
  figure_gave : (earlier : List Rect) (p : Place) (y : Rect) → figures.figure_at Corner Figure opens meets further earlier p (Ok y) → Figure p y × (Any (λ e. OnBorder e p ⊎ ShareACell y e) earlier → ⊥)
  figure_gave earlier p y done =
      let (f, first, more) = then_ok (TheOr (opens p) (Figure p)) _ y done in
      let (u, free, last) = then_ok (Refused (meets p) (Any (λ e. OnBorder e p ⊎ ShareACell f e) earlier)) _ y more in
      let (v, passed, given) = then_ok (further f) (λ _. Gave f) y last in
      let e : f ≡ y = (let x = gave_is f (Ok y) given in cc) in
      subst (λ z. Figure p z × (Any (λ e. OnBorder e p ⊎ ShareACell z e) earlier → ⊥)) e
      (found_is (opens p) (Figure p) f first, not_so (meets p) (Any (λ e. OnBorder e p ⊎ ShareACell f e) earlier) (Ok u) free refl)

  pub figures_gave : (fs : List Rect) → figures.figures_of Corner Figure opens meets further (Ok fs)
      → ((i : ℕ) (f : Rect) → slice_get fs i ≡ Some f → (p : Place) × Figure p f) × ((i j : ℕ) (f g : Rect) → i < j → slice_get fs i ≡ Some f → slice_get fs j ≡ Some g → ShareACell g f → ⊥)
  figures_gave fs done =
      let (live, is, all) = then_ok (The (figures.AreLive Corner Figure)) (λ live. each_after (figures.figure_at Corner Figure opens meets further) [] live) fs done in
      let (zs, same, long, each) = each_after_gave (figures.figure_at Corner Figure opens meets further) [] live fs all in
      by live zs same long each
    where
      by : (live : List Place) (zs : List Rect) → fs ≡ zs → length zs ≡ length live → ((i : ℕ) (x : Place) → slice_get live i ≡ Some x → (z : Rect) × (slice_get zs i ≡ Some z) × figures.figure_at Corner Figure opens meets further (take i zs) x (Ok z))
          → ((i : ℕ) (f : Rect) → slice_get fs i ≡ Some f → (p : Place) × Figure p f) × ((i j : ℕ) (f g : Rect) → i < j → slice_get fs i ≡ Some f → slice_get fs j ≡ Some g → ShareACell g f → ⊥)
      by live zs same long each = (λ i f at. let (p, facts) = one i f at in (p, facts.0), apart)
        where
          one : (i : ℕ) (f : Rect) → slice_get fs i ≡ Some f → (p : Place) × (Figure p f × (Any (λ e. OnBorder e p ⊎ ShareACell f e) (take i zs) → ⊥))
          one i f at =
              let here : slice_get zs i ≡ Some f = subst (λ l. slice_get l i ≡ Some f) same at in
              let lt = slice_get_within zs i f here in
              let p = get_or live i (corner_of f) in
              let (z, there, passed) = each i p (slice_get-get_or live i (corner_of f) (omega arith)) in
              let e : z ≡ f = same_Some z f (sym there ∙ here) in
              (p, subst (λ r. Figure p r × (Any (λ e. OnBorder e p ⊎ ShareACell r e) (take i zs) → ⊥)) e (figure_gave (take i zs) p z passed))

          apart : (i j : ℕ) (f g : Rect) → i < j → slice_get fs i ≡ Some f → slice_get fs j ≡ Some g → ShareACell g f → ⊥
          apart i j f g less at_f at_g share =
              let (p, facts) = one j g at_g in
              let here : slice_get (take j zs) i ≡ Some f = take_place_at zs i j f less (subst (λ l. slice_get l i ≡ Some f) same at_f) in
              facts.1 (i, f, slice_get_within (take j zs) i f here, get_or_from_slice_get (take j zs) i f f here, inr share)

share_back : (f g : Rect) → ShareACell f g → ShareACell g f
share_back f g (p, one, other) = (p, other, one)

-- the boxes that were read
pub record AreBoxes (grid : Grid) (f : Rect) (bs : List Rect) : Type 0 where
  pub boxes : (i : ℕ) (b : Rect) → slice_get bs i ≡ Some b → (p : Place) × IsBox grid f p b
  pub apart : (i j : ℕ) (b c : Rect) → slice_get bs i ≡ Some b → slice_get bs j ≡ Some c → ShareACell b c → i ≡ j

pub boxes_gave : (grid : Grid) (f : Rect) (bs : List Rect) → boxes_of grid f (Ok bs) → AreBoxes grid f bs
boxes_gave grid f bs done =
    let (each, apart) = figures_gave (IsBoxCorner grid f) (IsBox grid f) open_box boxes_meet (λ _. Gave tt) bs done in
    record {
      boxes = each;
      apart = λ i j b c at_b at_c share. elim (cases_order i j) [
        | inl same ↦ same
        | inr (inl less) ↦ absurd (apart i j b c less at_b at_c (share_back b c share))
        | inr (inr more) ↦ absurd (apart j i c b more at_c at_b share)
      ];
    }

pub frame_gave : (grid : Grid) (fs : List Rect) → frames_of grid (Ok fs) → (f : Rect) → Contains fs f → (p : Place) × IsFrame grid p f
frame_gave grid fs done f there =
    let (each, apart) = figures_gave (IsCorner grid) (IsFrame grid) open_frame frames_meet (one_entry_a_side grid) fs done in
    let (k, lt, is) = there in
    each k f (slice_get-get_or fs k f lt ∙ ap (λ z. Some z) is)
