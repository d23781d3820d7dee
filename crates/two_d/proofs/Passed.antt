-- Each figure that was read passed what else is asked of it.
use Rattle.std.proofs.Common.{◌≡◌, ◌++◌, List, [], ◌∷◌, Ok, subst, arith}
use Rattle.std.specs.List.{All}
use Rattle.std.proofs.lemmas.List.Elements.{All-push}
use Rattle.umix_base.specs.declared.place.Place.{Place}
use Rattle.two_d.specs.Places.{Rect}
use Rattle.two_d.specs.Faults.{TextFault}
use Rattle.two_d.specs.Reading.{Reading, Gave, each_after}
use Rattle.two_d.specs.Cells.{Grid}
use Rattle.two_d.specs.Frames.{frame_kind, frames_of, one_entry_a_side}
use Rattle.two_d.specs.Figures as figures
use Rattle.two_d.proofs.InOrder.{then_ok, gave_is}

pub figure_passed : (Corner : Place → Type 0) (Figure : Place → Rect → Type 0) (opens meets : Place → TextFault) (further : Rect → Reading TextFault (Unit {0})) (earlier : List Rect) (p : Place) (y : Rect)
    → figures.figure_at Corner Figure opens meets further earlier p (Ok y) → further y (Ok tt)
figure_passed Corner Figure opens meets further earlier p y t =
    let (f, found, more) = then_ok _ _ y t in
    let (u, free, last) = then_ok _ _ y more in
    let (v, passed, given) = then_ok (further f) (λ _. Gave f) y last in
    let e : f ≡ y = (let x = gave_is f (Ok y) given in cc) in
    subst (λ z. further z (Ok tt)) e passed

pub figures_passed : (Corner : Place → Type 0) (Figure : Place → Rect → Type 0) (opens meets : Place → TextFault) (further : Rect → Reading TextFault (Unit {0})) (earlier : List Rect) (live : List Place) (fs : List Rect)
    → each_after (figures.figure_at Corner Figure opens meets further) earlier live (Ok fs) → All (λ f. further f (Ok tt)) earlier → All (λ f. further f (Ok tt)) fs
figures_passed Corner Figure opens meets further earlier [] fs t all = (let e = gave_is earlier (Ok fs) t in let same : earlier ≡ fs = cc in subst (All (λ f. further f (Ok tt))) same all)
figures_passed Corner Figure opens meets further earlier (p ∷ ps) fs t all =
    let (y, here, rest) = then_ok (figures.figure_at Corner Figure opens meets further earlier p) (λ y. each_after (figures.figure_at Corner Figure opens meets further) (earlier ++ y ∷ []) ps) fs t in
    figures_passed Corner Figure opens meets further (earlier ++ y ∷ []) ps fs rest
    (All-push (λ f. further f (Ok tt)) earlier y all (figure_passed Corner Figure opens meets further earlier p y here))

-- a side of each of a grid's frames has one entry at most
pub frames_entered : (grid : Grid) (fs : List Rect) → frames_of grid (Ok fs) → All (λ f. one_entry_a_side grid f (Ok tt)) fs
frames_entered grid fs t =
    let kind = frame_kind grid in
    let (live, is, all) = then_ok _ _ fs t in
    figures_passed kind.corner kind.figure kind.opens kind.meets kind.further [] live fs all (λ k d lt. absurd (omega arith))
