-- Figures that are found by their top left corners, in reading order: the frames of a grid,
-- the boxes of a frame.
use Rattle.std.specs.Prelude.{◌⊎◌, ◌↔◌, List, [], Contains, Any, ⊤}
use Rattle.umix_base.specs.declared.place.Place.{Place}
use Rattle.two_d.specs.Places.{Before, InReadingOrder, Rect, Within, OnBorder, ShareACell}
use Rattle.two_d.specs.Faults.{TextFault}
use Rattle.two_d.specs.Reading.{Reading, give, the, the_or, refuse, each_after, ◌>>=◌, ◌>>◌}

-- Corner p: at p is the pattern of a corner. Figure p f: the figure f has its top left corner at p.
module _ (Corner : Place → Type 0) (Figure : Place → Rect → Type 0) where
  -- p is strictly within the figure of no earlier corner of the list
  abbrev pub IsFree : List Place → Place → Type 0
  IsFree live p =
      (q : Place) (f : Rect) → Contains live q → Before q p → Figure q f → Within f p → ⊥

  -- the live corners among some places, in reading order: the corners that are strictly within
  -- the figure of no earlier live one
  pub record AreLiveAmong (Among : Place → Type 0) (live : List Place) : Type 0 where
    pub in_order : InReadingOrder live
    pub each : (p : Place) → Contains live p ↔ (Among p × Corner p × IsFree live p)

  -- the live corners of all places
  abbrev pub AreLive : List Place → Type 0
  AreLive = AreLiveAmong (λ _. ⊤)

  -- The figure of a live corner, after those of the earlier ones: the corner has a figure,
  -- which meets none of them; then what else is asked of it.
  abbrev pub figure_at : (opens meets : Place → TextFault) → (Rect → Reading TextFault (Unit {0}))
      → List Rect → Place → Reading TextFault Rect
  figure_at opens meets further earlier p = do
    f ← the_or (opens p) (Figure p)
    refuse (meets p) (Any (λ e. OnBorder e p ⊎ ShareACell f e) earlier)
    further f
    give f

  -- the figures of the live corners, in reading order, or the first fault
  abbrev pub figures_of : (opens meets : Place → TextFault) → (Rect → Reading TextFault (Unit {0}))
      → Reading TextFault (List Rect)
  figures_of opens meets further = do
    live ← the AreLive
    each_after (figure_at opens meets further) [] live

-- A kind of figures: what is a corner, which rectangle is the figure of a corner, the fault of a
-- corner without one, the fault of one whose figure meets an earlier one, and what else is asked of
-- a figure.
pub record Kind : Type 1 where
  pub corner : Place → Type 0
  pub figure : Place → Rect → Type 0
  pub opens : Place → TextFault
  pub meets : Place → TextFault
  pub further : Rect → Reading TextFault (Unit {0})

-- the figures of a kind, in reading order, or the first fault
abbrev pub all_of : Kind → Reading TextFault (List Rect)
all_of kind = figures_of kind.corner kind.figure kind.opens kind.meets kind.further
