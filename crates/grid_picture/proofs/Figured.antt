-- Figures that are known are read.
use Rattle.std.specs.Prelude.{◌≡◌, ℕ, ◌⊎◌, ◌+◌, ◌<◌, List, [], ◌∷◌, ◌++◌, length, map, Any, All, AllPairs, Ok}
use Rattle.std.specs.List.{Contains}
use Rattle.std.proofs.Common.{arith, refl, sym, ap, subst, ◌∙◌, inl, inr, get_or, append_assoc, append-nil}
use Rattle.std.proofs.lemmas.Bool.{cases_order}
use Rattle.std.proofs.lemmas.List.{length-append, get_or_at, get_or_append_left, get_or_default}
use Rattle.umix_base.specs.declared.place.Place.{Place}
use Rattle.two_d.specs.Places.{Before, Rect, corner_of, Within, Covers, OnBorder, ShareACell}
use Rattle.two_d.specs.Figures as figures
use Rattle.two_d.specs.Reading.{goes_on, gave, it, found, passed, each_after}
use Rattle.two_d.specs.Boxes.{box_kind}
use Rattle.two_d.specs.Cells.{Grid}
use Rattle.two_d.specs.Frames.{frame_kind}
use Rattle.two_d.proofs.BoxAt.{box-one}
use Rattle.two_d.proofs.FrameAt.{frame-one}
use Rattle.two_d.proofs.MapLists.{map_contains, contains_map, pairs_map}

-- a corner has one figure at most, which is more than one cell
pub record IsProper (kind : figures.Kind) : Type 0 where
  pub one : (p : Place) (f g : Rect) → kind.figure p f → kind.figure p g → f ≡ g
  pub framed : (p : Place) (f : Rect) → kind.figure p f → (f.top < f.bottom) × (f.left < f.right)

-- The figures of a kind, one for each corner that isn't strictly within one of them: in reading order,
-- no two share a cell.
pub record AreFigures (kind : figures.Kind) (fs : List Rect) : Type 0 where
  pub in_order : AllPairs (λ f g. Before (corner_of f) (corner_of g)) fs
  pub apart : AllPairs (λ f g. ShareACell g f → ⊥) fs
  pub corners : All (λ f. kind.corner (corner_of f)) fs
  pub figures : All (λ f. kind.figure (corner_of f) f) fs
  pub more : All (λ f. kind.further f (Ok tt)) fs
  pub only : (p : Place) → kind.corner p → Any (λ f. (corner_of f ≡ p) ⊎ Within f p) fs

module _ (kind : figures.Kind) (proper : IsProper kind) (fs : List Rect) (are : AreFigures kind fs) where
  covers_within : (f : Rect) (p : Place) → Within f p → Covers f p
  covers_within f p w = let a = w.below_top in let b = w.above_bottom in let c = w.after_left in let d = w.before_right in
      record { from_top = omega arith; to_bottom = omega arith; from_left = omega arith; to_right = omega arith }

  covers_corner : (f : Rect) → kind.figure (corner_of f) f → Covers f (corner_of f)
  covers_corner f is = let (high, wide) = proper.framed (corner_of f) f is in
      record { from_top = omega arith; to_bottom = omega arith; from_left = omega arith; to_right = omega arith }

  -- the corner of one is strictly within no other
  free : (i j : ℕ) (d : Rect) → i < length fs → j < length fs → Within (get_or fs i d) (corner_of (get_or fs j d)) → ⊥
  free i j d lt mt within = elim (cases_order i j) [
    | inl same ↦ (let none : Within (get_or fs j d) (corner_of (get_or fs j d)) = subst (λ k. Within (get_or fs k d) (corner_of (get_or fs j d))) same within in let x = none.below_top in omega arith)
    | inr (inl less) ↦ are.apart i j d less mt (corner_of (get_or fs j d), covers_corner (get_or fs j d) (are.figures j d mt), covers_within _ _ within)
    | inr (inr more) ↦ are.apart j i d more lt (corner_of (get_or fs j d), covers_within _ _ within, covers_corner (get_or fs j d) (are.figures j d mt))
  ]

  live : figures.AreLive kind.corner kind.figure (map corner_of fs)
  live = record {
    in_order = pairs_map Before corner_of fs (record { top = 0; left = 0; bottom = 0; right = 0 }) are.in_order;
    each = λ p. (
      (λ there. let (f, (k, lt, is), same) = map_contains corner_of fs p there in (
        tt,
        subst kind.corner (ap corner_of is ∙ same) (are.corners k f lt),
        λ q g there_q before figure within.
            let (h, (l, mt, at_l), same_q) = map_contains corner_of fs q there_q in
            let fig : kind.figure q (get_or fs l f) = subst (λ z. kind.figure z (get_or fs l f)) (ap corner_of (get_or_default fs l f h mt ∙ at_l) ∙ same_q) (are.figures l f mt) in
            free l k f mt lt (subst (λ z. Within z (corner_of (get_or fs k f))) (proper.one q g (get_or fs l f) figure fig) (subst (Within g) (sym (ap corner_of is ∙ same)) within)),
      )),
      (λ (u, corner, is_free).
          let (k, f, lt, is, how) = are.only p corner in
          elim how [
            | inl here ↦ subst (Contains (map corner_of fs)) here (contains_map corner_of fs f (k, lt, is))
            | inr within ↦ absurd (is_free (corner_of f) f (contains_map corner_of fs f (k, lt, is)) (inl within.below_top) (subst (λ z. kind.figure (corner_of z) z) is (are.figures k f lt)) within)
          ]),
    );
  }

  from : (before rest : List Rect) → before ++ rest ≡ fs
      → each_after (figures.figure_at kind.corner kind.figure kind.opens kind.meets kind.further) before (map corner_of rest) (Ok (before ++ rest))
  from before [] whole = subst (λ l. each_after (figures.figure_at kind.corner kind.figure kind.opens kind.meets kind.further) before [] (Ok l)) (sym (append-nil before)) gave
  from before (f ∷ rest) whole =
      let n = length before in
      let long : length fs ≡ n + length (f ∷ rest) = ap length (sym whole) ∙ length-append before (f ∷ rest) in
      let lt : n < length fs = omega arith in
      let here : get_or fs n f ≡ f = ap (λ l. get_or l n f) (sym whole) ∙ get_or_at before f rest f n refl in
      let figure : kind.figure (corner_of f) f = subst (λ z. kind.figure (corner_of z) z) here (are.figures n f lt) in
      let further : kind.further f (Ok tt) = subst (λ z. kind.further z (Ok tt)) here (are.more n f lt) in
      let none : Any (λ e. OnBorder e (corner_of f) ⊎ ShareACell f e) before → ⊥ = λ (k, e, less, is, how).
      let there : get_or fs k f ≡ e = ap (λ l. get_or l k f) (sym whole) ∙ (get_or_append_left before (f ∷ rest) f k less ∙ get_or_default before k f e less ∙ is) in
      let apart : ShareACell f e → ⊥ = subst (λ z. ShareACell z e → ⊥) here (subst (λ z. ShareACell (get_or fs n f) z → ⊥) there (are.apart k n f less lt)) in
      elim how [
        | inl border ↦ apart (corner_of f, covers_corner f figure, border.0)
        | inr share ↦ apart share
      ] in
      goes_on f (goes_on f (found f figure) (goes_on tt (passed none) (goes_on tt further gave)))
      (subst (λ l. each_after (figures.figure_at kind.corner kind.figure kind.opens kind.meets kind.further) (before ++ f ∷ []) (map corner_of rest) (Ok l)) (append_assoc before (f ∷ []) rest)
      (from (before ++ f ∷ []) rest (append_assoc before (f ∷ []) rest ∙ whole)))

  pub figures_read : figures.all_of kind (Ok fs)
  figures_read = goes_on (map corner_of fs) (it (map corner_of fs) live) (from [] fs refl)

pub frames_proper : (grid : Grid) → IsProper (frame_kind grid)
frames_proper grid = record { one = frame-one grid; framed = λ p f is. (is.high, is.wide) }

pub boxes_proper : (grid : Grid) (f : Rect) → IsProper (box_kind grid f)
boxes_proper grid f = record { one = box-one grid f; framed = λ p b is. (let high = is.high in omega arith, let wide = is.wide in omega arith) }
