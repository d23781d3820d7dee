-- What a search has found, place by place.
use Rattle.std.proofs.Common.{◌≡◌, ℕ, ◌+◌, ◌<◌, ◌≤◌, ◌⊎◌, inl, inr, List, [], ◌∷◌, ◌++◌, length, map, get_or, Ok, Err, Option, Some, None, refl, sym, ap, subst, ◌∙◌, append_assoc, arith}
use Rattle.std.specs.Prelude.{MatchOption}
use Rattle.std.specs.List.{Contains, Any}
use Rattle.std.proofs.lemmas.Bool.{cases_lt}
use Rattle.std.proofs.lemmas.List.{get_or-map, length-map, map-append}
use Rattle.std.proofs.lemmas.List.Elements.{Contains-get_or, Contains-append_left, Contains-push, Contains-push_cases, All-push, All-contains}
use Rattle.umix_base.specs.declared.place.Place.{Place}
use Rattle.two_d.specs.Places.{at, Before, Rect, Covers, Within, OnBorder, ShareACell, corner_of}
use Rattle.two_d.specs.Faults.{TextFault}
use Rattle.two_d.specs.Figures.{AreLive, AreLiveAmong, IsFree}
use Rattle.two_d.specs.Reading.{Reading, gave, each_after}
use Rattle.two_d.proofs.LiveCorners.{IsSearchable, next_before, live_more, live_same, live_widen, live_onward}
use Rattle.two_d.proofs.InOrder.{each_after_more, each_after_stops}
use Rattle.grid_reader.specs.inner.Found.{Spans, HasLow, Lays, IsLowest, IsScanned}

-- the figure of a corner of the list
figure_of_corner : (fs : List Rect) (q : Place) → Contains (map corner_of fs) q → (f : Rect) × Contains fs f × (corner_of f ≡ q)
figure_of_corner fs q (k, lt, is) =
    let d : Rect = record { top = q.row; left = q.col; bottom = 0; right = 0 } in
    let within : k < length fs = omega (arith, length-map fs corner_of) in
    (get_or fs k d, Contains-get_or fs k d within, sym (get_or-map corner_of fs k d q within) ∙ is)

corner_in : (fs : List Rect) (f : Rect) → Contains fs f → Contains (map corner_of fs) (corner_of f)
corner_in fs f (k, lt, is) =
    subst (Contains (map corner_of fs)) (get_or-map corner_of fs k f (corner_of f) lt ∙ ap corner_of is) (Contains-get_or (map corner_of fs) k (corner_of f) (omega (arith, length-map fs corner_of)))

any_of : (P : Rect → Type 0) (fs : List Rect) (f : Rect) → Contains fs f → P f → Any P fs
any_of P fs f (k, lt, is) p = (k, f, lt, is, p)

-- a figure of the column reaches no lower than the table's
below_lowest : (fs : List Rect) (col : ℕ) (low : Option Rect) (e : Rect) → IsLowest fs col low → Contains fs e → Spans e col → (g : Rect) × (low ≡ Some g) × Contains fs g × Spans g col × (e.bottom ≤ g.bottom)
below_lowest fs col None e h member spans = absurd (h e member spans)
below_lowest fs col (Some g) e h member spans = (g, refl, h.0, h.1, h.2 e member spans)

lowest_is : (fs : List Rect) (col : ℕ) (low : Option Rect) (P : Rect → Type 0) → IsLowest fs col low → MatchOption low ⊥ P → (g : Rect) × Contains fs g × Spans g col × P g
lowest_is fs col None P h never = absurd never
lowest_is fs col (Some g) P h holds = (g, h.0, h.1, holds)

top_not_under : (g : Rect) (p : Place) → Before (corner_of g) p → g.top ≤ p.row
top_not_under g p (inl above) = omega arith
top_not_under g p (inr left) = omega (arith, left.0)

spans_or_not : (f : Rect) (col : ℕ) → Spans f col ⊎ (Spans f col → ⊥)
spans_or_not f col = elim (cases_lt col f.left) [
  | inl before ↦ inr (λ s. omega (arith, s.0))
  | inr from ↦ elim (cases_lt f.right col) [
    | inl after ↦ inr (λ s. omega (arith, s.1))
    | inr to ↦ inl (from, to)
  ]
]

-- two figures of one column, of which the one that reaches lower begins no lower than p, share a cell where the other has p within it
share_in_column : (e g : Rect) (p : Place) → Within e p → Spans g p.col → g.top ≤ g.bottom → e.bottom ≤ g.bottom → g.top ≤ p.row → ShareACell e g
share_in_column e g p w spans high lower top = elim (cases_lt e.top g.top) [
  | inl above ↦ (
    at g.top p.col,
    record { from_top = omega arith; to_bottom = let b = w.above_bottom in omega arith; from_left = let a = w.after_left in omega arith; to_right = let a = w.before_right in omega arith },
    record { from_top = omega arith; to_bottom = high; from_left = spans.0; to_right = spans.1 },
  )
  | inr under ↦ (
    at e.top p.col,
    record { from_top = omega arith; to_bottom = let t = w.below_top in let b = w.above_bottom in omega arith; from_left = let a = w.after_left in omega arith; to_right = let a = w.before_right in omega arith },
    record { from_top = under; to_bottom = let t = w.below_top in let b = w.above_bottom in omega arith; from_left = spans.0; to_right = spans.1 },
  )
]

module _ (Corner : Place → Type 0) (Figure : Place → Rect → Type 0) (read : List Rect → Place → Reading TextFault Rect) (searchable : IsSearchable Corner Figure) (first : ℕ) (fs : List Rect) (low : ℕ → Option Rect) where
  -- what was found among the places before p
  abbrev pub IsFoundBefore : Place → Type 0
  IsFoundBefore p = IsScanned Corner Figure read (λ q. Before q p) first fs low

  shown_at : (p : Place) → IsFoundBefore p → (f : Rect) → Contains fs f → Figure (corner_of f) f
  shown_at p h f member = All-contains (λ f. Figure (corner_of f) f) fs f h.shown member

  before_next : (p : Place) → IsFoundBefore p → (f : Rect) → Contains fs f → Before (corner_of f) p
  before_next p h f member = ((h.live.each (corner_of f)).0 (corner_in fs f member)).0

  -- where the table's figure of a column hasn't the place within it, none has
  pub free_from : (p : Place) → IsFoundBefore p → first ≤ p.col → (MatchOption (low p.col) ⊥ (λ g. Within g p) → ⊥) → IsFree Corner Figure (map corner_of fs) p
  free_from p h after not_within q f member before figure within =
      let e = figure_of_corner fs q member in
      let its : Figure q e.0 = subst (λ x. Figure x e.0) e.2 (shown_at p h e.0 e.1) in
      let w : Within e.0 p = subst (λ r. Within r p) (searchable.one q f e.0 figure its) within in
      let b = below_lowest fs p.col (low p.col) e.0 (h.lowest p.col after) e.1 (let l = w.after_left in omega arith, let r = w.before_right in omega arith) in
      let high = (searchable.ordered (corner_of b.0) b.0 (shown_at p h b.0 b.2)).0 in
      let same : e.0 ≡ b.0 = h.apart e.0 b.0 e.1 b.2 (share_in_column e.0 b.0 p w b.3 high b.4 (top_not_under b.0 p (before_next p h b.0 b.2))) in
      not_within (subst (λ o. MatchOption o ⊥ (λ g. Within g p)) (sym b.1) (subst (λ r. Within r p) same w))

  pub taken_not_free : (p : Place) → IsFoundBefore p → first ≤ p.col → MatchOption (low p.col) ⊥ (λ g. Within g p) → IsFree Corner Figure (map corner_of fs) p → ⊥
  taken_not_free p h after within free =
      let g = lowest_is fs p.col (low p.col) (λ g. Within g p) (h.lowest p.col after) within in
      free (corner_of g.0) g.0 (corner_in fs g.0 g.1) (before_next p h g.0 g.1) (shown_at p h g.0 g.1) g.3

  -- f meets one that was found
  abbrev pub Meets : Place → Rect → Type 0
  Meets p f = Any (λ e. OnBorder e p ⊎ ShareACell f e) fs

  pub meets_from_low : (p : Place) (f : Rect) → IsFoundBefore p → first ≤ p.col → Figure p f → HasLow low f → Meets p f
  meets_from_low p f h after figure (col, spans, has) =
      let placed = searchable.placed p f figure in
      let top : f.top ≡ p.row = ap (λ q. q.row) placed in
      let left : f.left ≡ p.col = ap (λ q. q.col) placed in
      let g = lowest_is fs col (low col) (λ g. f.top ≤ g.bottom) (h.lowest col (omega (arith, spans.0))) has in
      let above : g.0.top ≤ p.row = top_not_under g.0 p (before_next p h g.0 g.1) in
      any_of (λ e. OnBorder e p ⊎ ShareACell f e) fs g.0 g.1 (inr (
        at f.top col,
        record { from_top = omega arith; to_bottom = (searchable.ordered p f figure).0; from_left = spans.0; to_right = spans.1 },
        record { from_top = omega arith; to_bottom = g.3; from_left = g.2.0; to_right = g.2.1 },
      ))

  low_from_meets : (p : Place) (f : Rect) → IsFoundBefore p → first ≤ p.col → Figure p f → (e : Rect) → Contains fs e → OnBorder e p ⊎ ShareACell f e → HasLow low f
  low_from_meets p f h after figure e member (inl border) =
      let placed = searchable.placed p f figure in
      let top : f.top ≡ p.row = ap (λ q. q.row) placed in
      let left : f.left ≡ p.col = ap (λ q. q.col) placed in
      let wide = (searchable.ordered p f figure).1 in
      let down = border.0.to_bottom in
      let b = below_lowest fs p.col (low p.col) e (h.lowest p.col after) member (border.0.from_left, border.0.to_right) in
      (p.col, (omega arith, omega arith), subst (λ o. MatchOption o ⊥ (λ g. f.top ≤ g.bottom)) (sym b.1) (omega (arith, b.4)))
  low_from_meets p f h after figure e member (inr (c, in_f, in_e)) =
      let left : f.left ≡ p.col = ap (λ q. q.col) (searchable.placed p f figure) in
      let from = in_f.from_left in
      let down = in_e.to_bottom in
      let under = in_f.from_top in
      let b = below_lowest fs c.col (low c.col) e (h.lowest c.col (omega arith)) member (in_e.from_left, in_e.to_right) in
      (c.col, (in_f.from_left, in_f.to_right), subst (λ o. MatchOption o ⊥ (λ g. f.top ≤ g.bottom)) (sym b.1) (omega (arith, b.4)))

  pub apart_from_low : (p : Place) (f : Rect) → IsFoundBefore p → first ≤ p.col → Figure p f → (HasLow low f → ⊥) → Meets p f → ⊥
  apart_from_low p f h after figure not_low (k, e, lt, is, meet) = not_low (low_from_meets p f h after figure e (k, lt, is) meet)

  -- a place that is no live corner adds nothing
  pub scan_same : (p : Place) → IsFoundBefore p → (Corner p → IsFree Corner Figure (map corner_of fs) p → ⊥) → IsFoundBefore (at p.row (p.col + 1))
  scan_same p h dead = record {
    live = live_same Corner Figure (λ q. Before q p) (λ q. Before q (at p.row (p.col + 1))) (map corner_of fs) p h.live (next_before p.row p.col) dead;
    shown = h.shown;
    apart = h.apart;
    given = h.given;
    lowest = h.lowest;
  }

  -- no corner is between two places
  pub scan_widen : (p r : Place) → IsFoundBefore p → ((q : Place) → Before q p → Before q r) → ((q : Place) → Before q r → Corner q → Before q p) → IsFoundBefore r
  scan_widen p r h wide narrow = record {
    live = live_widen Corner Figure (λ q. Before q p) (λ q. Before q r) (map corner_of fs) h.live wide narrow;
    shown = h.shown;
    apart = h.apart;
    given = h.given;
    lowest = h.lowest;
  }

  -- a live corner adds its figure
  pub scan_more : (p : Place) (f : Rect) (new_low : ℕ → Option Rect) → IsFoundBefore p → first ≤ p.col → Corner p → IsFree Corner Figure (map corner_of fs) p → Figure p f → (HasLow low f → ⊥) → Lays first low new_low f → read fs p (Ok f)
      → IsScanned Corner Figure read (λ q. Before q (at p.row (p.col + 1))) first (fs ++ f ∷ []) new_low
  scan_more p f new_low h after corner free figure not_low lays reads = record {
    live = subst (AreLiveAmong Corner Figure (λ q. Before q (at p.row (p.col + 1)))) (sym corners_more) (live_more Corner Figure (λ q. Before q p) (λ q. Before q (at p.row (p.col + 1))) (map corner_of fs) p h.live (λ q b. b) (next_before p.row p.col) corner free);
    shown = All-push (λ f. Figure (corner_of f) f) fs f h.shown (subst (λ q. Figure q f) (sym placed) figure);
    apart = λ e g in_e in_g. apart_too e g (Contains-push_cases fs f e in_e) (Contains-push_cases fs f g in_g);
    given = subst (λ ps. each_after read [] ps (Ok (fs ++ f ∷ []))) (sym corners_more) (each_after_more read [] (map corner_of fs) fs p f h.given reads);
    lowest = λ col from. elim (spans_or_not f col) [
      | inl spans ↦ subst (IsLowest (fs ++ f ∷ []) col) (sym (lays.inside col from spans)) (Contains-push fs f, spans, λ e member its. higher col from spans e its (Contains-push_cases fs f e member))
      | inr apart ↦ subst (IsLowest (fs ++ f ∷ []) col) (sym (lays.outside col from apart)) (still col (low col) apart (h.lowest col from))
    ];
  }
    where
      placed : corner_of f ≡ p
      placed = searchable.placed p f figure

      corners_more : map corner_of (fs ++ f ∷ []) ≡ map corner_of fs ++ p ∷ []
      corners_more = map-append corner_of fs (f ∷ []) ∙ ap (λ q. map corner_of fs ++ q ∷ []) placed

      meets_none : (e : Rect) → Contains fs e → ShareACell f e → ⊥
      meets_none e member share = not_low (low_from_meets p f h after figure e member (inr share))

      apart_too : (e g : Rect) → Contains fs e ⊎ (f ≡ e) → Contains fs g ⊎ (f ≡ g) → ShareACell e g → e ≡ g
      apart_too e g (inl in_e) (inl in_g) share = h.apart e g in_e in_g share
      apart_too e g (inl in_e) (inr is_g) (c, of_e, of_g) = absurd (meets_none e in_e (c, subst (λ r. Covers r c) (sym is_g) of_g, of_e))
      apart_too e g (inr is_e) (inl in_g) (c, of_e, of_g) = absurd (meets_none g in_g (c, subst (λ r. Covers r c) (sym is_e) of_e, of_g))
      apart_too e g (inr is_e) (inr is_g) share = sym is_e ∙ is_g

      higher : (col : ℕ) → first ≤ col → Spans f col → (e : Rect) → Spans e col → Contains fs e ⊎ (f ≡ e) → e.bottom ≤ f.bottom
      higher col from spans e its (inr is) = (let same = ap (λ r. r.bottom) is in omega arith)
      higher col from spans e its (inl old) =
          let b = below_lowest fs col (low col) e (h.lowest col from) old its in
          let high = (searchable.ordered p f figure).0 in
          elim (cases_lt b.0.bottom f.top) [
            | inl above ↦ omega (arith, b.4)
            | inr under ↦ absurd (not_low (col, spans, subst (λ o. MatchOption o ⊥ (λ g. f.top ≤ g.bottom)) (sym b.1) under))
          ]

      still : (col : ℕ) (o : Option Rect) → (Spans f col → ⊥) → IsLowest fs col o → IsLowest (fs ++ f ∷ []) col o
      still col None apart is = λ e member its. elim (Contains-push_cases fs f e member) [
        | inl old ↦ is e old its
        | inr same ↦ apart (subst (λ r. Spans r col) (sym same) its)
      ]
      still col (Some g) apart is = (
        Contains-append_left fs (f ∷ []) g is.0,
        is.1,
        λ e member its. elim (Contains-push_cases fs f e member) [
          | inl old ↦ is.2 e old its
          | inr same ↦ absurd (apart (subst (λ r. Spans r col) (sym same) its))
        ],
      )

  -- the fault of a live corner is the first of all
  pub scan_stops : (p : Place) (e : TextFault) → IsFoundBefore p → Corner p → IsFree Corner Figure (map corner_of fs) p → read fs p (Err e) → (live : List Place) × AreLive Corner Figure live × each_after read [] live (Err e)
  scan_stops p e h corner free stopped =
      let here = live_more Corner Figure (λ q. Before q p) (λ q. Before q (at p.row (p.col + 1))) (map corner_of fs) p h.live (λ q b. b) (next_before p.row p.col) corner free in
      let all = live_onward Corner Figure searchable p.row (p.col + 1) (map corner_of fs ++ p ∷ []) here in
      ((map corner_of fs ++ p ∷ []) ++ all.0, all.1, subst (λ ps. each_after read [] ps (Err e)) (sym (append_assoc (map corner_of fs) (p ∷ []) all.0)) (each_after_stops read [] (map corner_of fs) all.0 fs p e h.given stopped))

-- nothing was found before any corner
pub scan_starts : (Corner : Place → Type 0) (Figure : Place → Rect → Type 0) (read : List Rect → Place → Reading TextFault Rect) (p : Place) (first : ℕ) (low : ℕ → Option Rect) → ((q : Place) → Corner q → Before q p → ⊥) → ((col : ℕ) → first ≤ col → low col ≡ None) → IsScanned Corner Figure read (λ q. Before q p) first [] low
scan_starts Corner Figure read p first low none empty = record {
  live = record {
    in_order = λ i j d below within. absurd (omega arith);
    each = λ q. ((λ member. absurd (let lt = member.1 in omega arith)), (λ x. absurd (none q x.1 x.0)));
  };
  shown = λ k d within. absurd (omega arith);
  apart = λ e f member. absurd (let lt = member.1 in omega arith);
  given = gave;
  lowest = λ col from. subst (IsLowest [] col) (sym (empty col from)) (λ f member. absurd (let lt = member.1 in omega arith));
}
