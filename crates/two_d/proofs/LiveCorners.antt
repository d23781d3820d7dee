-- The live corners among the places that were passed so far, and how they go on to those of all places.
use Rattle.std.proofs.Common.{◌≡◌, ◌⊎◌, ◌↔◌, ◌+◌, ◌<◌, ◌≤◌, ℕ, zero, suc, inl, inr, List, [], ◌∷◌, ◌++◌, length, get_or, refl, sym, subst, ap, ◌∙◌, append_assoc, append-nil, add-zero, arith}
use Rattle.std.proofs.lemmas.Bool.{cases_eq}
use Rattle.std.proofs.lemmas.List.{get_or_default}
use Rattle.std.specs.List.{Contains}
use Rattle.std.proofs.lemmas.List.Quantifiers.{all_pairs_push}
use Rattle.std.proofs.lemmas.List.Elements.{Contains-append_left, Contains-push, Contains-push_cases, Contains-get_or}
use Rattle.umix_base.specs.declared.place.Place.{Place}
use Rattle.two_d.specs.Places.{at, Before, Rect, Within, corner_of}
use Rattle.two_d.proofs.Decide.{Decided, decided_both, decided_either, decided_lt, decided_below}
use Rattle.two_d.specs.Figures as figures
use Rattle.two_d.proofs.Equal.{equal_places}
use Rattle.two_d.proofs.ReadingOrder.{Before-irreflexive, Before-asymmetric}

-- the places before the next of a row are those before it and itself
pub next_before : (row col : ℕ) (q : Place) → Before q (at row (col + 1)) ↔ (Before q (at row col) ⊎ (at row col ≡ q))
next_before row col q = (to, from)
  where
    to : Before q (at row (col + 1)) → Before q (at row col) ⊎ (at row col ≡ q)
    to (inl above) = inl (inl above)
    to (inr left) = elim (cases_eq q.col col) [
      | inl same ↦ inr (equal_places (at row col) q (sym left.0) (sym same))
      | inr other ↦ inl (inr (left.0, omega arith))
    ]

    from : Before q (at row col) ⊎ (at row col ≡ q) → Before q (at row (col + 1))
    from (inl (inl above)) = inl above
    from (inl (inr left)) = inr (left.0, omega arith)
    from (inr same) = inr (sym (ap (λ p. p.row) same), (let c = ap (λ p. p.col) same in omega arith))

-- what stands before a place of a row stands before the next row
pub before_next_row : (row col : ℕ) (q : Place) → Before q (at row col) → Before q (at (row + 1) 0)
before_next_row row col q (inl above) = inl (omega arith)
before_next_row row col q (inr left) = inl (omega arith)

-- what stands before the next row, and is left of a column if it is in the row
pub in_row : (row col : ℕ) (q : Place) → Before q (at (row + 1) 0) → (q.row ≡ row → q.col < col) → Before q (at row col)
in_row row col q (inl above) left = elim (cases_eq q.row row) [
  | inl same ↦ inr (same, left same)
  | inr other ↦ inl (omega arith)
]
in_row row col q (inr nothing) left = absurd (omega arith)

pub decided_before : (p q : Place) → Decided (Before p q)
decided_before p q = decided_either (decided_lt p.row q.row) (decided_both (cases_eq p.row q.row) (decided_lt p.col q.col))

pub decided_within : (f : Rect) (p : Place) → Decided (Within f p)
decided_within f p = elim (decided_both (decided_both (decided_lt f.top p.row) (decided_lt p.row f.bottom)) (decided_both (decided_lt f.left p.col) (decided_lt p.col f.right))) [
  | inl all ↦ inl (record { below_top = all.0.0; above_bottom = all.0.1; after_left = all.1.0; before_right = all.1.1 })
  | inr not_all ↦ inr (λ w. not_all ((w.below_top, w.above_bottom), (w.after_left, w.before_right)))
]

module _ (Corner : Place → Type 0) (Figure : Place → Rect → Type 0) where
  -- the next place is a live corner
  pub live_more : (Passed Next : Place → Type 0) (live : List Place) (p : Place) → figures.AreLiveAmong Corner Figure Passed live → ((q : Place) → Passed q → Before q p) → ((q : Place) → Next q ↔ (Passed q ⊎ (p ≡ q))) → Corner p → figures.IsFree Corner Figure live p → figures.AreLiveAmong Corner Figure Next (live ++ p ∷ [])
  live_more Passed Next live p h before next corner free = record {
    in_order = all_pairs_push Before live p h.in_order (λ k d lt. before _ ((h.each _).0 (Contains-get_or live k d lt)).0);
    each = λ r. (to r, from r);
  }
    where
      widen : (r : Place) → (Before p r → ⊥) → figures.IsFree Corner Figure live r → figures.IsFree Corner Figure (live ++ p ∷ []) r
      widen r late f q g member earlier figure within =
          elim (Contains-push_cases live p q member) [ inl m ↦ f q g m earlier figure within | inr e ↦ late (subst (λ x. Before x r) (sym e) earlier) ]

      to : (r : Place) → Contains (live ++ p ∷ []) r → Next r × Corner r × figures.IsFree Corner Figure (live ++ p ∷ []) r
      to r member = elim (Contains-push_cases live p r member) [
        | inl m ↦ (let here = (h.each r).0 m in ((next r).1 (inl here.0), here.1, widen r (λ b. Before-asymmetric p r b (before r here.0)) here.2))
        | inr e ↦ subst (λ x. Next x × Corner x × figures.IsFree Corner Figure (live ++ p ∷ []) x) e ((next p).1 (inr refl), corner, widen p (Before-irreflexive p) free)
      ]

      from : (r : Place) → Next r × Corner r × figures.IsFree Corner Figure (live ++ p ∷ []) r → Contains (live ++ p ∷ []) r
      from r x = elim ((next r).0 x.0) [
        | inl passed ↦ Contains-append_left live (p ∷ []) r ((h.each r).1 (passed, x.1, λ q g m. x.2 q g (Contains-append_left live (p ∷ []) q m)))
        | inr e ↦ subst (λ y. Contains (live ++ p ∷ []) y) e (Contains-push live p)
      ]

  -- the next place is none
  pub live_same : (Passed Next : Place → Type 0) (live : List Place) (p : Place) → figures.AreLiveAmong Corner Figure Passed live → ((q : Place) → Next q ↔ (Passed q ⊎ (p ≡ q))) → (Corner p → figures.IsFree Corner Figure live p → ⊥) → figures.AreLiveAmong Corner Figure Next live
  live_same Passed Next live p h next not_live = record {
    in_order = h.in_order;
    each = λ r. (
      (λ m. let here = (h.each r).0 m in ((next r).1 (inl here.0), here.1, here.2)),
      (λ x. elim ((next r).0 x.0) [
        | inl passed ↦ (h.each r).1 (passed, x.1, x.2)
        | inr e ↦ absurd (not_live (subst Corner (sym e) x.1) (subst (figures.IsFree Corner Figure live) (sym e) x.2))
      ]),
    );
  }

  -- nothing is a corner in between
  pub live_widen : (Passed Next : Place → Type 0) (live : List Place) → figures.AreLiveAmong Corner Figure Passed live → ((q : Place) → Passed q → Next q) → ((q : Place) → Next q → Corner q → Passed q) → figures.AreLiveAmong Corner Figure Next live
  live_widen Passed Next live h wide narrow = record {
    in_order = h.in_order;
    each = λ r. (
      (λ m. let here = (h.each r).0 m in (wide r here.0, here.1, here.2)),
      (λ x. (h.each r).1 (narrow r x.0 x.1, x.1, x.2)),
    );
  }

-- What a search for corners rests on: whether a corner or a figure is at a place can be told,
-- there is one figure at most, its top left corner is there, and the corners end in each row and
-- after some row.
pub record IsSearchable (Corner : Place → Type 0) (Figure : Place → Rect → Type 0) : Type 0 where
  pub corner_or_not : (p : Place) → Decided (Corner p)
  pub figure_or_not : (p : Place) → ((f : Rect) × Figure p f) ⊎ ((f : Rect) → Figure p f → ⊥)
  pub one : (p : Place) (f g : Rect) → Figure p f → Figure p g → f ≡ g
  pub placed : (p : Place) (f : Rect) → Figure p f → corner_of f ≡ p
  pub ordered : (p : Place) (f : Rect) → Figure p f → (f.top ≤ f.bottom) × (f.left ≤ f.right)
  pub rows : ℕ
  pub below_rows : (p : Place) → Corner p → p.row < rows
  pub columns : ℕ → ℕ
  pub below_columns : (p : Place) → Corner p → p.col < columns p.row

module _ (Corner : Place → Type 0) (Figure : Place → Rect → Type 0) (searchable : IsSearchable Corner Figure) where
  -- no figure of this corner has p strictly within it
  IsOutside : Place → Place → Type 0
  IsOutside q p = (f : Rect) → Before q p → Figure q f → Within f p → ⊥

  outside_or_not : (q p : Place) → Decided (IsOutside q p)
  unfolding IsOutside
  outside_or_not q p = elim (searchable.figure_or_not q) [
    | inr bare ↦ inl (λ f _ figure _. bare f figure)
    | inl (f, figure) ↦ elim (decided_both (decided_before q p) (decided_within f p)) [
      | inl both ↦ inr (λ outside. outside f both.0 figure both.1)
      | inr not_both ↦ inl (λ g before its within. not_both (before, subst (λ r. Within r p) (searchable.one q g f its figure) within))
    ]
  ]

  -- whether p is free can be told
  free_or_not : (live : List Place) (p : Place) → Decided (figures.IsFree Corner Figure live p)
  unfolding IsOutside
  free_or_not live p = elim (decided_below (λ k. IsOutside (get_or live k p) p) (λ k. outside_or_not (get_or live k p) p) (length live)) [
    | inl all ↦ inl (λ q f (k, lt, is) before figure within.
        let same : get_or live k p ≡ q = get_or_default live k p q lt ∙ is in
        all k lt f (subst (λ x. Before x p) (sym same) before) (subst (λ x. Figure x f) (sym same) figure) within)
    | inr some ↦ inr (λ free. some (λ k lt f before figure within. free (get_or live k p) f (Contains-get_or live k p lt) before figure within))
  ]

  -- the live corners before the place, and more
  abbrev LiveBefore : ℕ → ℕ → List Place → Type 0
  LiveBefore row col = figures.AreLiveAmong Corner Figure (λ q. Before q (at row col))

  one_place_on : (row col : ℕ) (live : List Place) → LiveBefore row col live → (more : List Place) × LiveBefore row (col + 1) (live ++ more)
  one_place_on row col live h = elim (decided_both (searchable.corner_or_not (at row col)) (free_or_not live (at row col))) [
    | inl both ↦ (at row col ∷ [], live_more Corner Figure (λ q. Before q (at row col)) (λ q. Before q (at row (col + 1))) live (at row col) h (λ q b. b) (next_before row col) both.0 both.1)
    | inr not_both ↦ ([], subst (LiveBefore row (col + 1)) (sym (append-nil live)) (live_same Corner Figure (λ q. Before q (at row col)) (λ q. Before q (at row (col + 1))) live (at row col) h (next_before row col) (λ corner free. not_both (corner, free))))
  ]

  columns_on : (n row col : ℕ) (live : List Place) → LiveBefore row col live → (more : List Place) × LiveBefore row (col + n) (live ++ more)
  columns_on zero row col live h = ([], rw (append-nil, add-zero) h)
  columns_on (suc n) row col live h =
      let one = one_place_on row col live h in
      let rest = columns_on n row (col + 1) (live ++ one.0) one.1 in
      let there : col + 1 + n ≡ col + suc n = omega arith in
      (one.0 ++ rest.0, subst (λ c. LiveBefore row c (live ++ (one.0 ++ rest.0))) there (subst (LiveBefore row (col + 1 + n)) (append_assoc live one.0 rest.0) rest.1))

  -- to the end of a row
  row_on : (row col : ℕ) (live : List Place) → LiveBefore row col live → (more : List Place) × LiveBefore (row + 1) 0 (live ++ more)
  row_on row col live h =
      let width = searchable.columns row in
      let rest = columns_on width row col live h in (
        rest.0,
        live_widen Corner Figure (λ q. Before q (at row (col + width))) (λ q. Before q (at (row + 1) 0)) (live ++ rest.0) rest.1 (before_next_row row (col + width))
            (λ q b corner. in_row row (col + width) q b (λ same. let bound = searchable.below_columns q corner in let e : searchable.columns q.row ≡ width = ap searchable.columns same in omega arith)),
      )

  rows_on : (n row : ℕ) (live : List Place) → LiveBefore row 0 live → (more : List Place) × LiveBefore (row + n) 0 (live ++ more)
  rows_on zero row live h = ([], rw (append-nil, add-zero) h)
  rows_on (suc n) row live h =
      let one = row_on row 0 live h in
      let rest = rows_on n (row + 1) (live ++ one.0) one.1 in
      let there : row + 1 + n ≡ row + suc n = omega arith in
      (one.0 ++ rest.0, subst (λ r. LiveBefore r 0 (live ++ (one.0 ++ rest.0))) there (subst (LiveBefore (row + 1 + n) 0) (append_assoc live one.0 rest.0) rest.1))

  -- after the last row nothing is a corner
  pub live_at_end : (row : ℕ) (live : List Place) → LiveBefore row 0 live → ((q : Place) → Corner q → q.row < row) → figures.AreLive Corner Figure live
  live_at_end row live h below = live_widen Corner Figure (λ q. Before q (at row 0)) (λ _. Unit {0}) live h (λ _ _. tt) (λ q _ corner. inl (below q corner))

  -- the live corners before a place go on to those of all places
  pub live_onward : (row col : ℕ) (live : List Place) → LiveBefore row col live → (more : List Place) × figures.AreLive Corner Figure (live ++ more)
  live_onward row col live h =
      let first = row_on row col live h in
      let rest = rows_on searchable.rows (row + 1) (live ++ first.0) first.1 in (
        first.0 ++ rest.0,
        subst (figures.AreLive Corner Figure) (append_assoc live first.0 rest.0)
            (live_at_end (row + 1 + searchable.rows) ((live ++ first.0) ++ rest.0) rest.1 (λ q corner. let bound = searchable.below_rows q corner in omega arith)),
      )
