-- The figures of a kind that can be searched for are read, or one of them is the first that is refused.
use Rattle.std.proofs.Common.{◌⊎◌, ◌≤◌, ℕ, inl, inr, List, [], arith}
use Rattle.std.proofs.lemmas.Bool.{cases_lt}
use Rattle.umix_base.specs.declared.place.Place.{Place}
use Rattle.two_d.specs.Places.{at, Before, Rect, Covers, OnBorder, ShareACell}
use Rattle.two_d.specs.Faults.{TextFault}
use Rattle.two_d.specs.Figures as figures
use Rattle.two_d.specs.Reading.{Reading, Gave, The, TheOr, Refused, each_after}
use Rattle.std.specs.Prelude.{Any}
use Rattle.two_d.proofs.Decide.{Decided, decided_both, decided_either, decided_not}
use Rattle.two_d.proofs.LiveCorners.{IsSearchable, live_onward, decided_within}
use Rattle.two_d.proofs.SomeReading.{HasAnswer, then_some, the_some, the_or_some, refused_some, gave_some, after_some, decided_any}

pub decided_le : (a b : ℕ) → Decided (a ≤ b)
decided_le a b = elim (cases_lt b a) [ inl less ↦ inr (λ le. omega arith) | inr more ↦ inl (omega arith) ]

pub decided_covers : (f : Rect) (p : Place) → Decided (Covers f p)
decided_covers f p = elim (decided_both (decided_both (decided_le f.top p.row) (decided_le p.row f.bottom)) (decided_both (decided_le f.left p.col) (decided_le p.col f.right))) [
  | inl all ↦ inl (record { from_top = all.0.0; to_bottom = all.0.1; from_left = all.1.0; to_right = all.1.1 })
  | inr not_all ↦ inr (λ c. not_all ((c.from_top, c.to_bottom), (c.from_left, c.to_right)))
]

decided_on_border : (f : Rect) (p : Place) → Decided (OnBorder f p)
decided_on_border f p = decided_both (decided_covers f p) (decided_not (decided_within f p))

-- the later of two numbers
later : (a b : ℕ) → (c : ℕ) × (a ≤ c) × (b ≤ c) × ((d : ℕ) → a ≤ d → b ≤ d → c ≤ d)
later a b = elim (cases_lt a b) [
  | inl less ↦ (b, omega arith, omega arith, λ d le more. more)
  | inr more ↦ (a, omega arith, omega arith, λ d le less. le)
]

decided_share : (f g : Rect) → Decided (ShareACell f g)
decided_share f g =
    let (row, below, under, first) = later f.top g.top in
    let (col, behind, after, left) = later f.left g.left in
    elim (decided_both (decided_both (decided_le row f.bottom) (decided_le row g.bottom)) (decided_both (decided_le col f.right) (decided_le col g.right))) [
      | inl all ↦ inl (at row col, record { from_top = below; to_bottom = all.0.0; from_left = behind; to_right = all.1.0 }, record { from_top = under; to_bottom = all.0.1; from_left = after; to_right = all.1.1 })
      | inr not_all ↦ inr (λ (p, c, d).
          let up = first p.row c.from_top d.from_top in
          let beside = left p.col c.from_left d.from_left in
          let a = c.to_bottom in let b = d.to_bottom in let e = c.to_right in let h = d.to_right in
          not_all ((omega arith, omega arith), (omega arith, omega arith)))
    ]

module _ (Corner : Place → Type 0) (Figure : Place → Rect → Type 0) (searchable : IsSearchable Corner Figure) where
  no_place_before : (p : Place) → Before p (at 0 0) → ⊥
  no_place_before p (inl above) = omega arith
  no_place_before p (inr left) = omega arith

  pub live_some : (live : List Place) × figures.AreLive Corner Figure live
  live_some =
      live_onward Corner Figure searchable 0 0 [] (record {
        in_order = λ i j d less lt. absurd (omega arith);
        each = λ p. ((λ (k, lt, is). absurd (omega arith)), λ x. absurd (no_place_before p x.0));
      })

  pub figures_some : (opens meets : Place → TextFault) (further : Rect → Reading TextFault (Unit {0})) → ((f : Rect) → HasAnswer (further f)) → HasAnswer (figures.figures_of Corner Figure opens meets further)
  figures_some opens meets further more =
      then_some (The (figures.AreLive Corner Figure)) (λ live. each_after (figures.figure_at Corner Figure opens meets further) [] live)
      (the_some (figures.AreLive Corner Figure) live_some)
      (λ live. after_some (figures.figure_at Corner Figure opens meets further) each [] live)
    where
      each : (earlier : List Rect) (p : Place) → HasAnswer (figures.figure_at Corner Figure opens meets further earlier p)
      each earlier p =
          then_some (TheOr (opens p) (Figure p)) _ (the_or_some (opens p) (Figure p) (searchable.figure_or_not p))
          (λ f. then_some (Refused (meets p) (Any (λ e. OnBorder e p ⊎ ShareACell f e) earlier)) _
          (refused_some (meets p) (Any (λ e. OnBorder e p ⊎ ShareACell f e) earlier) (decided_any (λ e. OnBorder e p ⊎ ShareACell f e) (λ e. decided_either (decided_on_border e p) (decided_share f e)) earlier))
          (λ _. then_some (further f) (λ _. Gave f) (more f) (λ _. gave_some f)))
