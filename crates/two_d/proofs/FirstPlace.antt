-- The first place of a kind that can be told and is bounded: there is one, or there is none.
use Rattle.std.specs.Prelude.{ℕ, ◌<◌, ◌⊎◌}
use Rattle.std.proofs.Common.{inl, inr, subst}
use Rattle.umix_base.specs.declared.place.Place.{Place}
use Rattle.two_d.specs.Places.{at, Before, IsFirstPlace, IsSecondPlace}
use Rattle.two_d.proofs.Decide.{Decided, decided_both, least_below}
use Rattle.two_d.proofs.LiveCorners.{decided_before}
use Rattle.two_d.proofs.OneReading.{IsOne, in_order_or}
use Rattle.two_d.proofs.SomeReading.{Found}

-- it lies above a row and left of a column
abbrev pub IsBounded : (Place → Type 0) → ℕ → ℕ → Type 0
IsBounded P rows columns = (p : Place) → P p → (p.row < rows) × (p.col < columns)

module _ (P : Place → Type 0) (told : (p : Place) → Decided (P p)) (rows columns : ℕ) (bounded : IsBounded P rows columns) where
  decided_in_row : (row : ℕ) → Decided ((col : ℕ) × P (at row col))
  decided_in_row row = elim (least_below (λ col. P (at row col)) (λ col. told (at row col)) columns (λ col p. (bounded (at row col) p).1)) [
    | inl (col, least) ↦ inl (col, least.holds)
    | inr none ↦ inr (λ (col, p). none col p)
  ]

  pub first_or_none : ((p : Place) × IsFirstPlace P p) ⊎ ((p : Place) → P p → ⊥)
  first_or_none = elim (least_below (λ row. (col : ℕ) × P (at row col)) decided_in_row rows (λ row (col, p). (bounded (at row col) p).0)) [
    | inr none ↦ inr (λ p it. none p.row (p.col, it))
    | inl (row, above) ↦ elim (least_below (λ col. P (at row col)) (λ col. told (at row col)) columns (λ col p. (bounded (at row col) p).1)) [
      | inr none ↦ absurd (none above.holds.0 above.holds.1)
      | inl (col, left) ↦ inl (
        at row col,
        record {
          holds = left.holds;
          none_before = λ q before p. elim before [
            | inl higher ↦ above.none_below q.row higher (q.col, p)
            | inr beside ↦ left.none_below q.col beside.1 (subst (λ r. P (at r q.col)) beside.0 p)
          ];
        },
      )
    ]
  ]

  pub first_place : Found (IsFirstPlace P)
  first_place = elim first_or_none [ inl first ↦ inl first | inr none ↦ inr (λ p first. none p first.holds) ]

  pub place_or_none : Found P
  place_or_none = elim first_or_none [ inl (p, first) ↦ inl (p, first.holds) | inr none ↦ inr none ]

-- whether one of the kind stands before a place
one_before : (P : Place → Type 0) (told : (p : Place) → Decided (P p)) (rows columns : ℕ) → IsBounded P rows columns → (p : Place) → Decided ((q : Place) × Before q p × P q)
one_before P told rows columns bounded p = elim (place_or_none (λ q. Before q p × P q) (λ q. decided_both (decided_before q p) (told q)) rows columns (λ q both. bounded q both.1)) [
  | inl (q, both) ↦ inl (q, both.0, both.1)
  | inr none ↦ inr (λ (q, before, its). none q (before, its))
]

pub second_place : (P : Place → Type 0) (told : (p : Place) → Decided (P p)) (rows columns : ℕ) → IsBounded P rows columns → Found (IsSecondPlace P)
second_place P told rows columns bounded =
    first_place (λ p. P p × ((q : Place) × Before q p × P q)) (λ p. decided_both (told p) (one_before P told rows columns bounded p)) rows columns (λ p both. bounded p both.0)

pub first_one : (P : Place → Type 0) → IsOne (IsFirstPlace P)
first_one P p q first also = elim (in_order_or p q) [
  | inl before ↦ absurd (also.none_before p before first.holds)
  | inr (inl same) ↦ same
  | inr (inr after) ↦ absurd (first.none_before q after also.holds)
]

-- of a kind without a second place there is one at most
pub no_second : (P : Place → Type 0) (told : (p : Place) → Decided (P p)) (rows columns : ℕ) → IsBounded P rows columns → ((p : Place) → IsSecondPlace P p → ⊥) → IsOne P
no_second P told rows columns bounded none p q is also = elim (in_order_or p q) [
  | inl before ↦ absurd (later p q before is also)
  | inr (inl same) ↦ same
  | inr (inr after) ↦ absurd (later q p after also is)
]
  where
    later : (p q : Place) → Before p q → P p → P q → ⊥
    later p q before is also = elim (first_or_none (λ p. P p × ((q : Place) × Before q p × P q)) (λ p. decided_both (told p) (one_before P told rows columns bounded p)) rows columns (λ p both. bounded p both.0)) [
      | inl (x, first) ↦ none x first
      | inr no_one ↦ no_one q (also, (p, before, is))
    ]
