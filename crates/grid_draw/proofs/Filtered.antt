-- The numbers of a range that pass a test: none, one, or all from one on.
use Rattle.std.specs.Prelude.{◌≡◌, ◌≢◌, ◌+◌, ◌<◌, ◌≤◌, ℕ, zero, suc, Bool, true, false, cond}
use Rattle.std.specs.Prelude.{List, [], ◌∷◌}
use Rattle.std.specs.List.{filter, range_with_len}
use Rattle.std.proofs.Common.{arith, refl, ap, ◌∙◌, inl, inr}
use Rattle.std.proofs.lemmas.Bool.{cases_lt, cases_eq}

-- the first of a range is left out, or it stands before the rest
abbrev step : (ℕ → Bool) → ℕ → ℕ → Bool → List ℕ
step p a n passes =
    cond passes (a ∷ filter p (range_with_len (a + 1) n)) (filter p (range_with_len (a + 1) n))

-- no number passes
pub filter_none : (p : ℕ → Bool) (a n : ℕ) → ((i : ℕ) → a ≤ i → i < a + n → p i ≡ false)
    → filter p (range_with_len a n) ≡ []
filter_none p a zero none = refl
filter_none p a (suc n) none =
    ap (step p a n) (none a (omega arith) (omega arith))
    ∙ filter_none p (a + 1) n (λ i low high. none i (omega arith) (omega arith))

-- one number passes
pub filter_one : (p : ℕ → Bool) (a n i : ℕ) → a ≤ i → i < a + n → p i ≡ true
    → ((j : ℕ) → a ≤ j → j < a + n → j ≢ i → p j ≡ false)
    → filter p (range_with_len a n) ≡ i ∷ []
filter_one p a zero i low high passes others = absurd (omega arith)
filter_one p a (suc n) i low high passes others = elim (cases_eq a i) [
  | inl e ↦
      ap (step p a n) (ap p e ∙ passes)
      ∙ (ap (λ l. a ∷ l) (filter_none p (a + 1) n
      (λ j from to. others j (omega arith) (omega arith) (λ x. omega arith)))
      ∙ ap (λ x. x ∷ []) e)
  | inr other ↦
      (let lt : a < i = omega arith in
      ap (step p a n) (others a (omega arith) (omega arith) other)
      ∙ filter_one p (a + 1) n i (omega arith) (omega arith) passes
      (λ j from to x. others j (omega arith) (omega arith) x))
]

-- from one number on all pass
pub filter_rest : (p : ℕ → Bool) (a n first k : ℕ) → a ≤ first → a + n ≡ first + k
    → ((i : ℕ) → a ≤ i → i < first → p i ≡ false)
    → ((i : ℕ) → first ≤ i → i < first + k → p i ≡ true)
    → filter p (range_with_len a n) ≡ range_with_len first k
filter_rest p a zero first k le whole none all =
    let none_left : 0 ≡ k = omega arith in ap (range_with_len first) none_left
filter_rest p a (suc n) first k le whole none all = elim (cases_lt a first) [
  | inl before ↦
      ap (step p a n) (none a (omega arith) before)
      ∙ filter_rest p (a + 1) n first k (omega arith) (omega arith)
      (λ i from to. none i (omega arith) to) all
  | inr from_here ↦
      (let e : a ≡ first = omega arith in
      let long : suc n ≡ k = omega arith in
      ap (step p a n) (all a (omega arith) (omega arith))
      ∙ (ap (λ l. a ∷ l) (filter_rest p (a + 1) n (a + 1) n (omega arith) refl
      (λ i from to. absurd (omega arith)) (λ i from to. all i (omega arith) (omega arith)))
      ∙ (ap (range_with_len a) long ∙ ap (λ x. range_with_len x k) e)))
]
