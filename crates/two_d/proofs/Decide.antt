-- Facts that hold or don't.
use Rattle.std.proofs.Common.{◌≡◌, ℕ, zero, suc, ◌+◌, ◌-◌, ◌<◌, ◌≤◌, ◌⊎◌, inl, inr, subst, arith}
use Rattle.std.proofs.lemmas.Bool.{cases_eq, cases_lt, cases_order}
use Rattle.two_d.specs.Places.{IsLeast}

abbrev pub Decided : Type 0 → Type 0
Decided P = P ⊎ (P → ⊥)

pub decided_both : {P Q : Type 0} → Decided P → Decided Q → Decided (P × Q)
decided_both (inl p) (inl q) = inl (p, q)
decided_both (inl p) (inr nq) = inr (λ x. nq x.1)
decided_both (inr np) q = inr (λ x. np x.0)

pub decided_three : {P Q R : Type 0} → Decided P → Decided Q → Decided R → Decided (P × Q × R)
decided_three (inl p) (inl q) (inl r) = inl (p, q, r)
decided_three (inl p) (inl q) (inr nr) = inr (λ x. nr x.2)
decided_three (inl p) (inr nq) r = inr (λ x. nq x.1)
decided_three (inr np) q r = inr (λ x. np x.0)

pub decided_four : {P Q R S : Type 0} → Decided P → Decided Q → Decided R → Decided S → Decided (P × Q × R × S)
decided_four (inl p) (inl q) (inl r) (inl s) = inl (p, q, r, s)
decided_four (inl p) (inl q) (inl r) (inr ns) = inr (λ x. ns x.3)
decided_four (inl p) (inl q) (inr nr) s = inr (λ x. nr x.2)
decided_four (inl p) (inr nq) r s = inr (λ x. nq x.1)
decided_four (inr np) q r s = inr (λ x. np x.0)

pub decided_either : {P Q : Type 0} → Decided P → Decided Q → Decided (P ⊎ Q)
decided_either (inl p) q = inl (inl p)
decided_either (inr np) (inl q) = inl (inr q)
decided_either (inr np) (inr nq) = inr (λ x. elim x [ inl p ↦ np p | inr q ↦ nq q ])

pub decided_not : {P : Type 0} → Decided P → Decided (P → ⊥)
decided_not (inl p) = inr (λ np. np p)
decided_not (inr np) = inl np

-- the first of n numbers from `from` on that passes, or none
pub first_from : (P : ℕ → Type 0) → ((k : ℕ) → Decided (P k)) → (from n : ℕ) → ((k : ℕ) × (from ≤ k) × (k < from + n) × P k × ((j : ℕ) → from ≤ j → j < k → P j → ⊥)) ⊎ ((k : ℕ) → from ≤ k → k < from + n → P k → ⊥)
first_from P d from zero = inr (λ k low high p. omega arith)
first_from P d from (suc n) = elim (d from) [
  | inl here ↦ inl (from, omega arith, omega arith, here, λ j low high p. omega arith)
  | inr bare ↦ elim (first_from P d (from + 1) n) [
    | inl (k, low, high, here, none) ↦ inl (
      k,
      omega arith,
      omega arith,
      here,
      λ j jlow jhigh p. elim (cases_eq j from) [
        | inl same ↦ bare (subst P same p)
        | inr other ↦ none j (omega arith) jhigh p
      ],
    )
    | inr none ↦ inr (λ k low high p. elim (cases_eq k from) [
      | inl same ↦ bare (subst P same p)
      | inr other ↦ none k (omega arith) (omega arith) p
    ])
  ]
]

-- the least number that passes, or none, where none passes from a bound on
pub least_below : (P : ℕ → Type 0) → ((k : ℕ) → Decided (P k)) → (n : ℕ) → ((k : ℕ) → P k → k < n) → ((k : ℕ) × IsLeast P k) ⊎ ((k : ℕ) → P k → ⊥)
least_below P d n below = elim (first_from P d 0 n) [
  | inl (k, low, high, here, first) ↦ inl (k, record { holds = here; none_below = λ j less p. first j (omega arith) less p })
  | inr none ↦ inr (λ k p. let lt = below k p in none k (omega arith) (omega arith) p)
]

-- a fact on each number strictly between two
pub decided_between : (P : ℕ → Type 0) → ((k : ℕ) → Decided (P k)) → (low high : ℕ) → Decided ((k : ℕ) → low < k → k < high → P k)
decided_between P d low high = elim (first_from (λ k. P k → ⊥) (λ k. decided_not (d k)) (low + 1) (high - low - 1)) [
  | inl (k, from, to, fails, first) ↦ inr (λ all. fails (all k (omega arith) (omega arith)))
  | inr none ↦ inl (λ k above below. elim (d k) [ inl p ↦ p | inr np ↦ absurd (none k (omega arith) (omega arith) np) ])
]

pub decided_lt : (a b : ℕ) → Decided (a < b)
decided_lt a b = elim (cases_lt a b) [ inl less ↦ inl less | inr more ↦ inr (λ less. omega arith) ]

-- a fact on each number below a bound
pub decided_below : (P : ℕ → Type 0) → ((k : ℕ) → Decided (P k)) → (n : ℕ) → Decided ((k : ℕ) → k < n → P k)
decided_below P d n = elim (first_from (λ k. P k → ⊥) (λ k. decided_not (d k)) 0 n) [
  | inl (k, from, to, fails, first) ↦ inr (λ all. fails (all k (omega arith)))
  | inr none ↦ inl (λ k below. elim (d k) [ inl p ↦ p | inr np ↦ absurd (none k (omega arith) (omega arith) np) ])
]

-- the end of a run: the first number from `from` on at which a fact fails that fails from w on
pub end_of_run : (P : ℕ → Type 0) → ((k : ℕ) → Decided (P k)) → (from w : ℕ) → ((k : ℕ) → w ≤ k → P k → ⊥) → (k : ℕ) × (from ≤ k) × ((j : ℕ) → from ≤ j → j < k → P j) × (P k → ⊥)
end_of_run P d from w past = elim (first_from (λ k. P k → ⊥) (λ k. decided_not (d k)) from (w + 1)) [
  | inl (k, low, high, fails, first) ↦ (k, low, (λ j jlow jhigh. elim (d j) [ inl p ↦ p | inr np ↦ absurd (first j jlow jhigh np) ]), fails)
  | inr none ↦ absurd (none (from + w) (omega arith) (omega arith) (past (from + w) (omega arith)))
]

-- two ends of one run are one
pub same_end : (P : ℕ → Type 0) (from a b : ℕ) → from < a → from < b → ((k : ℕ) → from < k → k < a → P k) → ((k : ℕ) → from < k → k < b → P k) → (P a → ⊥) → (P b → ⊥) → a ≡ b
same_end P from a b after_a after_b to_a to_b end_a end_b = elim (cases_order a b) [
  | inl same ↦ same
  | inr (inl less) ↦ absurd (end_a (to_b a after_a less))
  | inr (inr more) ↦ absurd (end_b (to_a b after_b more))
]
