-- What holds, and what is summed, below a number.
use Rattle.std.specs.Prelude.{◌≡◌, ℕ, zero, suc, ◌+◌, ◌<◌, ◌≤◌, Bool, true, false}
use Rattle.std.proofs.Common.{refl, sym, arith, inl, inr}
use Rattle.std.proofs.lemmas.Bool.{and_parts, and_from, and_cases, cases_eq}
use Rattle.two_d.specs.Meaning.{all_below, sum_below}

pub all_below-at : (n : ℕ) (f : ℕ → Bool) → all_below n f ≡ true → (b : ℕ) → b < n → f b ≡ true
unfolding all_below
all_below-at zero f e b lt = absurd (omega arith)
all_below-at (suc n) f e b lt =
    let both = and_parts (all_below n f) (f n) e in
    elim (cases_eq b n) [ inl is ↦ rw is both.1 | inr other ↦ all_below-at n f both.0 b (omega arith) ]

pub all_below-from : (n : ℕ) (f : ℕ → Bool) → ((b : ℕ) → b < n → f b ≡ true) → all_below n f ≡ true
unfolding all_below
all_below-from zero f h = refl
all_below-from (suc n) f h = and_from _ _ (all_below-from n f (λ b lt. h b (omega arith))) (h n (omega arith))

-- two sums that differ at one place
pub sum_below-other : (n : ℕ) (f g : ℕ → ℕ) → ((c : ℕ) → c < n → f c ≡ g c) → sum_below n f ≡ sum_below n g
unfolding sum_below
sum_below-other zero f g h = refl
sum_below-other (suc n) f g h = omega (arith, sum_below-other n f g (λ c lt. h c (omega arith)), h n (omega arith))

pub sum_below-change : (n : ℕ) (f g : ℕ → ℕ) (b : ℕ) → b < n → ((c : ℕ) → (c ≡ b → ⊥) → f c ≡ g c) →
    sum_below n f + g b ≡ sum_below n g + f b
unfolding sum_below
sum_below-change zero f g b lt h = absurd (omega arith)
sum_below-change (suc n) f g b lt h =
    elim (cases_eq b n) [
      | inl is ↦ rw is (omega (arith, sum_below-other n f g (λ c lt. h c (λ e. omega arith))))
      | inr other ↦ omega (arith, sum_below-change n f g b (omega arith) h, h n (λ e. other (sym e)))
    ]

pub sum_below-le : (n : ℕ) (f : ℕ → ℕ) → ((c : ℕ) → f c ≤ 1) → sum_below n f ≤ n
unfolding sum_below
sum_below-le zero f h = omega arith
sum_below-le (suc n) f h = omega (arith, sum_below-le n f h, h n)

pub sum_below-more : (n : ℕ) (f g : ℕ → ℕ) → ((c : ℕ) → f c ≤ g c) → sum_below n f ≤ sum_below n g
unfolding sum_below
sum_below-more zero f g h = omega arith
sum_below-more (suc n) f g h = omega (arith, sum_below-more n f g h, h n)

-- a place where a test fails that doesn't hold below n
pub all_below-fails : (n : ℕ) (f : ℕ → Bool) → all_below n f ≡ false → (b : ℕ) × (b < n) × (f b ≡ false)
unfolding all_below
all_below-fails zero f e = absurd (cc)
all_below-fails (suc n) f e =
    elim (and_cases (all_below n f) (f n) e) [
      | inl below ↦ let (b, lt, fails) = all_below-fails n f below in (b, omega arith, fails)
      | inr here ↦ (n, omega arith, here)
    ]

pub sum_below-none : (n : ℕ) (f : ℕ → ℕ) → ((c : ℕ) → c < n → f c ≡ 0) → sum_below n f ≡ 0
unfolding sum_below
sum_below-none zero f h = refl
sum_below-none (suc n) f h = omega (arith, sum_below-none n f (λ c lt. h c (omega arith)), h n (omega arith))

pub sum_below-at : (n : ℕ) (f : ℕ → ℕ) (c : ℕ) → c < n → f c ≤ sum_below n f
unfolding sum_below
sum_below-at zero f c lt = absurd (omega arith)
sum_below-at (suc n) f c lt = elim (cases_eq c n) [ inl is ↦ rw is (omega arith) | inr other ↦ omega (arith, sum_below-at n f c (omega arith)) ]
