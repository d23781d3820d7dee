-- Sums over the numbers below one, and over lists.
use Rattle.std.specs.Prelude.{◌≡◌, ◌⊎◌, ◌+◌, ◌-◌, ◌*◌, ◌<◌, ◌≤◌, ℕ, zero, suc, min, List, [], ◌∷◌, length, slice_get, Some}
use Rattle.std.proofs.Common.{arith, refl, sym, ap, ◌∙◌, inl, inr, cond, ltb, get_or}
use Rattle.std.proofs.lemmas.Bool.{cases_lt, lt-ltb, le-ltb}

-- f 0 + .. + f (n - 1)
abbrev pub total : ℕ → (ℕ → ℕ) → ℕ
total zero f = 0
total (suc n) f = total n f + f n

-- the sum of f over a list
abbrev pub added : {A : Type 0} → (A → ℕ) → List A → ℕ
added f [] = 0
added f (x ∷ xs) = f x + added f xs

pub total_le : (n : ℕ) (f g : ℕ → ℕ) → ((i : ℕ) → i < n → f i ≤ g i) → total n f ≤ total n g
total_le zero f g le = omega arith
total_le (suc n) f g le =
    let below = total_le n f g (λ i lt. le i (omega arith)) in
    let last = le n (omega arith) in
    omega arith

pub total_sum : (n : ℕ) (f g : ℕ → ℕ) → total n (λ i. f i + g i) ≡ total n f + total n g
total_sum zero f g = refl
total_sum (suc n) f g = let below = total_sum n f g in omega arith

pub total_zero : (n : ℕ) → total n (λ i. 0) ≡ 0
total_zero zero = refl
total_zero (suc n) = let below = total_zero n in omega arith

pub total_times : (n k : ℕ) (f : ℕ → ℕ) → total n (λ i. f i * k) ≡ total n f * k
total_times zero k f = omega arith
total_times (suc n) k f = let below = total_times n k f in omega arith

pub total_scaled : (n k : ℕ) (f : ℕ → ℕ) → total n (λ i. k * f i) ≡ k * total n f
total_scaled zero k f = omega arith
total_scaled (suc n) k f = let below = total_scaled n k f in omega arith

pub total_same : (n : ℕ) (f g : ℕ → ℕ) → ((i : ℕ) → f i ≡ g i) → total n f ≡ total n g
total_same zero f g same = refl
total_same (suc n) f g same = let below = total_same n f g same in let last = same n in omega arith

pub total_shift : (n : ℕ) (f : ℕ → ℕ) → total (suc n) f ≡ f 0 + total n (λ i. f (suc i))
total_shift zero f = omega arith
total_shift (suc n) f = let below = total_shift n f in omega arith

-- over the numbers of a list, and over the list
pub total_added : {A : Type 0} (f : A → ℕ) (xs : List A) (d : A) → total (length xs) (λ i. f (get_or xs i d)) ≡ added f xs
total_added f [] d = refl
total_added f (x ∷ xs) d = let shift = total_shift (length xs) (λ i. f (get_or (x ∷ xs) i d)) in let rest = total_added f xs d in omega arith

-- over rows and columns
abbrev pub area : ℕ → ℕ → (ℕ → ℕ → ℕ) → ℕ
area rows columns f = total rows (λ r. total columns (f r))

pub area_le : (rows columns : ℕ) (f g : ℕ → ℕ → ℕ) → ((r c : ℕ) → f r c ≤ g r c) → area rows columns f ≤ area rows columns g
area_le rows columns f g le = total_le rows (λ r. total columns (f r)) (λ r. total columns (g r)) (λ r lt. total_le columns (f r) (g r) (λ c less. le r c))

pub area_sum : (rows columns : ℕ) (f g : ℕ → ℕ → ℕ) → area rows columns (λ r c. f r c + g r c) ≡ area rows columns f + area rows columns g
area_sum rows columns f g =
    total_same rows (λ r. total columns (λ c. f r c + g r c)) (λ r. total columns (f r) + total columns (g r)) (λ r. total_sum columns (f r) (g r))
    ∙ total_sum rows (λ r. total columns (f r)) (λ r. total columns (g r))

pub area_zero : (rows columns : ℕ) → area rows columns (λ r c. 0) ≡ 0
area_zero rows columns = total_same rows (λ r. total columns (λ c. 0)) (λ r. 0) (λ r. total_zero columns) ∙ total_zero rows

-- the sum of areas is the area of the sum
pub added_areas : {A : Type 0} (rows columns : ℕ) (f : A → ℕ → ℕ → ℕ) (xs : List A) → added (λ x. area rows columns (f x)) xs ≡ area rows columns (λ r c. added (λ x. f x r c) xs)
added_areas rows columns f [] = sym (area_zero rows columns)
added_areas rows columns f (x ∷ xs) = ap (λ n. area rows columns (f x) + n) (added_areas rows columns f xs) ∙ sym (area_sum rows columns (f x) (λ r c. added (λ y. f y r c) xs))

pub added_le : {A : Type 0} (f g : A → ℕ) (xs : List A) → ((i : ℕ) (x : A) → slice_get xs i ≡ Some x → f x ≤ g x) → added f xs ≤ added g xs
added_le f g [] le = omega arith
added_le f g (x ∷ xs) le =
    let first = le 0 x refl in
    let rest = added_le f g xs (λ i y at. le (suc i) y at) in
    omega arith

pub added_none : {A : Type 0} (f : A → ℕ) (xs : List A) → ((i : ℕ) (x : A) → slice_get xs i ≡ Some x → f x ≡ 0) → added f xs ≡ 0
added_none f [] none = refl
added_none f (x ∷ xs) none =
    let first = none 0 x refl in
    let rest = added_none f xs (λ i y at. none (suc i) y at) in
    omega arith

-- where one of a list counts at most, and it counts at most k
pub added_one : {A : Type 0} (f : A → ℕ) (k : ℕ) (xs : List A) → ((i : ℕ) (x : A) → slice_get xs i ≡ Some x → f x ≤ k)
    → ((i j : ℕ) (x y : A) → slice_get xs i ≡ Some x → slice_get xs j ≡ Some y → 0 < f x → 0 < f y → i ≡ j) → added f xs ≤ k
added_one f k [] most one = omega arith
added_one {A} f k (x ∷ xs) most one = elim (cases_lt 0 (f x)) [
  | inl here ↦ (
      let first = most 0 x refl in
      let rest = added_none f xs (λ i y at. none here i y at) in
      omega arith)
  | inr bare ↦ (let rest = added_one f k xs (λ i y at. most (suc i) y at) (λ i j y z at_y at_z some other. let e = one (suc i) (suc j) y z at_y at_z some other in omega arith) in omega arith)
]
  where
    none : 0 < f x → (i : ℕ) (y : A) → slice_get xs i ≡ Some y → f y ≡ 0
    none here i y at = elim (cases_lt 0 (f y)) [
      | inl there ↦ absurd (let e = one 0 (suc i) x y refl at here there in omega arith)
      | inr bare ↦ omega arith
    ]

-- 1 for a number between two, 0 for others
abbrev pub between : ℕ → ℕ → ℕ → ℕ
between a b i = cond (ltb i a) 0 (cond (ltb b i) 0 1)

pub between_cases : (a b i : ℕ) → ((a ≤ i) × (i ≤ b) × (between a b i ≡ 1)) ⊎ (((i < a) ⊎ (b < i)) × (between a b i ≡ 0))
between_cases a b i = elim (cases_lt i a) [
  | inl low ↦ inr (inl low, ap (λ t. cond t 0 (cond (ltb b i) 0 1)) (lt-ltb i a low))
  | inr from ↦ elim (cases_lt b i) [
    | inl high ↦ inr (inr high, ap (λ t. cond t 0 (cond (ltb b i) 0 1)) (le-ltb i a from) ∙ ap (λ t. cond t 0 1) (lt-ltb b i high))
    | inr to ↦ inl (from, to, ap (λ t. cond t 0 (cond (ltb b i) 0 1)) (le-ltb i a from) ∙ ap (λ t. cond t 0 1) (le-ltb b i to))
  ]
]

pub total_between : (a b n : ℕ) → total n (between a b) ≡ min n (b + 1) - a
total_between a b zero = omega arith
total_between a b (suc n) =
    let below = total_between a b n in
    elim (between_cases a b n) [
      | inl (from, to, is) ↦ omega arith
      | inr (out, is) ↦ elim out [ inl low ↦ omega arith | inr high ↦ omega arith ]
    ]
