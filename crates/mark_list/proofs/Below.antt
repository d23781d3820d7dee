-- Sums of the first numbers of a list, and the marks that are set before a place.
use Rattle.std.specs.Prelude.{◌≡◌, ◌≢◌, ℕ, zero, suc, ◌+◌, ◌<◌, ◌≤◌, List, [], Bool, true, false, length, slice_index_or, slice_set}
use Rattle.std.proofs.Common.{refl, sym, ◌∙◌, ap, arith, inl, inr}
use Rattle.std.proofs.lemmas.Bool.{cases_eq, cases_lt}
use Rattle.std.proofs.lemmas.List.{get_or-set_same, get_or-set_other, get_or_past, length-set}
use Rattle.mark_list.specs.Marks.{at, sum_before, is_marked, one_if, count_before}

pub sum_before-none : (xs : List ℕ) → sum_before xs 0 ≡ 0
unfolding sum_before
sum_before-none xs = refl

pub sum_before-next : (xs : List ℕ) (n : ℕ) → sum_before xs (n + 1) ≡ sum_before xs n + at xs n
unfolding sum_before
sum_before-next xs n = let next : n + 1 ≡ suc n = omega arith in rw next refl

pub sum_before-same : (xs ys : List ℕ) → ((i : ℕ) → at ys i ≡ at xs i) → (n : ℕ) → sum_before ys n ≡ sum_before xs n
unfolding sum_before
sum_before-same xs ys same zero = refl
sum_before-same xs ys same (suc n) = omega (arith, sum_before-same xs ys same n, same n)

pub sum_before-set_early : (xs : List ℕ) (i v n : ℕ) → n ≤ i → sum_before (slice_set xs i v) n ≡ sum_before xs n
unfolding sum_before
sum_before-set_early xs i v zero le = refl
sum_before-set_early xs i v (suc n) le =
    let here = get_or-set_other xs i n v 0 (λ e. omega arith) in
    omega (arith, sum_before-set_early xs i v n (omega arith), here)

pub sum_before-set_past : (xs : List ℕ) (i v n : ℕ) → i < length xs → i < n → sum_before (slice_set xs i v) n + at xs i ≡ sum_before xs n + v
unfolding sum_before
sum_before-set_past xs i v zero there lt = absurd (omega arith)
sum_before-set_past xs i v (suc n) there lt = elim (cases_eq i n) [
  | inl is ↦ let here = get_or-set_same xs i v 0 there in rw (← is) (omega (arith, sum_before-set_early xs i v i (omega arith), here))
  | inr other ↦ let here = get_or-set_other xs i n v 0 (λ e. other (sym e)) in omega (arith, sum_before-set_past xs i v n there (omega arith), here)
]

pub sum_before-more : (xs : List ℕ) (m n : ℕ) → m ≤ n → sum_before xs m ≤ sum_before xs n
unfolding sum_before
sum_before-more xs m zero le = let none : m ≡ 0 = omega arith in rw none (omega arith)
sum_before-more xs m (suc n) le = elim (cases_eq m (suc n)) [
  | inl is ↦ rw is (omega arith)
  | inr other ↦ omega (arith, sum_before-more xs m n (omega arith))
]

pub sum_before-at : (xs : List ℕ) (i n : ℕ) → i < n → sum_before xs i + at xs i ≤ sum_before xs n
sum_before-at xs i n lt = omega (arith, sum_before-next xs i, sum_before-more xs (i + 1) n (omega arith))

pub sum_before-past : (xs : List ℕ) (n : ℕ) → length xs ≤ n → sum_before xs n ≡ sum_before xs (length xs)
unfolding sum_before
sum_before-past xs zero le = let none : length xs ≡ 0 = omega arith in rw none refl
sum_before-past xs (suc n) le = elim (cases_eq (length xs) (suc n)) [
  | inl is ↦ rw is refl
  | inr other ↦ let here = get_or_past xs n 0 (omega arith) in omega (arith, sum_before-past xs n (omega arith), here)
]

pub count_before-none : (marks : List Bool) → count_before marks 0 ≡ 0
unfolding count_before
count_before-none marks = refl

pub count_before-next : (marks : List Bool) (n : ℕ) → count_before marks (n + 1) ≡ count_before marks n + one_if (is_marked marks n)
unfolding count_before
count_before-next marks n = let next : n + 1 ≡ suc n = omega arith in rw next refl

pub count_before-same : (marks new : List Bool) → ((i : ℕ) → is_marked new i ≡ is_marked marks i) → (n : ℕ) → count_before new n ≡ count_before marks n
unfolding count_before
count_before-same marks new same zero = refl
count_before-same marks new same (suc n) = omega (arith, count_before-same marks new same n, ap one_if (same n))

pub count_before-set_early : (marks : List Bool) (i : ℕ) (set : Bool) (n : ℕ) → n ≤ i → count_before (slice_set marks i set) n ≡ count_before marks n
unfolding count_before
count_before-set_early marks i set zero le = refl
count_before-set_early marks i set (suc n) le =
    let here = get_or-set_other marks i n set false (λ e. omega arith) in
    omega (arith, count_before-set_early marks i set n (omega arith), ap one_if here)

pub count_before-set_past : (marks : List Bool) (i : ℕ) (set : Bool) (n : ℕ) → i < length marks → i < n →
    count_before (slice_set marks i set) n + one_if (is_marked marks i) ≡ count_before marks n + one_if set
unfolding count_before
count_before-set_past marks i set zero there lt = absurd (omega arith)
count_before-set_past marks i set (suc n) there lt = elim (cases_eq i n) [
  | inl is ↦ let here = get_or-set_same marks i set false there in rw (← is) (omega (arith, count_before-set_early marks i set i (omega arith), ap one_if here))
  | inr other ↦ let here = get_or-set_other marks i n set false (λ e. other (sym e)) in omega (arith, count_before-set_past marks i set n there (omega arith), ap one_if here)
]

pub count_before-more : (marks : List Bool) (m n : ℕ) → m ≤ n → count_before marks m ≤ count_before marks n
unfolding count_before
count_before-more marks m zero le = let none : m ≡ 0 = omega arith in rw none (omega arith)
count_before-more marks m (suc n) le = elim (cases_eq m (suc n)) [
  | inl is ↦ rw is (omega arith)
  | inr other ↦ omega (arith, count_before-more marks m n (omega arith))
]

pub count_before-at : (marks : List Bool) (i n : ℕ) → i < n → count_before marks i + one_if (is_marked marks i) ≤ count_before marks n
count_before-at marks i n lt = omega (arith, count_before-next marks i, count_before-more marks (i + 1) n (omega arith))

pub count_before-past : (marks : List Bool) (n : ℕ) → length marks ≤ n → count_before marks n ≡ count_before marks (length marks)
unfolding count_before
count_before-past marks zero le = let none : length marks ≡ 0 = omega arith in rw none refl
count_before-past marks (suc n) le = elim (cases_eq (length marks) (suc n)) [
  | inl is ↦ rw is refl
  | inr other ↦ let here = get_or_past marks n false (omega arith) in omega (arith, count_before-past marks n (omega arith), ap one_if here)
]

one-le : (t : Bool) → one_if t ≤ 1
one-le true = omega arith
one-le false = omega arith

pub count_before-few : (marks : List Bool) (n : ℕ) → count_before marks n ≤ n
unfolding count_before
count_before-few marks zero = omega arith
count_before-few marks (suc n) = omega (arith, count_before-few marks n, one-le (is_marked marks n))

-- no more marks are set than there are
pub count_before-le : (marks : List Bool) (n : ℕ) → count_before marks n ≤ length marks
count_before-le marks n = elim (cases_lt n (length marks)) [
  | inl lt ↦ omega (arith, count_before-few marks n)
  | inr past ↦ omega (arith, count_before-few marks (length marks), count_before-past marks n past)
]

-- and fewer, where one isn't
pub count_before-lt : (marks : List Bool) (i n : ℕ) → i < length marks → is_marked marks i ≡ false → count_before marks n < length marks
count_before-lt marks i n lt unset =
    omega (arith, count_before-le (slice_set marks i true) (length marks), count_before-set_past marks i true (length marks) lt lt, ap one_if unset, length-set marks i true, most)
  where
    most : count_before marks n ≤ count_before marks (length marks)
    most = elim (cases_lt n (length marks)) [ inl below ↦ count_before-more marks n (length marks) (omega arith) | inr past ↦ omega (arith, count_before-past marks n past) ]

pub sum_before-nil : (n : ℕ) → sum_before [] n ≡ 0
unfolding sum_before
sum_before-nil zero = refl
sum_before-nil (suc n) = omega (arith, sum_before-nil n)

pub count_before-nil : (n : ℕ) → count_before [] n ≡ 0
unfolding count_before
count_before-nil zero = refl
count_before-nil (suc n) = omega (arith, count_before-nil n)
