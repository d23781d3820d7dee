-- Lists of numbers below a bound.
use Rattle.std.specs.Prelude.{◌≡◌, ℕ, zero, suc, ◌<◌, ◌≤◌, ◌⊎◌, Bool, true, false, List, [], ◌∷◌, ◌++◌, length, take, drop, slice_get, Some}
use Rattle.std.specs.List.{Contains, list_any, IsDistinct}
use Rattle.std.specs.Cmp.{nat_eq_equiv}
use Rattle.std.proofs.Common.{arith, refl, sym, ap, ◌∙◌, inl, inr, eqb, get_or}
use Rattle.std.proofs.lemmas.Bool.{cases_eq, cases_lt, eqb-true, ne_eqb, false≢true}
use Rattle.std.proofs.lemmas.List.Elements.{Contains-append_right, Contains-append_cases}
use Rattle.std.proofs.lemmas.Option.{slice_get_within, slice_get-get_or, get_or_from_slice_get}
use Rattle.std.proofs.lemmas.Map.Keys.{IsDistinct-from_apart}
use Rattle.std.proofs.lemmas.Map.Steps.{length-le_from_distinct_below, le-length_from_below}
use Rattle.std.proofs.lemmas.Map.Views.{list_any-from_Contains, Contains-from_any}
use Rattle.two_d.proofs.Decide.{Decided}

pub any_in : (q : ℕ) (xs : List ℕ) → Contains xs q → list_any (eqb q) xs ≡ true
any_in q xs c = list_any-from_Contains nat_eq_equiv q xs c

pub in_any : (q : ℕ) (xs : List ℕ) → list_any (eqb q) xs ≡ true → Contains xs q
in_any q xs h = Contains-from_any eqb-true q xs h

decided_bool : (b : Bool) (P : Type 0) → (P → b ≡ true) → (b ≡ true → P) → Decided P
decided_bool true P there back = inl (back refl)
decided_bool false P there back = inr (λ p. false≢true (there p))

pub decided_in : (q : ℕ) (xs : List ℕ) → Decided (Contains xs q)
decided_in q xs = decided_bool (list_any (eqb q) xs) (Contains xs q) (any_in q xs) (in_any q xs)

-- all but the one at i
abbrev without : List ℕ → ℕ → List ℕ
without xs i = take i xs ++ drop (suc i) xs

length_without : (xs : List ℕ) (i : ℕ) → i < length xs → suc (length (without xs i)) ≡ length xs
length_without [] i lt = absurd (omega arith)
length_without (x ∷ xs) zero lt = refl
length_without (x ∷ xs) (suc i) lt = ap suc (length_without xs i (omega arith))

-- what stands at another place stays
kept_without : (xs : List ℕ) (i k q : ℕ) → (k ≡ i → ⊥) → slice_get xs k ≡ Some q → Contains (without xs i) q
kept_without [] i k q apart is = absurd (cc)
kept_without (x ∷ xs) zero zero q apart is = absurd (apart refl)
kept_without (x ∷ xs) zero (suc k) q apart is = let lt = slice_get_within xs k q is in (k, lt, get_or_from_slice_get xs k q q is)
kept_without (x ∷ xs) (suc i) zero q apart is = (0, omega arith, cc)
kept_without (x ∷ xs) (suc i) (suc k) q apart is = let (j, lt, here) = kept_without xs i k q (λ same. apart (ap suc same)) is in (suc j, omega arith, here)

abbrev pub HasAllBelow : List ℕ → ℕ → Type 0
HasAllBelow xs n = (q : ℕ) → q < n → Contains xs q

-- a list of n numbers that has all below n can spare none
no_spare : (xs : List ℕ) (n i : ℕ) → length xs ≡ n → i < n → HasAllBelow (without xs i) n → ⊥
no_spare xs n i long lt all =
    let le = le-length_from_below (without xs i) n (λ q below. any_in q (without xs i) (all q below)) in
    let one = length_without xs i (omega arith) in
    omega arith

pub place_of : (xs : List ℕ) (q : ℕ) → Contains xs q → (k : ℕ) × (k < length xs) × (slice_get xs k ≡ Some q)
place_of xs q (k, lt, is) = (k, lt, slice_get-get_or xs k q lt ∙ ap (λ x. Some x) is)

-- so each of them is below n
pub all_below : (xs : List ℕ) (n i y : ℕ) → length xs ≡ n → HasAllBelow xs n → slice_get xs i ≡ Some y → y < n
all_below xs n i y long all is = elim (cases_lt y n) [
  | inl less ↦ less
  | inr more ↦ absurd (no_spare xs n i long (let lt = slice_get_within xs i y is in omega arith) (λ q below.
      let (k, lt, here) = place_of xs q (all q below) in
      kept_without xs i k q (λ same. let e : Some q ≡ Some y = sym here ∙ (ap (slice_get xs) same ∙ is) in let f : q ≡ y = cc in omega arith) here))
]

-- and stands in it once
pub all_once : (xs : List ℕ) (n i j y : ℕ) → length xs ≡ n → HasAllBelow xs n → slice_get xs i ≡ Some y → slice_get xs j ≡ Some y → i < j → ⊥
all_once xs n i j y long all at_i at_j less =
    no_spare xs n j long (let lt = slice_get_within xs j y at_j in omega arith) (λ q below.
    let (k, lt, here) = place_of xs q (all q below) in
    elim (cases_eq k j) [
      | inl same ↦ kept_without xs j i q (λ e. omega arith) (at_i ∙ (sym at_j ∙ (ap (slice_get xs) (sym same) ∙ here)))
      | inr apart ↦ kept_without xs j k q apart here
    ])

abbrev pub AreApart : List ℕ → Type 0
AreApart xs = (i j x : ℕ) → slice_get xs i ≡ Some x → slice_get xs j ≡ Some x → i < j → ⊥

abbrev pub AreBelow : List ℕ → ℕ → Type 0
AreBelow xs n = (i x : ℕ) → slice_get xs i ≡ Some x → x < n

pub distinct_of : (xs : List ℕ) → AreApart xs → IsDistinct eqb xs
distinct_of xs apart = IsDistinct-from_apart eqb xs (λ i j d less lt.
    ne_eqb (get_or xs i d) (get_or xs j d) (λ same.
    apart i j (get_or xs i d) (slice_get-get_or xs i d (omega arith)) (slice_get-get_or xs j d lt ∙ ap (λ x. Some x) (sym same)) less))

-- numbers below n of which no two are equal are at most n
pub few : (xs : List ℕ) (n : ℕ) → AreApart xs → AreBelow xs n → length xs ≤ n
few xs n apart below = length-le_from_distinct_below xs n (distinct_of xs apart) (λ q h.
    let (k, lt, is) = place_of xs q (in_any q xs h) in below k q is)

-- n of them are all
pub all_there : (xs : List ℕ) (n : ℕ) → AreApart xs → AreBelow xs n → length xs ≡ n → HasAllBelow xs n
all_there xs n apart below long q lt = elim (decided_in q xs) [
  | inl there ↦ there
  | inr bare ↦ absurd (let le = few (q ∷ xs) n (more_apart bare) more_below in omega arith)
]
  where
    more_below : AreBelow (q ∷ xs) n
    more_below zero x is = let e : q ≡ x = cc in omega arith
    more_below (suc i) x is = below i x is

    more_apart : (Contains xs q → ⊥) → AreApart (q ∷ xs)
    more_apart bare zero zero x at_i at_j less = omega arith
    more_apart bare zero (suc j) x at_i at_j less =
        let e : q ≡ x = cc in
        bare (j, slice_get_within xs j x at_j, get_or_from_slice_get xs j x q at_j ∙ sym e)
    more_apart bare (suc i) zero x at_i at_j less = omega arith
    more_apart bare (suc i) (suc j) x at_i at_j less = apart i j x at_i at_j (omega arith)

-- a list and one more
pub at_end : (xs : List ℕ) (x : ℕ) → slice_get (xs ++ x ∷ []) (length xs) ≡ Some x
at_end [] x = refl
at_end (y ∷ ys) x = at_end ys x

pub before_end : (xs : List ℕ) (x k : ℕ) → k < length xs → slice_get (xs ++ x ∷ []) k ≡ slice_get xs k
before_end [] x k lt = absurd (omega arith)
before_end (y ∷ ys) x zero lt = refl
before_end (y ∷ ys) x (suc k) lt = before_end ys x k (omega arith)

pub in_more : (xs : List ℕ) (x q : ℕ) → Contains (xs ++ x ∷ []) q → Contains xs q ⊎ (q ≡ x)
in_more xs x q c = elim (Contains-append_cases xs (x ∷ []) q c) [
  | inl there ↦ inl there
  | inr (zero, lt, is) ↦ inr (sym is)
  | inr (suc k, lt, is) ↦ absurd (omega arith)
]

pub last_in : (xs : List ℕ) (x : ℕ) → Contains (xs ++ x ∷ []) x
last_in xs x = Contains-append_right xs (x ∷ []) x (0, omega arith, refl)

pub place_in_take : (xs : List ℕ) (j q : ℕ) → Contains (take j xs) q → (i : ℕ) × (i < j) × (slice_get xs i ≡ Some q)
place_in_take xs j q c = let (k, lt, is) = place_of (take j xs) q c in go xs j k is
  where
    go : (ys : List ℕ) (n k : ℕ) → slice_get (take n ys) k ≡ Some q → (i : ℕ) × (i < n) × (slice_get ys i ≡ Some q)
    go ys zero k is = absurd (cc)
    go [] (suc n) k is = absurd (cc)
    go (y ∷ ys) (suc n) zero is = (0, omega arith, is)
    go (y ∷ ys) (suc n) (suc k) is = let (i, lt, here) = go ys n k is in (suc i, omega arith, here)

pub take_place : (xs : List ℕ) (j i q : ℕ) → i < j → slice_get xs i ≡ Some q → Contains (take j xs) q
take_place xs zero i q less is = absurd (omega arith)
take_place [] (suc j) i q less is = absurd (cc)
take_place (x ∷ xs) (suc j) zero q less is = (0, omega arith, cc)
take_place (x ∷ xs) (suc j) (suc i) q less is = let (k, lt, here) = take_place xs j i q (omega arith) is in (suc k, omega arith, here)

pub same_take : (xs ys : List ℕ) (i : ℕ) → i ≤ length xs → i ≤ length ys → ((j : ℕ) → j < i → slice_get xs j ≡ slice_get ys j) → take i xs ≡ take i ys
same_take xs ys zero short_x short_y same = refl
same_take [] ys (suc i) short_x short_y same = absurd (omega arith)
same_take (x ∷ xs) [] (suc i) short_x short_y same = absurd (omega arith)
same_take (x ∷ xs) (y ∷ ys) (suc i) short_x short_y same =
    let first : x ≡ y = (let e = same 0 (omega arith) in cc) in
    let rest = same_take xs ys i (omega arith) (omega arith) (λ j lt. same (suc j) (omega arith)) in
    cc
