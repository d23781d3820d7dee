-- A list as long as n that has each number below n has no other.
use Rattle.std.specs.Prelude.{◌≡◌, Some, slice_get, ℕ, zero, suc, ◌+◌, ◌<◌, ◌≤◌, ◌==◌, Bool, true, false, List, [], ◌∷◌, length, slice_index_or}
use Rattle.std.specs.List.{Contains}
use Rattle.std.proofs.Common.{refl, ap, arith, inl, inr}
use Rattle.std.proofs.lemmas.Bool.{cases_eq, cases_lt, eq-eqb, ne_eqb}
use Rattle.two_d.specs.Programs.{ModuleForm}
use Rattle.two_d.specs.Sound.{IsOrder}
use Rattle.two_d.proofs.Sourced.{IsAmong}

abbrev pub one : Bool → ℕ
one true = 1
one false = 0

-- how often b stands in the list, and how often any number below n does
abbrev pub times : ℕ → List ℕ → ℕ
times b [] = 0
times b (x ∷ xs) = one (x == b) + times b xs

abbrev pub times_below : ℕ → List ℕ → ℕ
times_below zero xs = 0
times_below (suc n) xs = times_below n xs + times n xs

abbrev hits : ℕ → ℕ → ℕ
hits zero x = 0
hits (suc n) x = hits n x + one (x == n)

hits_past : (n x : ℕ) → n ≤ x → hits n x ≡ 0
hits_past zero x le = refl
hits_past (suc n) x le = let e : one (x == n) ≡ 0 = ap one (ne_eqb x n (λ e. omega (arith, e, le))) in omega (arith, e, hits_past n x (omega (arith, le)))

hits_few : (n x : ℕ) → hits n x ≤ 1
hits_few zero x = omega arith
hits_few (suc n) x = elim (cases_eq x n) [
  | inl is ↦ let e : one (x == n) ≡ 1 = ap one (eq-eqb x n is) in omega (arith, e, hits_past n x (omega (arith, is)))
  | inr other ↦ let e : one (x == n) ≡ 0 = ap one (ne_eqb x n other) in omega (arith, e, hits_few n x)
]

more : (n x : ℕ) (xs : List ℕ) → times_below n (x ∷ xs) ≡ hits n x + times_below n xs
more zero x xs = refl
more (suc n) x xs = omega (arith, more n x xs)

none : (n : ℕ) → times_below n [] ≡ 0
none zero = refl
none (suc n) = omega (arith, none n)

pub few : (n : ℕ) (xs : List ℕ) → times_below n xs ≤ length xs
few n [] = omega (arith, none n)
few n (x ∷ xs) = omega (arith, more n x xs, hits_few n x, few n xs)

fewer : (n : ℕ) (xs : List ℕ) (y : ℕ) → IsAmong y xs → n ≤ y → times_below n xs < length xs
fewer n [] y among le = absurd among
fewer n (x ∷ xs) y (inl is) le = omega (arith, more n x xs, hits_past n x (omega (arith, is, le)), few n xs)
fewer n (x ∷ xs) y (inr among) le = omega (arith, more n x xs, hits_few n x, fewer n xs y among le)

pub once : (b : ℕ) (xs : List ℕ) (k : ℕ) → k < length xs → slice_index_or xs k b ≡ b → 1 ≤ times b xs
once b [] k lt e = absurd (omega arith)
once b (x ∷ xs) zero lt e = let f : one (x == b) ≡ 1 = ap one (eq-eqb x b e) in omega (arith, f)
once b (x ∷ xs) (suc k) lt e = omega (arith, once b xs k (omega (arith, lt)) e)

pub many : (n : ℕ) (xs : List ℕ) → ((b : ℕ) → b < n → Contains xs b) → n ≤ times_below n xs
many zero xs h = omega arith
many (suc n) xs h = let c = h n (omega arith) in omega (arith, many n xs (λ b lt. h b (omega (arith, lt))), once n xs c.0 c.1 c.2)

pub no_other : (n : ℕ) (xs : List ℕ) → ((b : ℕ) → b < n → Contains xs b) → length xs ≡ n → (y : ℕ) → IsAmong y xs → y < n
no_other n xs h long y among = elim (cases_lt y n) [
  | inl lt ↦ lt
  | inr le ↦ absurd (omega (arith, many n xs h, fewer n xs y among le, long))
]

among_get : (xs : List ℕ) (j b : ℕ) → slice_get xs j ≡ Some b → IsAmong b xs
among_get [] j b e = absurd (cc)
among_get (x ∷ xs) zero b e = inl (cc)
among_get (x ∷ xs) (suc j) b e = inr (among_get xs j b e)

-- a box of an order is there
pub box_in_order : (m : ModuleForm) (order : List ℕ) → IsOrder m order → (j b : ℕ) → slice_get order j ≡ Some b → b < length m.boxes
box_in_order m order is j b e = no_other (length m.boxes) order is.each is.once b (among_get order j b e)
