-- A reading has an answer.
use Rattle.std.specs.Prelude.{◌≡◌, ℕ, suc, zero, ◌+◌, ◌<◌, ◌⊎◌, Bool, true, false, IsTrue, List, [], ◌∷◌, ◌++◌, Some, Result, Ok, Err, slice_get, slice_index_or, length, Any}
use Rattle.std.proofs.Common.{refl, sym, subst, inl, inr, arith}
use Rattle.std.proofs.lemmas.Bool.{false≢true}
use Rattle.std.specs.List.{Contains}
use Rattle.std.proofs.lemmas.List.Elements.{Contains-append_right}
use Rattle.two_d.specs.Places.{IsLeast}
use Rattle.two_d.specs.Reading.{Reading, Then, goes_on, stops, Gave, gave, The, it, TheOr, found, missing, Refused, refused, passed, RefusedAt, refused_at, none, Told, went, failed, each, each_after, each_from}
use Rattle.two_d.proofs.Decide.{Decided}

abbrev pub HasAnswer : {F A : Type 0} → Reading F A → Type 0
HasAnswer {F} {A} m = (r : Result A F) × m r

pub then_some : {F A B : Type 0} (m : Reading F A) (k : A → Reading F B) → HasAnswer m → ((x : A) → HasAnswer (k x)) → HasAnswer (Then m k)
then_some m k (Ok x, here) rest = let (r, there) = rest x in (r, goes_on x here there)
then_some m k (Err f, here) rest = (Err f, stops f here)

pub refused_some : {F : Type 0} (f : F) (P : Type 0) → Decided P → HasAnswer (Refused f P)
refused_some f P (inl p) = (Err f, refused p)
refused_some f P (inr np) = (Ok tt, passed np)

pub least_some : {F : Type 0} (f : ℕ → F) (P : ℕ → Type 0) → ((k : ℕ) × IsLeast P k) ⊎ ((k : ℕ) → P k → ⊥) → HasAnswer (RefusedAt f (IsLeast P))
least_some f P (inl (k, least)) = (Err (f k), refused_at k least)
least_some f P (inr no_one) = (Ok tt, none (λ k least. no_one k least.holds))

pub each_some : {F A : Type 0} (k : ℕ → A → Reading F (Unit {0})) (xs : List A) → ((n i : ℕ) (x : A) → slice_get xs i ≡ Some x → HasAnswer (k n x)) → (n : ℕ) → HasAnswer (each_from k n xs)
each_some k [] some n = (Ok tt, gave)
each_some k (x ∷ xs) some n = then_some (k n x) (λ _. each_from k (n + 1) xs) (some n 0 x refl) (λ _. each_some k xs (λ n' i y is. some n' (suc i) y is) (n + 1))

pub decided_true : (b : Bool) → Decided (IsTrue b)
decided_true true = inl refl
decided_true false = inr false≢true

-- the one that has the property, or that there is none
abbrev pub Found : {A : Type 0} → (A → Type 0) → Type 0
Found {A} P = ((x : A) × P x) ⊎ ((x : A) → P x → ⊥)

pub gave_some : {F A : Type 0} (x : A) → HasAnswer (Gave {F = F} x)
gave_some x = (Ok x, gave)

pub the_some : {F A : Type 0} (P : A → Type 0) → (x : A) × P x → HasAnswer (The {F = F} P)
the_some P (x, p) = (Ok x, it x p)

pub the_or_some : {F A : Type 0} (f : F) (P : A → Type 0) → Found P → HasAnswer (TheOr f P)
the_or_some f P (inl (x, p)) = (Ok x, found x p)
the_or_some f P (inr no_one) = (Err f, missing no_one)

pub refused_at_some : {F A : Type 0} (f : A → F) (P : A → Type 0) → Found P → HasAnswer (RefusedAt f P)
refused_at_some f P (inl (x, p)) = (Err (f x), refused_at x p)
refused_at_some f P (inr no_one) = (Ok tt, none no_one)

pub told_some : {F G A : Type 0} (tell : F → G) (m : Reading F A) → HasAnswer m → HasAnswer (Told tell m)
told_some tell m (Ok x, here) = (Ok x, went x here)
told_some tell m (Err f, here) = (Err (tell f), failed f here)

pub list_some : {F A B : Type 0} (k : A → Reading F B) → ((x : A) → HasAnswer (k x)) → (xs : List A) → HasAnswer (each k xs)
list_some k some [] = gave_some []
list_some k some (x ∷ xs) =
    then_some (k x) (λ y. Then (each k xs) (λ ys. Gave (y ∷ ys))) (some x)
    (λ y. then_some (each k xs) (λ ys. Gave (y ∷ ys)) (list_some k some xs) (λ ys. gave_some (y ∷ ys)))

pub after_some : {F A B : Type 0} (k : List B → A → Reading F B) → ((before : List B) (x : A) → HasAnswer (k before x)) → (before : List B) (xs : List A) → HasAnswer (each_after k before xs)
after_some k some before [] = gave_some before
after_some k some before (x ∷ xs) =
    then_some (k before x) (λ y. each_after k (before ++ y ∷ []) xs) (some before x) (λ y. after_some k some (before ++ y ∷ []) xs)

pub decided_any : {A : Type 0} (Q : A → Type 0) → ((x : A) → Decided (Q x)) → (xs : List A) → Decided (Any Q xs)
decided_any Q d [] = inr (λ (k, x, lt, is, q). omega arith)
decided_any {A} Q d (y ∷ ys) = elim (d y) [
  | inl here ↦ inl (0, y, omega arith, refl, here)
  | inr bare ↦ elim (decided_any Q d ys) [
    | inl (k, x, lt, is, q) ↦ inl (suc k, x, omega arith, is, q)
    | inr no_one ↦ inr (λ (k, x, lt, is, q). by bare no_one k x lt is q)
  ]
]
  where
    by : (Q y → ⊥) → (Any Q ys → ⊥) → (k : ℕ) (x : A) → k < length (y ∷ ys) → slice_index_or (y ∷ ys) k x ≡ x → Q x → ⊥
    by bare no_one zero x lt is q = bare (subst Q (sym is) q)
    by bare no_one (suc k) x lt is q = no_one (k, x, omega arith, is, q)

-- what comes after may rest on what was read
pub then_some_of : {F A B : Type 0} (m : Reading F A) (k : A → Reading F B) → HasAnswer m → ((x : A) → m (Ok x) → HasAnswer (k x)) → HasAnswer (Then m k)
then_some_of m k (Ok x, here) rest = let (r, there) = rest x here in (r, goes_on x here there)
then_some_of m k (Err f, here) rest = (Err f, stops f here)

pub after_some_of : {F A B : Type 0} (k : List B → A → Reading F B) (xs : List A) → ((before : List B) (x : A) → Contains xs x → HasAnswer (k before x)) → (before : List B) → HasAnswer (each_after k before xs)
after_some_of k [] some before = gave_some before
after_some_of k (x ∷ xs) some before =
    then_some (k before x) (λ y. each_after k (before ++ y ∷ []) xs) (some before x (0, omega arith, refl))
    (λ y. after_some_of k xs (λ earlier z there. some earlier z (Contains-append_right (x ∷ []) xs z there)) (before ++ y ∷ []))

pub list_some_of : {F A B : Type 0} (k : A → Reading F B) (xs : List A) → ((x : A) → Contains xs x → HasAnswer (k x)) → HasAnswer (each k xs)
list_some_of k [] some = gave_some []
list_some_of k (x ∷ xs) some =
    then_some (k x) (λ y. Then (each k xs) (λ ys. Gave (y ∷ ys))) (some x (0, omega arith, refl))
    (λ y. then_some (each k xs) (λ ys. Gave (y ∷ ys)) (list_some_of k xs (λ z there. some z (Contains-append_right (x ∷ []) xs z there))) (λ ys. gave_some (y ∷ ys)))
