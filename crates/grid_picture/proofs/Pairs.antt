-- What holds of each, and of each two, of lists that are put together.
use Rattle.std.specs.Prelude.{zero, suc, List, [], ◌∷◌, ◌++◌, All, AllPairs}
use Rattle.std.specs.List.{Contains}
use Rattle.std.proofs.Common.{arith, subst, inl, inr, get_or, refl}
use Rattle.std.proofs.lemmas.List.Elements.{Contains-get_or, Contains-append_right, Contains-append_cases}

pub all_cons : {A : Type 0} (P : A → Type 0) (x : A) (xs : List A) → P x → All P xs → All P (x ∷ xs)
all_cons P x xs here rest zero d lt = here
all_cons P x xs here rest (suc k) d lt = rest k d (omega arith)

pub pairs_cons : {A : Type 0} (R : A → A → Type 0) (x : A) (xs : List A) → All (R x) xs → AllPairs R xs → AllPairs R (x ∷ xs)
pairs_cons R x xs here rest i zero d less lt = absurd (omega arith)
pairs_cons R x xs here rest zero (suc j) d less lt = here j d (omega arith)
pairs_cons R x xs here rest (suc i) (suc j) d less lt = rest i j d (omega arith) (omega arith)

pub first_there : {A : Type 0} (x : A) (xs : List A) → Contains (x ∷ xs) x
first_there x xs = (0, omega arith, refl)

pub later_there : {A : Type 0} (x y : A) (xs : List A) → Contains xs y → Contains (x ∷ xs) y
later_there x y xs there = Contains-append_right (x ∷ []) xs y there

pub all_there : {A : Type 0} (P : A → Type 0) (xs : List A) → ((x : A) → Contains xs x → P x) → All P xs
all_there P xs each k d lt = each (get_or xs k d) (Contains-get_or xs k d lt)

pub there_all : {A : Type 0} (P : A → Type 0) (xs : List A) → All P xs → (x : A) → Contains xs x → P x
there_all P xs all x (k, lt, is) = subst P is (all k x lt)

pub pairs_first : {A : Type 0} (R : A → A → Type 0) (x : A) (xs : List A) → AllPairs R (x ∷ xs) → (y : A) → Contains xs y → R x y
pairs_first R x xs all y (k, lt, is) = subst (R x) is (all 0 (suc k) y (omega arith) (omega arith))

pub pairs_rest : {A : Type 0} (R : A → A → Type 0) (x : A) (xs : List A) → AllPairs R (x ∷ xs) → AllPairs R xs
pairs_rest R x xs all i j d less lt = all (suc i) (suc j) d (omega arith) (omega arith)

pub pairs_append : {A : Type 0} (R : A → A → Type 0) (xs ys : List A) → AllPairs R xs → AllPairs R ys → ((x y : A) → Contains xs x → Contains ys y → R x y) → AllPairs R (xs ++ ys)
pairs_append R [] ys one other both = other
pairs_append R (x ∷ xs) ys one other both =
    pairs_cons R x (xs ++ ys)
    (all_there (R x) (xs ++ ys) (λ y there. elim (Contains-append_cases xs ys y there) [
      | inl in_first ↦ pairs_first R x xs one y in_first
      | inr in_second ↦ both x y (first_there x xs) in_second
    ]))
    (pairs_append R xs ys (pairs_rest R x xs one) other (λ u v there there_v. both u v (later_there x u xs there) there_v))
