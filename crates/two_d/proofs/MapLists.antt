-- What a list that was mapped has.
use Rattle.std.specs.Prelude.{◌≡◌, zero, suc, List, [], ◌∷◌, map, AllPairs}
use Rattle.std.specs.List.{Contains}
use Rattle.std.proofs.Common.{arith, refl, sym, ap, subst, ◌∙◌, get_or}
use Rattle.std.proofs.lemmas.List.{length-map, get_or-map}
use Rattle.std.proofs.lemmas.List.Elements.{Contains-get_or, Contains-append_right}

pub map_contains : {A B : Type 0} (f : A → B) (xs : List A) (y : B) → Contains (map f xs) y → (x : A) × Contains xs x × (f x ≡ y)
map_contains f [] y (k, lt, is) = absurd (omega arith)
map_contains f (x ∷ xs) y (zero, lt, is) = (x, (0, omega arith, refl), is)
map_contains f (x ∷ xs) y (suc k, lt, is) =
    let (z, there, same) = map_contains f xs y (k, omega arith, is) in
    (z, Contains-append_right (x ∷ []) xs z there, same)

pub contains_map : {A B : Type 0} (f : A → B) (xs : List A) (x : A) → Contains xs x → Contains (map f xs) (f x)
contains_map f xs x (k, lt, is) =
    let long = length-map xs f in
    subst (Contains (map f xs)) (get_or-map f xs k x (f x) lt ∙ ap f is) (Contains-get_or (map f xs) k (f x) (omega arith))

pub pairs_map : {A B : Type 0} (R : B → B → Type 0) (f : A → B) (xs : List A) → A → AllPairs (λ x y. R (f x) (f y)) xs → AllPairs R (map f xs)
pairs_map R f xs a all i j d less lt =
    let long = length-map xs f in
    let one = get_or-map f xs i a d (omega arith) in
    let other = get_or-map f xs j a d (omega arith) in
    subst (λ x. R x (get_or (map f xs) j d)) (sym one) (subst (R (f (get_or xs i a))) (sym other) (all i j a less (omega arith)))

pub map_back : {A B : Type 0} (f : A → B) (g : B → A) (xs : List A) → ((x : A) → Contains xs x → g (f x) ≡ x) → map g (map f xs) ≡ xs
map_back f g [] back = refl
map_back f g (x ∷ xs) back =
    let here = back x (0, omega arith, refl) in
    let rest = map_back f g xs (λ y there. back y (Contains-append_right (x ∷ []) xs y there)) in
    cc (here, rest)
