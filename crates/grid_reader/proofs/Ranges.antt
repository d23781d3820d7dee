-- Numbers of a range that pass a test.
use Rattle.std.proofs.Common.{◌≡◌, ℕ, ◌+◌, List, [], ◌∷◌, ◌++◌, Bool, cond, map, refl, ap, subst}
use Rattle.std.specs.List.{filter, range_with_len}
use Rattle.std.proofs.lemmas.List.FromFn.{filter_of_map_range_with_len_more}

map-itself : (xs : List ℕ) → map (λ x. x) xs ≡ xs
map-itself [] = refl
map-itself (x ∷ xs) = ap (λ ys. x ∷ ys) (map-itself xs)

-- one number more
pub filter-range_more : (p : ℕ → Bool) (a n j : ℕ) → a + n ≡ j → filter p (range_with_len a (n + 1)) ≡ filter p (range_with_len a n) ++ cond (p j) (j ∷ []) []
filter-range_more p a n j e =
    subst (λ xs. filter p xs ≡ filter p (range_with_len a n) ++ cond (p j) (j ∷ []) []) (map-itself (range_with_len a (n + 1)))
    (subst (λ xs. filter p (map (λ x. x) (range_with_len a (n + 1))) ≡ filter p xs ++ cond (p j) (j ∷ []) []) (map-itself (range_with_len a n)) (filter_of_map_range_with_len_more p (λ x. x) a n j e))
