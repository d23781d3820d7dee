-- The route from the first depth with a meaning on, and what a beginning of a deep route begins with.
use Rattle.std.proofs.Common.{◌≡◌, ℕ, zero, suc, ◌+◌, ◌-◌, ◌≤◌, Bool, true, List, [], ◌∷◌, ◌++◌, length, take, Option, Some, None, refl, sym, ap, ◌∙◌, subst, arith, length-append}
use Rattle.std.specs.Prelude.{is_some, if◌then◌else◌, map}
use Rattle.two_d.specs.Programs.{Program, main_of}
use Rattle.two_d.specs.Meaning.{Meaning, no_inputs, mean}
use Rattle.two_d.specs.Walks.{AreOrders, IsPrefixOf, load_of, route, walk}
use Rattle.two_d.proofs.Depth.{mean-more}
use Rattle.two_d.proofs.Walks.{goes_on_at, route_long, route-prefix}

take_append : {A : Type 0} (xs ys : List A) → take (length xs) (xs ++ ys) ≡ xs
take_append [] ys = refl
take_append (x ∷ xs) ys = ap (λ l. x ∷ l) (take_append xs ys)

-- a shorter beginning of the same list begins a longer one
take_both : {A : Type 0} (xs ys zs rest : List A) → length xs ≤ length ys → xs ++ zs ≡ ys ++ rest → take (length xs) ys ≡ xs
take_both [] ys zs rest le e = refl
take_both (x ∷ xs) [] zs rest le e = absurd (omega (arith, le))
take_both (x ∷ xs) (y ∷ ys) zs rest le e =
    let head : x ≡ y = cc in
    let tail : xs ++ zs ≡ ys ++ rest = cc in
    let more = take_both xs ys zs rest (omega (arith, le)) tail in
    λ i. sym head i ∷ more i

module _ (P : Program) (order blocks : ℕ → List ℕ) (printer : List ℕ) (are : AreOrders P order) where
  abbrev to : ℕ → List (List ℕ × Bool)
  to = route P order blocks printer

  stays_mean : (n : ℕ) (r : Meaning) → mean P n (main_of P) no_inputs ≡ Some r → (d : ℕ) → mean P (d + n) (main_of P) no_inputs ≡ Some r
  stays_mean n r e zero = let z : 0 + n ≡ n = omega arith in subst (λ k. mean P k (main_of P) no_inputs ≡ Some r) (sym z) e
  stays_mean n r e (suc d) =
      let z : suc d + n ≡ suc (d + n) = omega arith in
      subst (λ k. mean P k (main_of P) no_inputs ≡ Some r) (sym z) ((mean-more P (d + n)).at (main_of P) no_inputs r (stays_mean n r e d))

  stays_walk : (n : ℕ) (r : Meaning) → mean P n (main_of P) no_inputs ≡ Some r → (d : ℕ) → walk P order (d + n) (main_of P) no_inputs ≡ walk P order n (main_of P) no_inputs
  stays_walk n r e zero = let z : 0 + n ≡ n = omega arith in ap (λ k. walk P order k (main_of P) no_inputs) z
  stays_walk n r e (suc d) =
      let z : suc d + n ≡ suc (d + n) = omega arith in
      ap (λ k. walk P order k (main_of P) no_inputs) z ∙ (goes_on_at P order are (d + n)).whole (main_of P) no_inputs r (stays_mean n r e d) ∙ stays_walk n r e d

  pub route_stays : (n : ℕ) (r : Meaning) → mean P n (main_of P) no_inputs ≡ Some r → (d : ℕ) → to (d + n) ≡ to n
  route_stays n r e d =
      let same : mean P (d + n) (main_of P) no_inputs ≡ mean P n (main_of P) no_inputs = stays_mean n r e d ∙ sym e in
      λ i. map (load_of blocks) (stays_walk n r e d i) ++ (if is_some (same i) then (printer, true) ∷ [] else [])

  -- what begins a deep route is the first of the route at one more than its length
  route_first_at : (n d : ℕ) (xs : List (List ℕ × Bool)) → d + (length xs + 1) ≡ suc n → IsPrefixOf xs (to (suc n)) → xs ≡ take (length xs) (to (length xs + 1))
  route_first_at n d xs deep (rest, is) = by (mean P (length xs + 1) (main_of P) no_inputs) refl
    where
      by : (o : Option Meaning) → mean P (length xs + 1) (main_of P) no_inputs ≡ o → xs ≡ take (length xs) (to (length xs + 1))
      by (Some r) e =
          let same : to (suc n) ≡ to (length xs + 1) = ap to (sym deep) ∙ route_stays (length xs + 1) r e d in
          sym (take_append xs rest) ∙ ap (take (length xs)) (is ∙ same)
      by None e =
          let (more, goes) = route-prefix P order blocks printer are (length xs + 1) e d in
          let long = route_long P order blocks printer are (length xs + 1) e in
          sym (take_both xs (to (length xs + 1)) rest more (omega (arith, long)) (is ∙ (ap to (sym deep) ∙ sym goes)))

  pub route_first : (n : ℕ) (xs : List (List ℕ × Bool)) → length xs ≤ n → IsPrefixOf xs (to (suc n)) → xs ≡ take (length xs) (to (length xs + 1))
  route_first n xs le h = route_first_at n (n - length xs) xs (omega (arith, le)) h

  -- and what is the whole of a deep route is the whole of that
  pub route_whole : (n : ℕ) (xs : List (List ℕ × Bool)) → length xs ≤ n → xs ≡ to (suc n) → xs ≡ to (length xs + 1)
  route_whole n xs le is = by (mean P (length xs + 1) (main_of P) no_inputs) refl
    where
      deep : (n - length xs) + (length xs + 1) ≡ suc n
      deep = omega (arith, le)

      by : (o : Option Meaning) → mean P (length xs + 1) (main_of P) no_inputs ≡ o → xs ≡ to (length xs + 1)
      by (Some r) e = is ∙ ap to (sym deep) ∙ route_stays (length xs + 1) r e (n - length xs)
      by None e =
          let (more, goes) = route-prefix P order blocks printer are (length xs + 1) e (n - length xs) in
          let long = route_long P order blocks printer are (length xs + 1) e in
          let whole = length-append (to (length xs + 1)) more in
          let same = ap length goes in
          let deeper = ap (λ k. length (to k)) deep in
          let these = ap length is in
          absurd (omega (arith, long, whole, same, deeper, these))
