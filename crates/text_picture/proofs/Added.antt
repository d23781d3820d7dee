-- What a page has after pieces more.
use Rattle.std.proofs.Common.{◌≡◌, ◌+◌, ◌<◌, ℕ, List, [], ◌∷◌, ◌++◌, take, length, get_or, ap, sym, ◌∙◌, append_assoc, append-nil, inl, inr, arith}
use Rattle.std.specs.List.{flat_map}
use Rattle.std.specs.Prelude.{min}
use Rattle.std.proofs.lemmas.Bool.{cases_lt}
use Rattle.std.proofs.lemmas.Grind.{flat_map-append}
use Rattle.std.proofs.lemmas.List.{take_all, take_more}

pub two_added : (old a b p q : List ℕ) → p ≡ old ++ a → q ≡ p ++ b → q ≡ old ++ (a ++ b)
two_added old a b p q d e = e ∙ (ap (λ (t : List ℕ). t ++ b) d ∙ append_assoc old a b)

pub three_added : (old a b c p q r : List ℕ) → p ≡ old ++ a → q ≡ p ++ b → r ≡ q ++ c → r ≡ old ++ (a ++ (b ++ c))
three_added old a b c p q r d e f = two_added old a (b ++ c) p r d (two_added p b c q r e f)

pub pieces_added : (old a b c p q r : List ℕ) → p ≡ old ++ a → q ≡ p ++ b → r ≡ q ++ c → r ≡ old ++ ((a ++ b) ++ c)
pieces_added old a b c p q r d e f = two_added old (a ++ b) c q r (two_added old a b p q d e) f

-- the piece of one element more
pub next_taken : {X : Type 0} (f : X → List ℕ) (old now next : List ℕ) (xs : List X) (k : ℕ) (d : X) → k < length xs → now ≡ old ++ flat_map f (take k xs)
    → next ≡ now ++ f (get_or xs k d) → next ≡ old ++ flat_map f (take (k + 1) xs)
next_taken f old now next xs k d lt before pushed =
    let x = get_or xs k d in
    two_added old (flat_map f (take k xs)) (f x) now next before pushed
    ∙ ap (λ (t : List ℕ). old ++ t)
    (ap (λ (t : List ℕ). flat_map f (take k xs) ++ t) (sym (append-nil (f x)))
    ∙ (sym (flat_map-append f (take k xs) (x ∷ [])) ∙ ap (flat_map f) (sym (take_more xs k d lt))))

-- the first of a list, of which there may be fewer
pub taken_least : {X : Type 0} (xs : List X) (n k : ℕ) → k ≡ min (length xs) n → take k xs ≡ take n xs
taken_least xs n k is = elim (cases_lt n (length xs)) [
  | inl fewer ↦ let e : k ≡ n = omega (arith, is, fewer) in ap (λ (m : ℕ). take m xs) e
  | inr all ↦ take_all k xs (omega (arith, is, all)) ∙ sym (take_all n xs (omega (arith, all)))
]
