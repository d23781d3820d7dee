-- A list of words that has one.
use Rattle.std.proofs.Common.{◌≡◌, ℕ, ◌<◌, ◌≤◌, List, [], ◌∷◌, map, length, get_or, refl, sym, ap, ◌∙◌, arith}

pub one_text : {A : Type 0} (f : A → List ℕ) (xs : List A) (a : A) → 1 ≤ length xs →
    length xs < 2 → a ≡ get_or xs 0 a → (s : List ℕ) → s ≡ f a → map f xs ≡ s ∷ []
one_text f [] a least below ea s es = absurd (omega (arith, least))
one_text f (w ∷ []) a least below ea s es = ap (λ p. p ∷ []) (ap f (sym ea) ∙ sym es)
one_text f (w ∷ x ∷ rest) a least below ea s es = absurd (omega (arith, below))

pub no_text : {A : Type 0} (f : A → List ℕ) (xs : List A) → length xs < 1 → map f xs ≡ []
no_text f [] below = refl
no_text f (w ∷ rest) below = absurd (omega (arith, below))
