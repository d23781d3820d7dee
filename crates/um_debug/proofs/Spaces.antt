-- Texts cut at their first space.
use Rattle.std.proofs.Common.{◌≡◌, ◌≢◌, ℕ, suc, get_or, ◌+◌, ◌<◌, ◌^◌, ◌%◌, Bool, true, false, List, [], ◌∷◌, ◌++◌, All, Bor, length, Option, Some, None, refl, sym, ap, ◌∙◌, subst, arith}
use Rattle.std.specs.Prelude.{decimal}
use Rattle.std.specs.Str.{bytes_eq}
use Rattle.std.proofs.lemmas.Slice.Eq.{bytes_eq-Decides}
use Rattle.std.proofs.lemmas.Fmt.{decimal_by_steps}
use Rattle.std.proofs.lemmas.List.Elements.{All-nil, All-cons, All-append, All-get_or, All-from_get_or}
use Rattle.std.proofs.lemmas.Str.Pattern.{IsSplitOnceResult, split_parts}
use Rattle.um_debug.specs.inner.Numbers.{HasNoSpace}

is_no_space : (byte : ℕ) → byte ≢ 32 → HasNoSpace (byte ∷ [])
is_no_space byte other = All-cons (λ byte. byte ≢ 32) byte [] other (All-nil (λ byte. byte ≢ 32))

-- a number in decimal has no space
pub decimal_no_space : (n : ℕ) → n < 2 ^ 64 → HasNoSpace (decimal n)
decimal_no_space n lt =
    decimal_by_steps (λ _ digits. HasNoSpace digits)
    (λ d small. is_no_space (48 + d) (λ e. absurd (omega (arith, e))))
    (λ m digits ten none. All-append (λ byte. byte ≢ 32) digits ((48 + m % 10) ∷ []) none
    (is_no_space (48 + m % 10) (λ e. absurd (omega (arith, e))))) n lt

head_no_space : (byte : ℕ) (bytes : List ℕ) → HasNoSpace (byte ∷ bytes) → byte ≢ 32
head_no_space byte bytes none = All-get_or (λ byte. byte ≢ 32) (byte ∷ bytes) 0 0 (omega arith) none

rest_no_space : (byte : ℕ) (bytes : List ℕ) → HasNoSpace (byte ∷ bytes) → HasNoSpace bytes
rest_no_space byte bytes none =
    All-from_get_or (λ byte. byte ≢ 32) bytes 0 (λ i lt. All-get_or (λ byte. byte ≢ 32) (byte ∷ bytes) (suc i) 0 (omega (arith, lt)) none)

-- a text without a space has no part before one
pub no_cut : (text a b : List ℕ) → HasNoSpace text → text ≡ a ++ 32 ∷ b → ⊥
no_cut [] [] b none is = cc
no_cut [] (y ∷ a) b none is = cc
no_cut (x ∷ text) [] b none is = let same : x ≡ 32 = cc in head_no_space x text none same
no_cut (x ∷ text) (y ∷ a) b none is = no_cut text a b (rest_no_space x text none) (cc)

-- two parts round the first space
pub record AreCut (x y a b : List ℕ) : Type 0 where
  pub first : x ≡ a
  pub others : y ≡ b

-- a text is cut at its first space in one way
pub one_cut : (x y a b : List ℕ) → HasNoSpace x → HasNoSpace a → x ++ 32 ∷ y ≡ a ++ 32 ∷ b → AreCut x y a b
one_cut [] y [] b none other is = record { first = refl; others = cc }
one_cut [] y (c ∷ a) b none other is = let same : c ≡ 32 = cc in absurd (head_no_space c a other same)
one_cut (c ∷ x) y [] b none other is = let same : c ≡ 32 = cc in absurd (head_no_space c x none same)
one_cut (c ∷ x) y (d ∷ a) b none other is =
    let heads : c ≡ d = cc in
    let tails : x ++ 32 ∷ y ≡ a ++ 32 ∷ b = cc in
    let cut = one_cut x y a b (rest_no_space c x none) (rest_no_space d a other) tails in
    record { first = cc; others = cut.others }

none_of_reads : (text : List ℕ) → ((i : ℕ) → i < length text → get_or text i 0 ≢ 32) → HasNoSpace text
none_of_reads text reads = All-from_get_or (λ byte. byte ≢ 32) text 0 reads

-- where `split_once` finds no space there is none
pub whole_word : (text : List ℕ) (r : Option (Bor (List ℕ) × Bor (List ℕ))) → r ≡ None → IsSplitOnceResult 32 text r → HasNoSpace text
whole_word text None is cases = none_of_reads text (split_parts 32 text None cases (omega arith))
whole_word text (Some parts) is cases = cc

-- the text is cut here, at its first space
pub record IsCut (text x y : List ℕ) : Type 0 where
  pub is : text ≡ x ++ 32 ∷ y
  pub none : HasNoSpace x

pub cut_word : (text : List ℕ) (r : Option (Bor (List ℕ) × Bor (List ℕ))) (x y : Bor (List ℕ)) → r ≡ Some (x, y) → IsSplitOnceResult 32 text r →
    IsCut text x.now y.now
cut_word text r x y is cases =
    let parts = split_parts 32 text (Some (x, y)) (subst (λ (s : Option (Bor (List ℕ) × Bor (List ℕ))). IsSplitOnceResult 32 text s) is cases) (omega arith) in
    record { is = parts.0; none = none_of_reads x.now parts.1 }

-- what `==` of two texts tells
pub differ : (x y : List ℕ) (r : Bool) → r ≡ bytes_eq x y → r ≡ false → x ≢ y
differ x y r is no_match same = let yes_match : r ≡ true = is ∙ (bytes_eq-Decides x y).1 same in cc

pub alike : (x y : List ℕ) (r : Bool) → r ≡ bytes_eq x y → r ≡ true → x ≡ y
alike x y r is yes_match = (bytes_eq-Decides x y).0 (sym is ∙ yes_match)
