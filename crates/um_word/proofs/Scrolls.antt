-- The bytes of words behind one another.
use Rattle.std.proofs.Common.{◌≡◌, ℕ, List, [], ◌∷◌, ◌++◌, refl, sym, ap, ◌∙◌}
use Rattle.std.specs.Int.{w32, to_be_bytes}
use Rattle.std.proofs.lemmas.List.{append_assoc, append-nil}
use Rattle.um_word.specs.Scroll.{scroll}

pub scroll-append : (xs ys : List ℕ) → scroll (xs ++ ys) ≡ scroll xs ++ scroll ys
scroll-append [] ys = refl
scroll-append (x ∷ xs) ys =
    ap (λ bytes. to_be_bytes w32 x ++ bytes) (scroll-append xs ys) ∙ sym (append_assoc (to_be_bytes w32 x) (scroll xs) (scroll ys))

-- one word more
pub scroll-more : (words : List ℕ) (word : ℕ) → scroll (words ++ word ∷ []) ≡ scroll words ++ to_be_bytes w32 word
scroll-more words word = scroll-append words (word ∷ []) ∙ ap (λ bytes. scroll words ++ bytes) (append-nil (to_be_bytes w32 word))

-- four bytes of what is left become a word
pub read-more : (words : List ℕ) (word : ℕ) (rest bytes front back : List ℕ) →
    to_be_bytes w32 word ≡ front → front ++ back ≡ rest → scroll words ++ rest ≡ bytes → scroll (words ++ word ∷ []) ++ back ≡ bytes
read-more words word rest bytes front back is split read =
    ap (λ xs. xs ++ back) (scroll-more words word) ∙ append_assoc (scroll words) (to_be_bytes w32 word) back
    ∙ ap (λ xs. scroll words ++ (xs ++ back)) is ∙ ap (λ xs. scroll words ++ xs) split ∙ read
