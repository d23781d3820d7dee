-- Texts with a space between them, one after the other.
use Rattle.std.proofs.Common.{◌≡◌, ℕ, zero, suc, ◌+◌, ◌<◌, ◌≤◌, List, [], ◌∷◌, ◌++◌, append_assoc, length, take, map, get_or, Option, refl, sym, ap, ◌∙◌, arith}
use Rattle.std.specs.Prelude.{slice_get}
use Rattle.std.proofs.lemmas.List.{take_more, map-append, length-map}
use Rattle.um_word.specs.State.{Arrays, array_at}
use Rattle.um_debug.specs.Replies.{spaced, shown_word, words_from}

-- one text more, behind one at least
spaced_push : (texts : List (List ℕ)) (text : List ℕ) → 1 ≤ length texts → spaced (texts ++ text ∷ []) ≡ spaced texts ++ 32 ∷ text
spaced_push [] text some = absurd (omega (arith, some))
spaced_push (x ∷ []) text some = refl
spaced_push (x ∷ y ∷ texts) text some =
    ap (λ (rest : List ℕ). x ++ 32 ∷ rest) (spaced_push (y ∷ texts) text (omega arith))
    ∙ sym (append_assoc x (32 ∷ spaced (y ∷ texts)) (32 ∷ text))

first_taken : (xs : List ℕ) → 1 ≤ length xs → take 1 xs ≡ get_or xs 0 0 ∷ []
first_taken [] some = absurd (omega (arith, some))
first_taken (x ∷ xs) some = refl

-- the text of the first number
pub spaced_one : (f : ℕ → List ℕ) (xs : List ℕ) → 1 ≤ length xs → spaced (map f (take 1 xs)) ≡ f (get_or xs 0 0)
spaced_one f xs some = ap (λ (ys : List ℕ). spaced (map f ys)) (first_taken xs some)

-- a reply with one text more
pub reply_more : (front : List ℕ) (texts : List (List ℕ)) (text : List ℕ) → 1 ≤ length texts →
    front ++ spaced texts ++ 32 ∷ [] ++ text ≡ front ++ spaced (texts ++ text ∷ [])
reply_more front texts text some =
    append_assoc (front ++ spaced texts) (32 ∷ []) text
    ∙ append_assoc front (spaced texts) (32 ∷ text)
    ∙ ap (λ (rest : List ℕ). front ++ rest) (sym (spaced_push texts text some))

-- the texts of one number more
pub map_taken_more : (f : ℕ → List ℕ) (xs : List ℕ) (k : ℕ) → k < length xs → map f (take (k + 1) xs) ≡ map f (take k xs) ++ f (get_or xs k 0) ∷ []
map_taken_more f xs k lt = ap (map f) (take_more xs k 0 lt) ∙ map-append f (take k xs) (get_or xs k 0 ∷ [])

-- one word more from a place on
words_more : (arrays : Arrays) (id offset k : ℕ) →
    words_from arrays id offset (suc k) ≡ words_from arrays id offset k ++ slice_get (array_at arrays id) (offset + k) ∷ []
words_more arrays id offset zero =
    let e : offset ≡ offset + 0 = omega arith in ap (λ (at : ℕ). slice_get (array_at arrays id) at ∷ []) e
words_more arrays id offset (suc k) =
    let e : offset + 1 + k ≡ offset + suc k = omega arith in
    ap (λ (rest : List (Option ℕ)). slice_get (array_at arrays id) offset ∷ rest)
    (words_more arrays id (offset + 1) k
    ∙ ap (λ (at : ℕ). words_from arrays id (offset + 1) k ++ slice_get (array_at arrays id) at ∷ []) e)

pub map_words_more : (arrays : Arrays) (id offset k : ℕ) →
    map shown_word (words_from arrays id offset (k + 1))
    ≡ map shown_word (words_from arrays id offset k) ++ shown_word (slice_get (array_at arrays id) (offset + k)) ∷ []
map_words_more arrays id offset k =
    let e : k + 1 ≡ suc k = omega arith in
    ap (λ (n : ℕ). map shown_word (words_from arrays id offset n)) e
    ∙ ap (map shown_word) (words_more arrays id offset k)
    ∙ map-append shown_word (words_from arrays id offset k) (slice_get (array_at arrays id) (offset + k) ∷ [])

pub words_many : (arrays : Arrays) (id offset k : ℕ) → length (words_from arrays id offset k) ≡ k
words_many arrays id offset zero = refl
words_many arrays id offset (suc k) = ap suc (words_many arrays id (offset + 1) k)
