-- Words that are put behind one another.
use Rattle.std.proofs.Common.{◌≡◌, ℕ, zero, suc, ◌+◌, ◌<◌, ◌≤◌, List, [], ◌∷◌, ◌++◌, length, take, Option, Some, None, refl, sym, ap, ◌∙◌, arith}
use Rattle.std.specs.Prelude.{slice_index, slice_get, unwrap_or}
use Rattle.std.specs.Option.{option_map}
use Rattle.std.specs.FinMap as map
use Rattle.std.proofs.lemmas.List.{append_assoc, append-nil, take_more, take_all}
use Rattle.um_word.specs.State.{Arrays, array_at}
use Rattle.um_image.specs.Image.{array_words, one_listed, arrays_up_to}
use Rattle.um_image.proofs.Filled.{array_words-append}
use Rattle.um_word.specs.Scroll.{scroll}
use Rattle.um_word.proofs.Scrolls.{scroll-append}

pub put_more : (first before now : List ℕ) (ws more : List ℕ) → before ≡ first ++ scroll ws → now ≡ before ++ scroll more → now ≡ first ++ scroll (ws ++ more)
put_more first before now ws more e f =
    f ∙ ap (λ xs. xs ++ scroll more) e ∙ append_assoc first (scroll ws) (scroll more) ∙ ap (λ xs. first ++ xs) (sym (scroll-append ws more))

-- one more word of a list
pub put_next : (first before now xs : List ℕ) (k word : ℕ) → k < length xs → slice_index xs k ≡ word →
    before ≡ first ++ scroll (take k xs) → now ≡ before ++ scroll (word ∷ []) → now ≡ first ++ scroll (take (k + 1) xs)
put_next first before now xs k word lt is e f =
    put_more first before now (take k xs) (word ∷ []) e f
    ∙ ap (λ ys. first ++ scroll ys) (ap (λ w. take k xs ++ w ∷ []) (sym is) ∙ sym (take_more xs k 0 lt))

-- all of them
pub put_all : (first now xs : List ℕ) (k : ℕ) → length xs ≤ k → now ≡ first ++ scroll (take k xs) → now ≡ first ++ scroll xs
put_all first now xs k le e = e ∙ ap (λ ys. first ++ scroll ys) (take_all k xs le)

-- an item that is there
pub item_at : (xs : List ℕ) (k x : ℕ) → Some x ≡ slice_get xs k → slice_index xs k ≡ x
item_at [] k x e = absurd (let h : Some x ≡ None = e in cc)
item_at (y ∷ ys) zero x e = let h : Some x ≡ Some y = e in cc
item_at (y ∷ ys) (suc k) x e = item_at ys k x e

-- the length of an array that is there
pub size_is : (arrays : Arrays) (id size : ℕ) → map.get arrays id ≡ Some (array_at arrays id) → Some size ≡ option_map length (map.get arrays id) → size ≡ length (array_at arrays id)
size_is arrays id size there e = let h : Some size ≡ Some (length (array_at arrays id)) = e ∙ ap (option_map length) there in cc

pub there_by_size : (o : Option (List ℕ)) (size : ℕ) → Some size ≡ option_map length o → o ≡ Some (unwrap_or o [])
there_by_size None size e = absurd (let h : Some size ≡ None = e in cc)
there_by_size (Some ws) size e = refl

pub none_by_size : (o : Option (List ℕ)) → None ≡ option_map length o → o ≡ None
none_by_size None e = refl
none_by_size (Some ws) e = absurd (let h : None ≡ Some (length ws) = e in cc)

-- the arrays up to the next identifier
pub arrays_same : (m : Arrays) (n : ℕ) → map.get m (n + 1) ≡ None → array_words (arrays_up_to m (n + 1)) ≡ array_words (arrays_up_to m n)
arrays_same m n none =
    let next : n + 1 ≡ suc n = omega arith in
    ap (λ k. array_words (arrays_up_to m k)) next
    ∙ ap (λ o. array_words (arrays_up_to m n ++ one_listed (suc n) o)) (ap (map.get m) (sym next) ∙ none)
    ∙ ap array_words (append-nil (arrays_up_to m n))

pub arrays_next : (m : Arrays) (n : ℕ) → map.get m (n + 1) ≡ Some (array_at m (n + 1)) →
    array_words (arrays_up_to m (n + 1)) ≡ array_words (arrays_up_to m n) ++ ((n + 1) ∷ (length (array_at m (n + 1)) ∷ array_at m (n + 1)))
arrays_next m n there =
    let next : n + 1 ≡ suc n = omega arith in
    ap (λ k. array_words (arrays_up_to m k)) next
    ∙ ap (λ o. array_words (arrays_up_to m n ++ one_listed (suc n) o)) (ap (map.get m) (sym next) ∙ there)
    ∙ array_words-append (arrays_up_to m n) ((suc n, array_at m (n + 1)) ∷ [])
    ∙ ap (λ xs. array_words (arrays_up_to m n) ++ (suc n ∷ (length (array_at m (n + 1)) ∷ xs))) (append-nil (array_at m (n + 1)))
    ∙ ap (λ k. array_words (arrays_up_to m n) ++ (k ∷ (length (array_at m (n + 1)) ∷ array_at m (n + 1)))) (sym next)
