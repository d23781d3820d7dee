-- What a page has after a piece more.
use Rattle.std.proofs.Common.{◌≡◌, ◌+◌, ◌<◌, ◌≤◌, ℕ, zero, suc, List, [], ◌∷◌, ◌++◌, map, take, length, get_or, refl, ap, sym, ◌∙◌, append_assoc, append-nil, arith}
use Rattle.std.specs.List.{range_with_len}
use Rattle.std.specs.Borrow.{Bor}
use Rattle.std.specs.Prelude.{slice_index_or}
use Rattle.std.proofs.lemmas.Grind.{flat_map-append}
use Rattle.std.proofs.lemmas.List.Concat.{flat_map-cons}
use Rattle.std.proofs.lemmas.List.{take_more, map-append}
use Rattle.std.proofs.lemmas.List.FromFn.{map-range_with_len_more}
use Rattle.umix_base.specs.declared.place.Place.{Place}
use Rattle.text_picture.specs.Pictures.{first_column, joined, lined, lines_around, picture_lines, ruler}
use Rattle.text_picture.specs.Rows.{text_rows, rows_read}

-- one byte more of those that a function gives from a number on
pub next_of : (f : ℕ → ℕ) (old now next : List ℕ) (from k b : ℕ) → now ≡ old ++ map f (range_with_len from k) → b ≡ f (from + k)
    → next ≡ now ++ b ∷ [] → next ≡ old ++ map f (range_with_len from (k + 1))
next_of f old now next from k b before is pushed =
    let line = map f (range_with_len from k) in
    pushed
    ∙ (ap (λ (t : List ℕ). t ++ b ∷ []) before
    ∙ (append_assoc old line (b ∷ [])
    ∙ ap (λ (t : List ℕ). old ++ t) (ap (λ (x : ℕ). line ++ x ∷ []) is ∙ sym (map-range_with_len_more f from k (from + k) refl))))

-- one byte more of those that a function makes of a list
pub next_made : (f : ℕ → ℕ) (old now next xs : List ℕ) (k d : ℕ) → k < length xs → now ≡ old ++ map f (take k xs)
    → next ≡ now ++ f (get_or xs k d) ∷ [] → next ≡ old ++ map f (take (k + 1) xs)
next_made f old now next xs k d lt before pushed =
    let x = get_or xs k d in
    pushed
    ∙ (ap (λ (t : List ℕ). t ++ f x ∷ []) before
    ∙ (append_assoc old (map f (take k xs)) (f x ∷ [])
    ∙ ap (λ (t : List ℕ). old ++ t) (sym (map-append f (take k xs) (x ∷ [])) ∙ ap (map f) (sym (take_more xs k d lt)))))

-- three pieces
pub three_pieces : (old a b c p q r : List ℕ) → p ≡ old ++ a → q ≡ p ++ b → r ≡ q ++ c → r ≡ old ++ ((a ++ b) ++ c)
three_pieces old a b c p q r d e f =
    f ∙ (ap (λ (t : List ℕ). t ++ c) (e ∙ (ap (λ (t : List ℕ). t ++ b) d ∙ append_assoc old a b)) ∙ append_assoc old (a ++ b) c)

-- lists that are joined, and one more
joined_more : (xss : List (List (List ℕ))) (xs : List (List ℕ)) → joined (xss ++ xs ∷ []) ≡ joined xss ++ xs
joined_more xss xs = flat_map-append (λ lines. lines) xss (xs ∷ []) ∙ ap (λ t. joined xss ++ t) (append-nil xs)

-- the lines of one row more
pub next_lines : (g : ℕ → List (List ℕ)) (old now next : List ℕ) (from k : ℕ) → now ≡ old ++ lined (joined (map g (range_with_len from k)))
    → next ≡ now ++ lined (g (from + k)) → next ≡ old ++ lined (joined (map g (range_with_len from (k + 1))))
next_lines g old now next from k before pushed =
    let lines = joined (map g (range_with_len from k)) in
    let more = g (from + k) in
    pushed
    ∙ (ap (λ (t : List ℕ). t ++ lined more) before
    ∙ (append_assoc old (lined lines) (lined more)
    ∙ ap (λ (t : List ℕ). old ++ t)
    (sym (flat_map-append (λ line. line ++ 10 ∷ []) lines more)
    ∙ ap lined (sym (ap joined (map-range_with_len_more g from k (from + k) refl) ∙ joined_more (map g (range_with_len from k)) more)))))

-- the row of a number that is there, and of one that isn't
pub row_there : (xs : List (Bor (List ℕ))) (i : ℕ) (d : Bor (List ℕ)) → i < length xs → slice_index_or (rows_read xs) i [] ≡ (get_or xs i d).now
row_there [] i d lt = absurd (omega (arith, lt))
row_there (x ∷ xs) zero d lt = refl
row_there (x ∷ xs) (suc i) d lt = row_there xs i d (omega (arith, lt))

pub row_none : (xs : List (Bor (List ℕ))) (i : ℕ) → length xs ≤ i → slice_index_or (rows_read xs) i [] ≡ []
row_none [] zero le = refl
row_none [] (suc i) le = refl
row_none (x ∷ xs) zero le = absurd (omega (arith, le))
row_none (x ∷ xs) (suc i) le = row_none xs i (omega (arith, le))

-- the ruler and the lines of the rows are the picture
pub picture_made : (text : List ℕ) (mark : Place) (first : ℕ) (all : List (List ℕ)) (none ruled page : List ℕ) → none ≡ [] → first ≡ first_column mark.col
    → all ≡ text_rows text → ruled ≡ none ++ (ruler first ++ 10 ∷ []) → page ≡ ruled ++ lined (lines_around all mark) → page ≡ lined (picture_lines text mark)
picture_made text mark first all none ruled page empty at_col are line more =
    more
    ∙ (ap (λ (t : List ℕ). t ++ lined (lines_around all mark)) (line ∙ (ap (λ (t : List ℕ). t ++ (ruler first ++ 10 ∷ [])) empty
    ∙ ap (λ (n : ℕ). ruler n ++ 10 ∷ []) at_col))
    ∙ (ap (λ (rs : List (List ℕ)). (ruler (first_column mark.col) ++ 10 ∷ []) ++ lined (lines_around rs mark)) are
    ∙ sym (flat_map-cons (λ line. line ++ 10 ∷ []) (ruler (first_column mark.col)) (lines_around (text_rows text) mark))))
