-- What a listing has after a row more.
use Rattle.std.proofs.Common.{◌≡◌, ◌+◌, ◌<◌, ℕ, List, [], ◌∷◌, ◌++◌, map, take, length, get_or, refl, inl, inr, ◌⊎◌, ap, sym, ◌∙◌, append_assoc, append-nil}
use Rattle.std.proofs.lemmas.Grind.{flat_map-append}
use Rattle.std.proofs.lemmas.List.{take_more, map-append}
use Rattle.std.proofs.lemmas.List.Concat.{flat_map-cons}
use Rattle.std.proofs.lemmas.List.FromFn.{map-range_with_len_more}
use Rattle.std.specs.List.{flat_map, range_with_len}
use Rattle.text_picture.specs.Pictures.{lined}
use Rattle.um_asm.specs.inner.Parts.{Part}
use Rattle.um_asm.specs.inner.TextParts.{text_line_read}
use Rattle.um_asm.specs.declared.text_line.TextLine.{TextLine}
use Rattle.asm_view.specs.Rows.{rows_at}

-- the rows of these lines
abbrev pub rows_of : List ℕ → List (TextLine Part) → List (List ℕ)
rows_of words xs = flat_map (rows_at words) (map text_line_read xs)

-- a row more, and rows more
lined_more : (rows : List (List ℕ)) (r : List ℕ) → lined (rows ++ r ∷ []) ≡ lined rows ++ (r ++ 10 ∷ [])
lined_more rows r = flat_map-append (λ line. line ++ 10 ∷ []) rows (r ∷ []) ∙ ap (λ (t : List ℕ). lined rows ++ t) (append-nil (r ++ 10 ∷ []))

lined_both : (rows more : List (List ℕ)) → lined (rows ++ more) ≡ lined rows ++ lined more
lined_both rows more = flat_map-append (λ line. line ++ 10 ∷ []) rows more

-- the rows of one line more
rows_more : (words : List ℕ) (xs : List (TextLine Part)) (k : ℕ) (d : TextLine Part) → k < length xs →
    rows_of words (take (k + 1) xs) ≡ rows_of words (take k xs) ++ rows_at words (text_line_read (get_or xs k d))
rows_more words xs k d lt =
    let x = get_or xs k d in
    ap (rows_of words) (take_more xs k d lt)
    ∙ (ap (flat_map (rows_at words)) (map-append text_line_read (take k xs) (x ∷ []))
    ∙ (flat_map-append (rows_at words) (map text_line_read (take k xs)) (text_line_read x ∷ [])
    ∙ ap (λ (t : List (List ℕ)). rows_of words (take k xs) ++ t) (append-nil (rows_at words (text_line_read x)))))

pub next_row : (words old now next : List ℕ) (xs : List (TextLine Part)) (k : ℕ) (d : TextLine Part) → k < length xs →
    now ≡ old ++ lined (rows_of words (take k xs)) → next ≡ now ++ lined (rows_at words (text_line_read (get_or xs k d))) →
    next ≡ old ++ lined (rows_of words (take (k + 1) xs))
next_row words old now next xs k d lt before pushed =
    let more = rows_at words (text_line_read (get_or xs k d)) in
    let rows = rows_of words (take k xs) in
    pushed
    ∙ (ap (λ (t : List ℕ). t ++ lined more) before
    ∙ (append_assoc old (lined rows) (lined more)
    ∙ ap (λ (t : List ℕ). old ++ t) (sym (ap lined (rows_more words xs k d lt) ∙ lined_both rows more))))

-- one word more
pub next_word : (g : ℕ → List ℕ) (old now next : List ℕ) (from k : ℕ) → now ≡ old ++ lined (map g (range_with_len from k)) →
    next ≡ now ++ (g (from + k) ++ 10 ∷ []) → next ≡ old ++ lined (map g (range_with_len from (k + 1)))
next_word g old now next from k before pushed =
    let rows = map g (range_with_len from k) in
    pushed
    ∙ (ap (λ (t : List ℕ). t ++ (g (from + k) ++ 10 ∷ [])) before
    ∙ (append_assoc old (lined rows) (g (from + k) ++ 10 ∷ [])
    ∙ ap (λ (t : List ℕ). old ++ t) (sym (ap lined (map-range_with_len_more g from k (from + k) refl) ∙ lined_more rows (g (from + k))))))

-- the first row of a line, and the others
pub both_added : (old first : List ℕ) (others : List (List ℕ)) (p q : List ℕ) → p ≡ old ++ (first ++ 10 ∷ []) → q ≡ p ++ lined others →
    q ≡ old ++ lined (first ∷ others)
both_added old first others p q d e =
    e ∙ (ap (λ (t : List ℕ). t ++ lined others) d
    ∙ (append_assoc old (first ++ 10 ∷ []) (lined others)
    ∙ ap (λ (t : List ℕ). old ++ t) (sym (flat_map-cons (λ line. line ++ 10 ∷ []) first others))))

-- two ranges that begin and end alike, or have nothing
pub same_rows : (g : ℕ → List ℕ) (s p n m : ℕ) → ((s ≡ p) × (n ≡ m)) ⊎ ((n ≡ 0) × (m ≡ 0)) →
    map g (range_with_len s n) ≡ map g (range_with_len p m)
same_rows g s p n m (inl (begins, long)) = rw (begins, long) refl
same_rows g s p n m (inr (none, no_more)) = rw (none, no_more) refl
