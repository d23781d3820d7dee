-- No line of a picture has more than 100 columns.
use Rattle.std.proofs.Common.{◌≡◌, ◌-◌, ◌^◌, ◌<◌, ◌≤◌, ℕ, suc, true, false, Bool, List, [], ◌∷◌, ◌++◌, map, take, drop, length, refl, inl, inr, arith, length-append, length-drop}
use Rattle.std.specs.List.{range_with_len}
use Rattle.std.specs.Prelude.{All, if◌then◌else◌, codes, decimal, slice_index_or}
use Rattle.std.proofs.lemmas.Bool.{cases_lt, le-ltb, lt-ltb}
use Rattle.std.proofs.lemmas.Fmt.{length-decimal-le}
use Rattle.std.proofs.lemmas.List.{length-map, length-take}
use Rattle.std.proofs.lemmas.List.Elements.{All-append, All-cons, All-map, All-nil}
use Rattle.std.proofs.lemmas.List.FromFn.{get_or-range_with_len, length-map-range_with_len, length-range_with_len}
use Rattle.umix_base.specs.declared.place.Place.{Place}
use Rattle.text_picture.specs.Pictures.{first_column, first_row, joined, lines_around, lines_at, lines_of_row, margin, mark_line, picture_lines, row_count, row_line, ruler, ruler_sign}
use Rattle.text_picture.specs.Rows.{cells_from, less_end, text_rows, shown}

abbrev IsShort : List ℕ → Type 0
IsShort line = length line ≤ 100

margin_short : (label : List ℕ) → length label ≤ 10 → length (margin label) ≤ 13
margin_short label few =
    let seven : length (codes "       ") ≡ 7 = refl in
    let three : length (codes " | ") ≡ 3 = refl in
    let cut = length-drop (length label) (codes "       ") in
    let before = length-append (drop (length label) (codes "       ")) label in
    let all = length-append (drop (length label) (codes "       ") ++ label) (codes " | ") in
    omega (arith, few, seven, three, cut, before, all)

cells_short : (first : ℕ) (row : List ℕ) → length (cells_from first row) ≤ 80
cells_short first row =
    let from = drop (first - 1) (less_end 13 row) in
    let mapped = length-map (take 80 from) shown in
    let taken = length-take 80 from in
    omega (arith, mapped, taken)

row_short : (first number : ℕ) (row : List ℕ) → number < 10 ^ 10 → IsShort (row_line first number row)
row_short first number row lt =
    let digits = length-decimal-le 10 number (omega arith) lt (omega (arith, lt)) in
    let left = margin_short (decimal number) digits in
    let cells = cells_short first row in
    let all = length-append (margin (decimal number)) (cells_from first row) in
    omega (arith, left, cells, all)

ruler_short : (first : ℕ) → IsShort (ruler first)
ruler_short first =
    let left = margin_short [] (omega arith) in
    let signs = length-map-range_with_len ruler_sign first 80 in
    let all = length-append (margin []) (map ruler_sign (range_with_len first 80)) in
    omega (arith, left, signs, all)

near : (col : ℕ) → col - first_column col ≤ 80
near col = elim (cases_lt 80 col) [
  | inl over ↦ rw (lt-ltb 80 col over) (omega (arith, over))
  | inr few ↦ rw (le-ltb 80 col few) (omega (arith, few))
]

mark_short : (col : ℕ) → IsShort (mark_line (first_column col) col)
mark_short col =
    let first = first_column col in
    let blanks : List ℕ = map (λ _. 32) (range_with_len first (col - first)) in
    let one : length (codes "^") ≡ 1 = refl in
    let left = margin_short [] (omega arith) in
    let few = near col in
    let spaces = length-map-range_with_len {X = ℕ} (λ _. 32) first (col - first) in
    let before = length-append (margin []) blanks in
    let all = length-append (margin [] ++ blanks) (codes "^") in
    omega (arith, one, left, few, spaces, before, all)

marks_short : (b : Bool) (line : List ℕ) → IsShort line → All IsShort (if b then line ∷ [] else [])
marks_short true line is = All-cons IsShort line [] is (All-nil IsShort)
marks_short false line is = All-nil IsShort

lines_short : (mark : Place) (number : ℕ) (row : List ℕ) → number < 10 ^ 10 → All IsShort (lines_of_row mark number row)
lines_short mark number row lt =
    All-cons IsShort _ _ (row_short (first_column mark.col) number row lt) (marks_short _ _ (mark_short mark.col))

joined_short : (lists : List (List (List ℕ))) → All (λ lines. All IsShort lines) lists → All IsShort (joined lists)
joined_short [] all = All-nil IsShort
joined_short (lines ∷ lists) all =
    All-append IsShort lines (joined lists) (all 0 [] (omega arith)) (joined_short lists (λ k d lt. all (suc k) d (omega (arith, lt))))

around_short : (all : List (List ℕ)) (mark : Place) → mark.row < 2 ^ 32 → All IsShort (lines_around all mark)
around_short all mark low =
    let top = first_row mark.row in
    let count = row_count mark.row (length all) in
    joined_short _ (All-map (λ lines. All IsShort lines) (lines_at all mark) (range_with_len top count) (λ k d lt.
    let few = length-range_with_len top count in
    let is = get_or-range_with_len top count k d (omega (arith, lt, few)) in
    lines_short mark (slice_index_or (range_with_len top count) k d) (slice_index_or all (slice_index_or (range_with_len top count) k d - 1) []) (omega (arith, lt, few, is, low))))

pub law : (text : List ℕ) (mark : Place) → mark.row < 2 ^ 32 → All IsShort (picture_lines text mark)
law text mark low =
    All-cons IsShort (ruler (first_column mark.col)) (lines_around (text_rows text) mark) (ruler_short (first_column mark.col)) (around_short (text_rows text) mark low)
