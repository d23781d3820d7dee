-- The rows that are kept are those that are shown.
use Rattle.std.proofs.Common.{◌≡◌, ◌+◌, ◌-◌, ◌≤◌, ◌<◌, ℕ, List, [], take, drop, length, refl, ap, sym, ◌∙◌, inl, inr, arith, length-drop}
use Rattle.std.specs.Borrow.{Bor}
use Rattle.std.specs.Prelude.{max, slice_index_or}
use Rattle.std.proofs.lemmas.Bool.{cases_lt, le-ltb, lt-ltb}
use Rattle.std.proofs.lemmas.List.{get_or-drop, get_or-take, length-map, length-take}
use Rattle.text_picture.specs.Pictures.{first_row, row_count}
use Rattle.text_picture.specs.Rows.{rows_read}
use Rattle.text_picture.specs.inner.Shown.{shown_rows}

-- how many they are
pub few_shown : (all : List (List ℕ)) (row : ℕ) → length (shown_rows all row) ≤ 9
few_shown all row =
    let taken = length-take (row + 5 - first_row row) (drop (first_row row - 1) all) in
    elim (cases_lt 4 row) [
      | inl over ↦ let e : first_row row ≡ row - 4 = rw (lt-ltb 4 row over) refl in omega (arith, taken, over, e)
      | inr few ↦ let e : first_row row ≡ 1 = rw (le-ltb 4 row few) refl in omega (arith, taken, few, e)
    ]

pub count_shown : (all : List (List ℕ)) (row : ℕ) → max (length (shown_rows all row)) (row + 1 - first_row row) ≡ row_count row (length all)
count_shown all row =
    let taken = length-take (row + 5 - first_row row) (drop (first_row row - 1) all) in
    let dropped = length-drop (first_row row - 1) all in
    elim (cases_lt 4 row) [
      | inl over ↦ let e : first_row row ≡ row - 4 = rw (lt-ltb 4 row over) refl in omega (arith, taken, dropped, over, e)
      | inr few ↦ let e : first_row row ≡ 1 = rw (le-ltb 4 row few) refl in omega (arith, taken, dropped, few, e)
    ]

-- the row at a place among them
pub row_shown : (all : List (List ℕ)) (row k : ℕ) → k < max (length (shown_rows all row)) (row + 1 - first_row row)
    → slice_index_or (shown_rows all row) k [] ≡ slice_index_or all (first_row row + k - 1) []
row_shown all row k lt =
    let first = first_row row in
    let taken = length-take (row + 5 - first) (drop (first - 1) all) in
    let least : 1 ≤ first = elim (cases_lt 4 row) [
      | inl over ↦ let e : first_row row ≡ row - 4 = rw (lt-ltb 4 row over) refl in omega (arith, over, e)
      | inr few ↦ let e : first_row row ≡ 1 = rw (le-ltb 4 row few) refl in omega (arith, e)
    ] in
    let same : first - 1 + k ≡ first + k - 1 = omega (arith, least) in
    get_or-take (row + 5 - first) (drop (first - 1) all) k [] (omega (arith, lt, taken))
    ∙ (get_or-drop (first - 1) all k [] ∙ ap (λ (n : ℕ). slice_index_or all n []) same)

-- the same of rows as the code keeps them
pub few_read : (rows : List (Bor (List ℕ))) (all : List (List ℕ)) (row first : ℕ) → first ≡ first_row row
    → rows_read rows ≡ take (row + 5 - first) (drop (first - 1) all) → length rows ≤ 9
few_read rows all row first at are =
    let kept = length-map rows (λ (part : Bor (List ℕ)). part.now) in
    let few = few_shown all row in
    let same = ap length (are ∙ ap (λ (n : ℕ). take (row + 5 - n) (drop (n - 1) all)) at) in
    omega (arith, kept, few, same)

pub count_read : (rows : List (Bor (List ℕ))) (all : List (List ℕ)) (row first end : ℕ) → rows_read rows ≡ shown_rows all row → first ≡ first_row row
    → end ≡ max (length rows) (row + 1 - first) → end ≡ max (length (shown_rows all row)) (row + 1 - first_row row)
count_read rows all row first end are at is =
    let kept = length-map rows (λ (part : Bor (List ℕ)). part.now) in
    let same = ap length are in
    omega (arith, kept, same, at, is)

pub row_read : (rows : List (Bor (List ℕ))) (all : List (List ℕ)) (row first k end : ℕ) → rows_read rows ≡ shown_rows all row → first ≡ first_row row
    → end ≡ max (length rows) (row + 1 - first) → k < end → slice_index_or (rows_read rows) k [] ≡ slice_index_or all (first + k - 1) []
row_read rows all row first k end are at is lt =
    let count = count_read rows all row first end are at is in
    ap (λ (kept : List (List ℕ)). slice_index_or kept k []) are
    ∙ (row_shown all row k (omega (arith, count, lt)) ∙ ap (λ (n : ℕ). slice_index_or all (n + k - 1) []) (sym at))
