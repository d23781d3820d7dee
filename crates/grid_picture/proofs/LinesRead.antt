-- The grid of a text of lines is these lines.
use Rattle.std.specs.Prelude.{◌≡◌, ◌+◌, ◌-◌, ◌<◌, ◌≤◌, ◌==◌, ℕ, suc, false, List, [], ◌∷◌, ◌++◌, ◌⊎◌, length, take, slice_index, slice_index_or, All, Ok}
use Rattle.std.specs.List.{slice_split}
use Rattle.std.specs.Str.Lines.{lines, lines_of_parts, strip_carriage_return}
use Rattle.std.proofs.Common.{arith, refl, sym, ap, subst, ◌∙◌, inl, inr, get_or, append_assoc, cond}
use Rattle.std.proofs.lemmas.Bool.{ne_eqb, cases_lt}
use Rattle.std.proofs.lemmas.List.{get_or_append_left, get_or-append_right, get_or_past, length-append}
use Rattle.std.proofs.lemmas.List.Splits.{slice_split_at}
use Rattle.two_d.specs.Faults.{TextFault}
use Rattle.two_d.specs.Places.{IsLeast}
use Rattle.two_d.specs.Reading.{Gave, goes_on, gave, passed, none}
use Rattle.two_d.specs.Cells.{IsTooLong, grid_of}
use Rattle.grid_picture.specs.Lined.{lined}
use Rattle.grid_picture.specs.inner.Printable.{IsLine}

no_lf : (row : List ℕ) → IsLine row → All (λ b. (b == 10) ≡ false) row
no_lf row is k d lt = let range = is.printable k d lt in ne_eqb (get_or row k d) 10 (λ e. omega arith)

parts : (rows : List (List ℕ)) → All IsLine rows → slice_split (λ b. b == 10) (lined rows) ≡ rows ++ [] ∷ []
parts [] all = refl
parts (row ∷ rows) all =
    ap (slice_split (λ b. b == 10)) (append_assoc row (10 ∷ []) (lined rows))
    ∙ (slice_split_at (λ b. b == 10) row 10 (lined rows) (no_lf row (all 0 row (omega arith))) refl
    ∙ ap (λ l. row ∷ l) (parts rows (λ k d lt. all (suc k) d (omega arith))))

not_cr : (row : List ℕ) → IsLine row → slice_index row (length row - 1) ≡ 13 → ⊥
not_cr [] is e = omega arith
not_cr (b ∷ row) is e = let range = is.printable (length (b ∷ row) - 1) 0 (omega arith) in omega arith

no_cr : (row : List ℕ) → IsLine row → strip_carriage_return row ≡ row
no_cr row is = ap (λ b. cond b (take (length row - 1) row) row) (ne_eqb (slice_index row (length row - 1)) 13 (not_cr row is))

joined : (rows : List (List ℕ)) → All IsLine rows → lines_of_parts (rows ++ [] ∷ []) ≡ rows
joined [] all = refl
joined (row ∷ []) all = ap (λ l. l ∷ []) (no_cr row (all 0 row (omega arith)))
joined (row ∷ other ∷ rows) all =
    ap (λ l. l ∷ lines_of_parts ((other ∷ rows) ++ [] ∷ [])) (no_cr row (all 0 row (omega arith)))
    ∙ ap (λ l. row ∷ l) (joined (other ∷ rows) (λ k d lt. all (suc k) d (omega arith)))

pub lines-lined : (rows : List (List ℕ)) → All IsLine rows → lines (lined rows) ≡ rows
lines-lined rows all = ap lines_of_parts (parts rows all) ∙ joined rows all

-- each byte of the text is printable or LF
may_stand : (rows : List (List ℕ)) → All IsLine rows → (i : ℕ) → i < length (lined rows) → ((32 ≤ slice_index (lined rows) i) × (slice_index (lined rows) i ≤ 126)) ⊎ (slice_index (lined rows) i ≡ 10)
may_stand [] all i lt = absurd (omega arith)
may_stand (row ∷ rows) all i lt = elim (cases_lt i (length row)) [
  | inl in_row ↦
      (let at : get_or (lined (row ∷ rows)) i 0 ≡ get_or row i 0 = get_or_append_left (row ++ 10 ∷ []) (lined rows) 0 i (let l = long in omega arith) ∙ get_or_append_left row (10 ∷ []) 0 i in_row in
      let range = (all 0 row (omega arith)).printable i 0 in_row in
      inl (omega arith, omega arith))
  | inr past ↦ elim (cases_lt (length row) i) [
    | inr end ↦
        (let at : get_or (lined (row ∷ rows)) i 0 ≡ get_or (10 ∷ []) (i - length row) 0 = get_or_append_left (row ++ 10 ∷ []) (lined rows) 0 i (let l = long in omega arith) ∙ get_or-append_right row (10 ∷ []) (length row) i 0 refl past in
        let zero_is : i - length row ≡ 0 = omega arith in
        inr (at ∙ ap (λ k. get_or (10 ∷ []) k 0) zero_is))
    | inl later ↦
        (let at : get_or (lined (row ∷ rows)) i 0 ≡ get_or (lined rows) (i - (length row + 1)) 0 = get_or-append_right (row ++ 10 ∷ []) (lined rows) (length row + 1) i 0 long (omega arith) in
        subst (λ b. ((32 ≤ b) × (b ≤ 126)) ⊎ (b ≡ 10)) (sym at) (may_stand rows (λ k d less. all (suc k) d (omega arith)) (i - (length row + 1)) (let whole = length-append (row ++ 10 ∷ []) (lined rows) in let l = long in omega arith)))
  ]
]
  where
    long : length (row ++ 10 ∷ []) ≡ length row + 1
    long = length-append row (10 ∷ [])

pub grid_read : (rows : List (List ℕ)) → All IsLine rows → length (lined rows) ≤ 262144 → grid_of (lined rows) (Ok rows)
grid_read rows all short =
    goes_on tt (passed (λ long. omega arith))
    (goes_on tt (none (λ i least. least.holds.bad (elim (may_stand rows all i least.holds.within) [ inl range ↦ inl range | inr lf ↦ inr (inl lf) ])))
    (goes_on tt (none not_long) (subst (λ l. Gave {F = TextFault} l (Ok rows)) (sym (lines-lined rows all)) gave)))
  where
    not_long : (i : ℕ) → IsLeast (IsTooLong (lines (lined rows))) i → ⊥
    not_long i least = by (subst (λ l. 4096 < length (slice_index_or l i [])) (lines-lined rows all) least.holds)
      where
        by : 4096 < length (get_or rows i []) → ⊥
        by long = elim (cases_lt i (length rows)) [
          | inl here ↦ (let is = (all i [] here).short in omega arith)
          | inr past ↦ (let e = ap length (get_or_past rows i [] past) in omega arith)
        ]
