-- What holds of the rows of a sheet.
use Rattle.std.specs.Prelude.{◌≡◌, ℕ, zero, suc, ◌<◌, List, [], ◌∷◌, length, take, slice_get, Any, Some, Ok, Result}
use Rattle.std.specs.Str.Lines.{lines}
use Rattle.std.proofs.Common.{refl, subst, arith}
use Rattle.std.proofs.lemmas.Option.{slice_get_within, get_or_from_slice_get}
use Rattle.two_d.specs.Reading.{Gave, gave, Refused, each_from}
use Rattle.two_d.proofs.GoodTable.{not_so}
use Rattle.two_d.proofs.InOrder.{then_ok}
use Rattle.type_sheet.specs.declared.fault.SheetFault.TheVariants.{TooLong, SameLine, NoType}
use Rattle.type_sheet.specs.declared.line.SheetRow.{SheetRow}
use Rattle.type_sheet.specs.Sheets.{a_type, subject_of, types_used, Declares, most_sheet_bytes, rows_from, declares_anew, uses_declared, IsSheet}
use Rattle.type_sheet.proofs.Rules.{from_first}

gave_is : {F A : Type 0} (x y : A) → Gave {F = F} x (Ok y) → x ≡ y
gave_is {F = F} {A = A} x y h = by (Ok y) h y refl
  where
    by : (r : Result A F) → Gave x r → (y : A) → r ≡ Ok y → x ≡ y
    by _ gave y e = cc

-- the two tests that the rows passed
pub record Passed (rows : List SheetRow) : Type 0 where
  pub apart : each_from (declares_anew rows) 0 rows (Ok tt)
  pub typed : each_from (λ _. uses_declared rows) 0 rows (Ok tt)

pub passed_of : (rows : List SheetRow) → IsSheet rows → Passed rows
passed_of rows (text, is) =
    let (u, short, further) = then_ok (Refused TooLong (most_sheet_bytes < length text)) _ rows is in
    let (read, reading, tests) = then_ok (rows_from 1 (lines text)) _ rows further in
    let (v, apart, more) = then_ok (each_from (declares_anew read) 0 read) _ rows tests in
    let (w, typed, last) = then_ok (each_from (λ _. uses_declared read) 0 read) _ rows more in
    subst Passed (gave_is read rows last) (record { apart = apart; typed = typed })

slice_get-take : (rows : List SheetRow) (i j : ℕ) (row : SheetRow) → j < i → slice_get rows j ≡ Some row → slice_get (take i rows) j ≡ Some row
slice_get-take [] zero j row lt e = absurd (cc)
slice_get-take [] (suc i) j row lt e = absurd (cc)
slice_get-take (x ∷ xs) zero j row lt e = absurd (omega (arith, lt))
slice_get-take (x ∷ xs) (suc i) zero row lt e = e
slice_get-take (x ∷ xs) (suc i) (suc j) row lt e = slice_get-take xs i j row (omega (arith, lt)) e

-- no row declares what an earlier one declares
pub rows_apart : (rows : List SheetRow) → IsSheet rows → (i j : ℕ) (row other : SheetRow) → i < j → slice_get rows i ≡ Some row → slice_get rows j ≡ Some other →
    subject_of row.line ≡ subject_of other.line → ⊥
rows_apart rows sheet i j row other lt at later same =
    let passed = passed_of rows sheet in
    let here = slice_get-take rows j i row lt at in
    not_so (SameLine other.at) (Declares (take j rows) (subject_of other.line)) (Ok tt)
    (from_first (declares_anew rows) rows passed.apart j other later) refl
    (i, row, slice_get_within (take j rows) i row here, get_or_from_slice_get (take j rows) i row row here, same)

-- each type that is used is declared, unless it isn't known whether it is
pub rows_typed : (rows : List SheetRow) → IsSheet rows → (i : ℕ) (row : SheetRow) → slice_get rows i ≡ Some row →
    Any (λ a. Declares rows (a_type a) → ⊥) (types_used row.line) → ⊥
rows_typed rows sheet i row at bad =
    not_so (NoType row.at) (Any (λ a. Declares rows (a_type a) → ⊥) (types_used row.line)) (Ok tt)
    (from_first (λ _. uses_declared rows) rows (passed_of rows sheet).typed i row at) refl bad
