use Rattle.std.specs.Prelude.{◌<◌, List, Ok, length}
use Rattle.std.specs.Str.Lines.{lines}
use Rattle.std.proofs.Common.{subst, arith}
use Rattle.std.proofs.lemmas.Result.{err_from_is_err_and}
use Rattle.two_d.specs.Reading.{Refuses}
use Rattle.two_d.proofs.TableLemmas.{refuses_through}
use Rattle.type_sheet.specs.declared.line.SheetRow.{SheetRow}
use Rattle.type_sheet.specs.Sheets.{fault_of, most_sheet_bytes, rows_from, sheet_of}
use Rattle.type_sheet.proofs.RowsRead.{rows_pass, text_too_long, text_bad, text_fails, text_good}
use Rattle.type_sheet.proofs.sheet.read_sheet.Goals as goal

pub returns-then-text-gt-MOST_SHEET_BYTES : goal.returns-then-text-gt-MOST_SHEET_BYTES
returns-then-text-gt-MOST_SHEET_BYTES c = text_too_long c.args.text.now (omega (arith, c.if-text-gt-MOST_SHEET_BYTES.true))

pub returns-in_err-rows : goal.returns-in_err-rows
returns-in_err-rows c =
    let text = c.args.text.now in
    let short : most_sheet_bytes < length text → ⊥ = λ long. omega (arith, c.if-text-gt-MOST_SHEET_BYTES.false, long) in
    let p = err_from_is_err_and c.from_residual.result c.from_residual.ensures.1 in
    rw (p.1, p.2) (refuses_through (fault_of c.in_err-rows.field-0.0) (rows_from 1 (lines text)) (sheet_of text)
    (λ fault bad. text_bad text short fault bad) c.in_err-rows.ensures)

pub returns-in_err-check_rows : goal.returns-in_err-check_rows
returns-in_err-check_rows c =
    let text = c.args.text.now in
    let rows = c.in_ok-rows.rows.items in
    let short : most_sheet_bytes < length text → ⊥ = λ long. omega (arith, c.if-text-gt-MOST_SHEET_BYTES.false, long) in
    let p = err_from_is_err_and c.from_residual-in_err-check_rows.result c.from_residual-in_err-check_rows.ensures.1 in
    let refused : Refuses (rows_pass rows) (fault_of c.in_err-check_rows.field-0.0) =
    subst (λ (xs : List SheetRow). Refuses (rows_pass xs) (fault_of c.in_err-check_rows.field-0.0)) c.deref.ensures.value c.in_err-check_rows.ensures in
    rw (p.1, p.2) (refuses_through (fault_of c.in_err-check_rows.field-0.0) (rows_pass rows) (sheet_of text)
    (λ fault bad. text_fails text rows short c.in_ok-rows.ensures fault bad) refused)

pub invariant_of-result : goal.invariant_of-result
invariant_of-result c =
    let text = c.args.text.now in
    let rows = c.in_ok-rows.rows.items in
    let short : most_sheet_bytes < length text → ⊥ = λ long. omega (arith, c.if-text-gt-MOST_SHEET_BYTES.false, long) in
    let good : rows_pass rows (Ok tt) = subst (λ (xs : List SheetRow). rows_pass xs (Ok tt)) c.deref.ensures.value c.in_ok-check_rows.ensures in
    (text, text_good text rows short c.in_ok-rows.ensures good)

pub returns : goal.returns
returns c =
    let text = c.args.text.now in
    let rows = c.in_ok-rows.rows.items in
    let short : most_sheet_bytes < length text → ⊥ = λ long. omega (arith, c.if-text-gt-MOST_SHEET_BYTES.false, long) in
    let good : rows_pass rows (Ok tt) = subst (λ (xs : List SheetRow). rows_pass xs (Ok tt)) c.deref.ensures.value c.in_ok-check_rows.ensures in
    text_good text rows short c.in_ok-rows.ensures good
