use Rattle.std.proofs.lemmas.Result.{err_from_is_err_and}
use Rattle.two_d.specs.Reading.{stops, each_from}
use Rattle.two_d.proofs.TableLemmas.{refuses_through}
use Rattle.type_sheet.specs.Sheets.{fault_of, declares_anew, uses_declared}
use Rattle.type_sheet.proofs.RowsRead.{rows_pass}
use Rattle.type_sheet.proofs.Wanting.{gives-behind}
use Rattle.type_sheet.proofs.sheet.check_rows.Goals as goal

pub returns : goal.returns
returns c =
    let rows = c.args.rows.now in
    gives-behind c.check_types.result (each_from (declares_anew rows) 0 rows) (each_from (λ _. uses_declared rows) 0 rows) c.in_ok-index.ensures.anew c.check_types.ensures

pub returns-in_err-index : goal.returns-in_err-index
returns-in_err-index c =
    let rows = c.args.rows.now in
    let p = err_from_is_err_and c.from_residual.result c.from_residual.ensures.1 in
    rw (p.1, p.2) (refuses_through (fault_of c.in_err-index.field-0.0) (each_from (declares_anew rows) 0 rows) (rows_pass rows) (λ fault bad. stops fault bad) c.in_err-index.ensures.anew)
