use Rattle.std.specs.Prelude.{Ok, List}
use Rattle.std.proofs.Common.{◌≡◌, ◌∙◌, ap, subst}
use Rattle.std.proofs.lemmas.Result.{err_from_is_err_and}
use Rattle.two_d.specs.Programs.{Program, modules_of}
use Rattle.two_d.specs.Reading.{Gives, Refuses, Then, each_from, goes_on, stops}
use Rattle.two_d.proofs.TableLemmas.{refuses_through}
use Rattle.type_sheet.specs.declared.line.SheetRow.{SheetRow}
use Rattle.type_sheet.specs.Sheets.{fault_of}
use Rattle.type_sheet.specs.Fits.{fits_of, lines_there, module_fits, places_there}
use Rattle.type_sheet.proofs.Wanting.{gives-behind}
use Rattle.type_sheet.proofs.fitting.fits_rows.Goals as goal

pub returns-clause-read : goal.returns-clause-read
returns-clause-read c =
    let P = c.args.program.now in
    let rows = c.args.rows.now in
    let same : modules_of c.deref-3.result.now ≡ P = ap modules_of c.deref-3.ensures.value ∙ c.modules-2.ensures.modules in
    let read : c.in_ok-declared.declared.rows.now ≡ rows = c.in_ok-declared.ensures.0 in
    let lines : each_from (lines_there rows) 0 P (Ok tt) = subst (λ (xs : List SheetRow). each_from (lines_there xs) 0 P (Ok tt)) read
    (subst (λ (Q : Program). each_from (lines_there c.in_ok-declared.declared.rows.now) 0 Q (Ok tt)) same c.in_ok-check_lines.ensures) in
    let rules = subst (λ (xs : List SheetRow). Gives (λ _. tt) fault_of c.check_rules.result (each_from (module_fits xs) 0 P)) read c.check_rules.ensures in
    gives-behind c.check_rules.result (places_there P rows) (Then (each_from (lines_there rows) 0 P) (λ _. each_from (module_fits rows) 0 P)) c.in_ok-check_places.ensures
    (gives-behind c.check_rules.result (each_from (lines_there rows) 0 P) (each_from (module_fits rows) 0 P) lines rules)

pub returns-in_err-check_lines-clause-read : goal.returns-in_err-check_lines-clause-read
returns-in_err-check_lines-clause-read c =
    let P = c.args.program.now in
    let rows = c.args.rows.now in
    let p = err_from_is_err_and c.from_residual-in_err-check_lines.result c.from_residual-in_err-check_lines.ensures.1 in
    let fault = fault_of c.in_err-check_lines.field-0.0 in
    let same : modules_of c.deref-3.result.now ≡ P = ap modules_of c.deref-3.ensures.value ∙ c.modules-2.ensures.modules in
    let read : c.in_ok-declared.declared.rows.now ≡ rows = c.in_ok-declared.ensures.0 in
    let refused : Refuses (each_from (lines_there rows) 0 P) fault = subst (λ (xs : List SheetRow). Refuses (each_from (lines_there xs) 0 P) fault) read
    (subst (λ (Q : Program). Refuses (each_from (lines_there c.in_ok-declared.declared.rows.now) 0 Q) fault) same c.in_err-check_lines.ensures) in
    rw (p.1, p.2) (refuses_through fault (each_from (lines_there rows) 0 P) (fits_of P rows) (λ f h. goes_on tt c.in_ok-check_places.ensures (stops f h)) refused)

pub returns-in_err-check_places-clause-read : goal.returns-in_err-check_places-clause-read
returns-in_err-check_places-clause-read c =
    let p = err_from_is_err_and c.from_residual-in_err-check_places.result c.from_residual-in_err-check_places.ensures.1 in
    rw (p.1, p.2) (refuses_through (fault_of c.in_err-check_places.field-0.0) (places_there c.args.program.now c.args.rows.now) (fits_of c.args.program.now c.args.rows.now)
    (λ f h. stops f h) c.in_err-check_places.ensures)
