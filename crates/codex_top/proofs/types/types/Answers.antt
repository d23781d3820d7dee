use Rattle.std.proofs.Common.{◌≡◌, ◌∙◌, refl, ap, length, arith}
use Rattle.std.specs.Prelude.{Ok, Err}
use Rattle.std.proofs.lemmas.List.{length-map}
use Rattle.std.proofs.lemmas.Result.{err_from_is_err_and}
use Rattle.two_d.specs.Programs.{module_of}
use Rattle.type_sheet.specs.Fits.{fits_of}
use Rattle.type_sheet.proofs.Placed.{place_there}
use Rattle.codex_top.specs.Commands.{unread, works}
use Rattle.codex_top.specs.Reading.{IsProgram, IsNoProgram, IsSheetOf, IsNoSheet}
use Rattle.codex_top.specs.TypeCommand.{fits, types_in}
use Rattle.codex_top.proofs.FileLemmas.{since, stays}
use Rattle.codex_top.proofs.TypeLemmas.{place_told, unfit_told}
use Rattle.codex_top.proofs.types.types.Goals as goal

pub returns-in_err-program-clause-ends : goal.returns-in_err-program-clause-ends
returns-in_err-program-clause-ends g c =
    let p = err_from_is_err_and c.from_residual.result c.from_residual.ensures.1 in
    rw (p.1, p.2) (unread c.in_err-program.field-0.0 c.in_err-program.ensures.read refl)

pub returns-in_err-sheet-clause-ends : goal.returns-in_err-sheet-clause-ends
returns-in_err-sheet-clause-ends g c =
    let p = err_from_is_err_and c.from_residual-in_err-sheet.result c.from_residual-in_err-sheet.ensures.1 in
    let P = c.in_ok-program.program in
    rw (p.1, p.2) (works P _ (stays IsProgram IsNoProgram c.args.file.now _ _ _ P c.in_ok-program.ensures.read)
    (unread c.in_err-sheet.field-0.0
    (since IsSheetOf (IsNoSheet P) c.args.sheet.now _ _ _ (Err c.in_err-sheet.field-0.0) c.in_ok-program.ensures.shelf c.in_err-sheet.ensures.read) refl))

pub sheet_line-requires : goal.sheet_line-requires
sheet_line-requires g c =
    let P = c.in_ok-program.program in
    let rows = c.in_ok-sheet.sheet in
    place_told P (fits_of P rows) (place_there P rows) c.in-Err.fault c.in-Err.ensures.read

pub returns-in-Err-clause-ends : goal.returns-in-Err-clause-ends
returns-in-Err-clause-ends g c =
    let P = c.in_ok-program.program in
    let rows = c.in_ok-sheet.sheet in
    works P _ (stays IsProgram IsNoProgram c.args.file.now _ _ _ P c.in_ok-program.ensures.read)
    (unfit_told _ P rows _ c.in-Err.fault c.sheet_line.result
    (since IsSheetOf (IsNoSheet P) c.args.sheet.now _ _ _ (Ok rows) c.in_ok-program.ensures.shelf c.in_ok-sheet.ensures.read)
    c.in-Err.ensures.read c.sheet_line.ensures)

pub returns-clause-ends : goal.returns-clause-ends
returns-clause-ends g c =
    let P = c.in_ok-program.program in
    let rows = c.in_ok-sheet.sheet in
    let count : c.len.result ≡ length P =
    omega (arith, c.len.ensures, c.modules.result.now.ok, length-map c.modules.result.now.items module_of, ap length c.modules.ensures.modules) in
    let kinds : c.count_types.result ≡ types_in rows = c.count_types.ensures ∙ ap types_in (c.deref.ensures.value ∙ c.rows.ensures.rows) in
    works P _ (stays IsProgram IsNoProgram c.args.file.now _ _ _ P c.in_ok-program.ensures.read)
    (works rows _
    (since IsSheetOf (IsNoSheet P) c.args.sheet.now _ _ _ (Ok rows) c.in_ok-program.ensures.shelf c.in_ok-sheet.ensures.read)
    (fits c.send_last.result c.in_default.ensures.read c.in_default.ensures.safe
    (rw (c.as_bytes-modules.ensures.value, c.format.ensures.text, count, c.as_bytes-kinds.ensures.value, c.format-2.ensures.text, kinds) at c.send_last.ensures.ends)))
