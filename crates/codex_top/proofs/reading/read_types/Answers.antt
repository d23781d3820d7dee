use Rattle.std.proofs.Common.{subst}
use Rattle.std.specs.Prelude.{Ok}
use Rattle.std.proofs.lemmas.Result.{err_from_is_err_and}
use Rattle.two_d.specs.Reading.{Refuses}
use Rattle.type_sheet.specs.Sheets.{fault_of, most_sheet_bytes, sheet_of}
use Rattle.type_sheet.proofs.Placed.{no_place}
use Rattle.codex_top.specs.Reading.{IsSheetOf, IsNoSheet}
use Rattle.codex_top.proofs.FileLemmas.{seen_of, none_read}
use Rattle.codex_top.proofs.TypeLemmas.{place_told, sheet_read, sheet_told}
use Rattle.codex_top.proofs.reading.read_types.Goals as goal

pub returns-in_err-text-clause-read : goal.returns-in_err-text-clause-read
returns-in_err-text-clause-read g c =
    let p = err_from_is_err_and c.from_residual.result c.from_residual.ensures.1 in
    rw (p.1, p.2) (none_read IsSheetOf (IsNoSheet c.args.program.now) c.args.file.now most_sheet_bytes _ _ c.in_err-text.field-0.0 c.in_err-text.ensures.read)

pub returns-in-Ok-clause-read : goal.returns-in-Ok-clause-read
returns-in-Ok-clause-read g c =
    let s = seen_of c.args.file.now most_sheet_bytes _ _ (Ok c.in_ok-text.text) c.in_ok-text.ensures.read in
    sheet_read c.args.program.now c.args.file.now _ _ c.in_ok-text.text.items s c.in-Ok.sheet
    (subst (λ text. sheet_of text (Ok c.in-Ok.sheet)) c.deref.ensures.value c.in-Ok.ensures)

pub sheet_line-requires : goal.sheet_line-requires
sheet_line-requires g c =
    place_told c.args.program.now (sheet_of c.deref.result.now) (no_place c.args.program.now c.deref.result.now) c.in-Err.fault c.in-Err.ensures

pub returns-clause-read : goal.returns-clause-read
returns-clause-read g c =
    let s = seen_of c.args.file.now most_sheet_bytes _ _ (Ok c.in_ok-text.text) c.in_ok-text.ensures.read in
    sheet_told c.args.program.now c.args.file.now _ _ c.in_ok-text.text.items s c.in-Err.fault c.sheet_line.result
    (subst (λ text. Refuses (sheet_of text) (fault_of c.in-Err.fault)) c.deref.ensures.value c.in-Err.ensures) c.sheet_line.ensures
