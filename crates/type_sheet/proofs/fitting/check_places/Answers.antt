use Rattle.std.proofs.Common.{◌≡◌, length, slice_get, Some, refl, sym, ◌∙◌, arith}
use Rattle.std.proofs.lemmas.Option.{slice_get_read}
use Rattle.two_d.proofs.TableLemmas.{goes_on_first, goes_on_next, stops_at, goes_on_end}
use Rattle.type_sheet.specs.declared.fault.SheetFault.TheVariants.{NoPlace}
use Rattle.type_sheet.specs.declared.line.SheetRow.{SheetRow}
use Rattle.type_sheet.specs.Fits.{has_place, want}
use Rattle.type_sheet.proofs.Wanting.{wanted-ok, wanted-err}
use Rattle.type_sheet.proofs.fitting.check_places.Goals as goal

pub loop-row-init : goal.loop-row-init
loop-row-init c = goes_on_first (λ _ (row : SheetRow). want (NoPlace row.at) (has_place c.args.program.now row.line)) c.args.rows.now

pub loop-row-preserved : goal.loop-row-preserved
loop-row-preserved c =
    let rows = c.args.rows.now in
    let i = c.loop-row.row-index in
    let row = c.row-item.result in
    let at : slice_get rows i ≡ Some row = slice_get_read rows (length rows) i row refl (omega arith) c.row-item.is in
    goes_on_next (λ _ (row : SheetRow). want (NoPlace row.at) (has_place c.args.program.now row.line)) rows i row at
    (wanted-ok (NoPlace row.at) (has_place c.args.program.now row.line) (sym c.has_place.ensures ∙ c.if-not-has_place.false)) c.loop-row.invariant

pub returns-then-not-has_place : goal.returns-then-not-has_place
returns-then-not-has_place c =
    let rows = c.args.rows.now in
    let i = c.loop-row.row-index in
    let row = c.row-item.result in
    let at : slice_get rows i ≡ Some row = slice_get_read rows (length rows) i row refl (omega arith) c.row-item.is in
    stops_at (λ _ (row : SheetRow). want (NoPlace row.at) (has_place c.args.program.now row.line)) rows i row at c.loop-row.invariant (NoPlace row.at)
    (wanted-err (NoPlace row.at) (has_place c.args.program.now row.line) (sym c.has_place.ensures ∙ c.if-not-has_place.true))

pub returns : goal.returns
returns c = goes_on_end (λ _ (row : SheetRow). want (NoPlace row.at) (has_place c.args.program.now row.line)) c.args.rows.now c.loop-row.row-index (omega arith) c.loop-row.invariant
