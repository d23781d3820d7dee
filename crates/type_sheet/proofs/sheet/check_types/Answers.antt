use Rattle.std.proofs.Common.{◌≡◌, length, slice_get, Some, refl, sym, ◌∙◌, arith}
use Rattle.std.proofs.lemmas.Option.{slice_get_read}
use Rattle.two_d.proofs.TableLemmas.{goes_on_first, goes_on_next, stops_at, goes_on_end}
use Rattle.type_sheet.specs.declared.fault.SheetFault.TheVariants.{NoType}
use Rattle.type_sheet.specs.Sheets.{uses_declared}
use Rattle.type_sheet.proofs.RowsRead.{uses_ok, uses_err}
use Rattle.type_sheet.proofs.sheet.check_types.Goals as goal

pub loop-row-init : goal.loop-row-init
loop-row-init c = goes_on_first (λ _. uses_declared c.args.rows.now) c.args.rows.now

pub loop-row-preserved : goal.loop-row-preserved
loop-row-preserved c =
    let rows = c.args.rows.now in
    let i = c.loop-row.row-index in
    let row = c.row-item.result in
    let at : slice_get rows i ≡ Some row = slice_get_read rows (length rows) i row refl (omega arith) c.row-item.is in
    goes_on_next (λ _. uses_declared rows) rows i row at
    (uses_ok rows c.args.index.now c.requires row (sym c.uses_declared.ensures ∙ c.if-not-uses_declared.false)) c.loop-row.invariant

pub returns-then-not-uses_declared : goal.returns-then-not-uses_declared
returns-then-not-uses_declared c =
    let rows = c.args.rows.now in
    let i = c.loop-row.row-index in
    let row = c.row-item.result in
    let at : slice_get rows i ≡ Some row = slice_get_read rows (length rows) i row refl (omega arith) c.row-item.is in
    stops_at (λ _. uses_declared rows) rows i row at c.loop-row.invariant (NoType row.at)
    (uses_err rows c.args.index.now c.requires row (sym c.uses_declared.ensures ∙ c.if-not-uses_declared.true))

pub returns : goal.returns
returns c = goes_on_end (λ _. uses_declared c.args.rows.now) c.args.rows.now c.loop-row.row-index (omega arith) c.loop-row.invariant
