use Rattle.std.proofs.Common.{length, arith}
use Rattle.std.proofs.lemmas.Option.{slice_get_within, get_or_from_slice_get}
use Rattle.two_d.proofs.TableLemmas.{stops_at, goes_on_end}
use Rattle.type_sheet.specs.declared.fault.SheetFault.TheVariants.{SameLine}
use Rattle.type_sheet.specs.Sheets.{declares_anew}
use Rattle.type_sheet.proofs.RowsRead.{anew_ok, anew_err, goes_until}
use Rattle.type_sheet.proofs.sheet.index_of.Goals as goal

pub returns-in-Some-clause-anew : goal.returns-in-Some-clause-anew
returns-in-Some-clause-anew c =
    let rows = c.args.rows.now in
    let place = c.in-Some.place in
    let (row, at, again, before) = rw c.in-Some.is at c.in_ok-index.ensures.again in
    rw (get_or_from_slice_get rows place row c.index-rows-place.result at)
    (stops_at (declares_anew rows) rows place row at
    (goes_until (declares_anew rows) rows place (omega (arith, slice_get_within rows place row at)) (λ j other lt there. anew_ok rows j other (before j other lt there)))
    (SameLine row.at) (anew_err rows place row again))

pub returns-clause-anew : goal.returns-clause-anew
returns-clause-anew c =
    let rows = c.args.rows.now in
    let apart = rw c.in-None.is at c.in_ok-index.ensures.again in
    goes_on_end (declares_anew rows) rows (length rows) (omega arith)
    (goes_until (declares_anew rows) rows (length rows) (omega arith) (λ j other lt there. anew_ok rows j other (apart j other there)))
