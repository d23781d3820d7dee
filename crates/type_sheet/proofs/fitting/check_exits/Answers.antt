use Rattle.std.specs.Prelude.{Option, None, slice_index_or}
use Rattle.std.specs.Option.{option_copied}
use Rattle.std.proofs.Common.{◌≡◌, slice_get, Some, sym, ◌∙◌, arith}
use Rattle.std.proofs.lemmas.Option.{slice_get-get_or}
use Rattle.two_d.specs.declared.module.Origin.{Origin}
use Rattle.two_d.proofs.TableLemmas.{goes_on_next, stops_at, goes_on_end}
use Rattle.type_sheet.specs.declared.fault.At.TheVariants.{Exit}
use Rattle.type_sheet.specs.declared.fault.SheetFault.TheVariants.{Mismatch}
use Rattle.type_sheet.specs.Fits.{wire_fits, want}
use Rattle.type_sheet.specs.inner.Carried.{types_in}
use Rattle.type_sheet.proofs.Wanting.{wanted-ok, wanted-err}
use Rattle.type_sheet.proofs.fitting.check_exits.Goals as goal

pub loop-exit-preserved : goal.loop-exit-preserved
loop-exit-preserved c =
    let exits = c.args.exits.now in
    let i = c.loop-exit.exit in
    let exit : Option Origin = slice_index_or exits i None in
    let at : slice_get exits i ≡ Some exit = slice_get-get_or exits i None (omega arith) in
    goes_on_next (λ j exit. want (Mismatch (Exit c.args.number j)) (wire_fits (types_in c.args.types.now) exit (option_copied c.args.kind))) exits i exit at
    (wanted-ok (Mismatch (Exit c.args.number i)) (wire_fits (types_in c.args.types.now) exit (option_copied c.args.kind)) (sym c.wire_fits.ensures ∙ c.if-not-wire_fits.false)) c.loop-exit.invariant

pub returns-then-not-wire_fits : goal.returns-then-not-wire_fits
returns-then-not-wire_fits c =
    let exits = c.args.exits.now in
    let i = c.loop-exit.exit in
    let exit : Option Origin = slice_index_or exits i None in
    let at : slice_get exits i ≡ Some exit = slice_get-get_or exits i None (omega arith) in
    stops_at (λ j exit. want (Mismatch (Exit c.args.number j)) (wire_fits (types_in c.args.types.now) exit (option_copied c.args.kind))) exits i exit at c.loop-exit.invariant
    (Mismatch (Exit c.args.number i))
    (wanted-err (Mismatch (Exit c.args.number i)) (wire_fits (types_in c.args.types.now) exit (option_copied c.args.kind)) (sym c.wire_fits.ensures ∙ c.if-not-wire_fits.true))

pub returns : goal.returns
returns c =
    goes_on_end (λ j exit. want (Mismatch (Exit c.args.number j)) (wire_fits (types_in c.args.types.now) exit (option_copied c.args.kind))) c.args.exits.now c.loop-exit.exit (omega arith) c.loop-exit.invariant
