use Rattle.std.specs.Option.{option_and_then}
use Rattle.std.proofs.Common.{sym, ◌∙◌, ap}
use Rattle.two_d.specs.Programs.{box_of}
use Rattle.type_sheet.specs.Said.{ModuleTypes}
use Rattle.type_sheet.specs.Said.{module_line}
use Rattle.type_sheet.specs.Fits.{wire_fits}
use Rattle.type_sheet.specs.inner.Carried.{types_in}
use Rattle.type_sheet.proofs.typing.WireTypes.box_fits.Goals as goal

pub returns-then-wire_fits : goal.returns-then-wire_fits
returns-then-wire_fits c =
    let rows = c.args.declared.now.rows.now in
    let types = types_in c.args.self.now in
    let row = box_of c.args.row.now in
    let line = c.module-types.ensures ∙ ap (module_line rows) c.bytes.ensures.bytes in
    let north = c.wire_fits.ensures ∙ ap (wire_fits types row.n) (c.north_of.ensures ∙ ap (option_and_then (λ (t : ModuleTypes). t.north)) line) in
    let west = c.wire_fits-then-wire_fits.ensures ∙ ap (wire_fits types row.w) (c.west_of.ensures ∙ ap (option_and_then (λ (t : ModuleTypes). t.west)) line) in
    let holds = sym north ∙ c.if-wire_fits.true in
    rw (c.in-Call.is, holds) west

pub returns-else-wire_fits : goal.returns-else-wire_fits
returns-else-wire_fits c =
    let rows = c.args.declared.now.rows.now in
    let types = types_in c.args.self.now in
    let row = box_of c.args.row.now in
    let line = c.module-types.ensures ∙ ap (module_line rows) c.bytes.ensures.bytes in
    let north = c.wire_fits.ensures ∙ ap (wire_fits types row.n) (c.north_of.ensures ∙ ap (option_and_then (λ (t : ModuleTypes). t.north)) line) in
    let fails = sym north ∙ c.if-wire_fits.false in
    rw (c.in-Call.is, fails) c.if-wire_fits.false
