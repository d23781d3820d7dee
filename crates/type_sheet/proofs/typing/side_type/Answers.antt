use Rattle.std.specs.Option.{option_map}
use Rattle.std.proofs.Common.{◌∙◌, ap}
use Rattle.type_sheet.specs.Said.{ModuleTypes}
use Rattle.type_sheet.specs.Said.{module_line}
use Rattle.type_sheet.proofs.typing.side_type.Goals as goal

pub returns-in-E : goal.returns-in-E
returns-in-E c =
    rw (c.in-Call.is, c.in-E.is) (c.result_of.ensures ∙ ap (option_map (λ (t : ModuleTypes). t.result))
    (c.module.ensures ∙ ap (module_line c.args.declared.now.rows.now) c.bytes.ensures.bytes))
