use Rattle.std.specs.Prelude.{length}
use Rattle.std.proofs.Common.{ap, arith}
use Rattle.std.proofs.lemmas.List.{length-map}
use Rattle.two_d.specs.Programs.{ModuleForm, box_of, no_module}
use Rattle.fire_core.proofs.FireLemmas.{module-is}
use Rattle.fire_core.proofs.kept.module_size.Goals as goal

pub returns-clause-small : goal.returns-clause-small
returns-clause-small c =
    let is = module-is c.args.program.now c.modules.result.now.items c.modules.ensures.modules c.args.kind c.index.result.now c.requires c.index.ensures in
    let few = (c.modules.ensures.good.sound c.args.kind no_module c.requires).few_boxes in
    omega (arith, few, ap (λ (m : ModuleForm). length m.boxes) is, length-map c.index.result.now.boxes.items box_of)
