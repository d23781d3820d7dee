-- The parts of a plan are those of the module of the number.
use Rattle.std.proofs.Common.{refl, sym, ap, subst, arith}
use Rattle.two_d.specs.Programs.{module_of}
use Rattle.two_d.specs.Sound.{IsSound}
use Rattle.two_d.specs.Weights.{part}
use Rattle.lower_plan.proofs.Planned.{module_is, sound_at, part-le, plan_is}
use Rattle.lower_plan.proofs.planning.plan_of.Goals as goal

pub slots_of-requires-clause-sound : goal.slots_of-requires-clause-sound
slots_of-requires-clause-sound c =
    let e = module_is _ c.args.program.now c.modules.ensures.modules c.args.number c.index-owner.result.now c.requires.there c.index-owner.ensures in
    subst IsSound (sym e) (sound_at c.args.program.now c.modules.ensures.good c.args.number c.requires.there)

pub slots_of-requires-clause-few : goal.slots_of-requires-clause-few
slots_of-requires-clause-few c =
    let e = module_is _ c.args.program.now c.modules.ensures.modules c.args.number c.index-owner.result.now c.requires.there c.index-owner.ensures in
    omega (arith, ap part e, part-le c.args.program.now c.args.number c.requires.there, c.requires.few)

pub returns-clause-plan : goal.returns-clause-plan
returns-clause-plan c =
    let e = module_is _ c.args.program.now c.modules.ensures.modules c.args.number c.index-owner.result.now c.requires.there c.index-owner.ensures in
    plan_is c.args.program.now (module_of c.index-owner.result.now) c.in_ok-slots.slots c.order.result.now.items _ c.requires.there e c.in_ok-slots.ensures c.order.ensures refl
    c.in_ok-steps.ensures c.in_ok-exits.ensures c.at.ensures c.at-2.ensures
