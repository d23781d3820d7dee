-- One plan more.
use Rattle.std.specs.Prelude.{◌∷◌, [], length}
use Rattle.std.proofs.Common.{ap, arith, length-append}
use Rattle.lower_plan.proofs.Planned.{plans_next}
use Rattle.lower_plan.proofs.planning.plans.Goals as goal

pub loop-number-preserved : goal.loop-number-preserved
loop-number-preserved c = (
  omega (arith, ap length c.in_ok-push.ensures.items, length-append c.loop-number.plans.items (c.in_ok-plan_of.field-0 ∷ []), c.loop-number.invariant.0),
  plans_next c.args.program.now c.loop-number.plans.items _ c.loop-number.number c.in_ok-plan_of.field-0 c.loop-number.invariant.0 c.loop-number.invariant.1
      c.in_ok-push.ensures.items c.in_ok-plan_of.ensures.number c.in_ok-plan_of.ensures.plan,
)
