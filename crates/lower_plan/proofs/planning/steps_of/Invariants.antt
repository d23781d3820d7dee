-- The boxes so far have their steps.
use Rattle.std.specs.Prelude.{take}
use Rattle.two_d.specs.Programs.{module_of}
use Rattle.lower_plan.specs.Plans.{AreSteps}
use Rattle.lower_plan.proofs.planning.steps_of.Given as goal

abbrev pub invariant-loop-bx : goal.invariant-loop-bx
invariant-loop-bx l = AreSteps (module_of l.owner) (take l.bx-index l.order.items) l.steps.items
