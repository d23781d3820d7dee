-- The modules so far have their plans.
use Rattle.std.specs.Prelude.{◌≡◌, ℕ, length, slice_get, Some}
use Rattle.lower_plan.specs.declared.plan.Plan.{Plan}
use Rattle.lower_plan.specs.Plans.{IsPlan}
use Rattle.lower_plan.proofs.planning.plans.Given as goal

abbrev pub invariant-loop-number : goal.invariant-loop-number
invariant-loop-number l = (length l.plans.items ≡ l.number) × ((m : ℕ) (p : Plan) → slice_get l.plans.items m ≡ Some p → (p.«module» ≡ m) × IsPlan l.program p)
