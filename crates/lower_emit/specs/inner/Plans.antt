-- The blocks of plans by their numbers, and what they cost.
use Rattle.two_d.specs.Programs.{Program}
use Rattle.lower_emit.specs.Stands.{TextTrail}
use Rattle.lower_emit.specs.KnownOutcomes.{by_numbers, texts_of}
use Rattle.std.specs.Prelude.{ℕ, Option, None, Some, List, slice_get, map, ◌+◌, ◌*◌, []}
use Rattle.codex_values.specs.Value.{Value}
use Rattle.two_d.specs.Meaning.{Inputs}
use Rattle.lower_emit.specs.inner.Ends.{exit_value}
use Rattle.lower_emit.specs.Blocks.{BlockPlan}
use Rattle.lower_plan.specs.declared.plan.Plan.{Plan}
use Rattle.lower_emit.specs.Plans.{block_of}
use Rattle.lower_emit.specs.inner.Trips.{Plans, Prices}
use Rattle.lower_plan.specs.declared.plan.PlanStep.{PlanStep}
use Rattle.two_d.specs.Weights.{weight}
use Rattle.two_d.specs.Trails as trails

-- a trail by the texts of its program
abbrev pub by_texts : Program → trails.Trail → TextTrail
by_texts P trail = by_numbers (texts_of P) trail

-- the inputs that wires carry
abbrev pub inputs_on : (ℕ → Option Value) → (north west : Option ℕ) → Inputs
inputs_on wires north west = record { north = exit_value wires north; west = exit_value wires west }

-- what stands where a number has no plan
abbrev no_block : BlockPlan
no_block = record {
  layout = record { wires = 0; boxes = 0; size = 0 };
  north = None;
  west =
      None;
  boxes = [];
  exits = [];
  none = 0;
  two = 0;
}

-- the block of a plan, if there is one
abbrev pub block_if : Program → Option Plan → BlockPlan
block_if P None = no_block
block_if P (Some p) = block_of P p

-- the blocks of modules by their numbers
abbrev pub plans_of : Program → List Plan → Plans
plans_of P plans m = block_if P (slice_get plans m)

-- the order of a plan's boxes, if there is one
abbrev pub order_if : Option Plan → List ℕ
order_if None = []
order_if (Some p) = map (λ (step : PlanStep). step.bx) p.steps.items

-- the orders of the boxes of modules by their numbers
abbrev pub orders_of : List Plan → ℕ → List ℕ
orders_of plans m = order_if (slice_get plans m)

-- what the code of blocks costs, by the weight
abbrev pub prices_of : Program → Prices
prices_of P = record { frame = 4 * weight P + 112; price = 160 * weight P }
