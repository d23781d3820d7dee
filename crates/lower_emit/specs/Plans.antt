-- The boxes of a plan with their slots.
use Rattle.std.specs.Prelude.{ℕ, List, ◌∷◌, Option, Some, None, ◌+◌, map, []}
use Rattle.two_d.specs.declared.command.Side.{Side as BoxSide}
use Rattle.two_d.specs.declared.command.Side.TheVariants.{S, E}
use Rattle.lower_plan.specs.declared.plan.PlanStep.{PlanStep}
use Rattle.two_d.specs.Trees.{Tree, Form, send, case, split, call}
use Rattle.lower_emit.specs.Boxes.{Sent, Box, Sorts, Sends, Uses}
use Rattle.lower_emit.specs.Layouts.{SideSlot, Layout}
use Rattle.two_d.specs.Programs.{Program, find, module_at, BoxForm, box_at, box_count}
use Rattle.two_d.specs.Weights.{part}
use Rattle.lower_emit.specs.KnownOutcomes.{first_text, site_text}
use Rattle.lower_plan.specs.declared.plan.Plan.{Plan}
use Rattle.two_d.specs.declared.trail.Site.TheVariants.{NoResult, TwoResults}
use Rattle.lower_emit.specs.Blocks.{BlockPlan}

-- the slots of the inputs that are wired
abbrev pub wired : (north west : Option ℕ) → List ℕ
wired None None = []
wired None (Some w) = w ∷ []
wired (Some n) None = n ∷ []
wired (Some n) (Some w) = n ∷ w ∷ []

-- the wire that leaves a box on a side
abbrev pub wire_to : PlanStep → BoxSide → Option ℕ
wire_to step S = step.s
wire_to step E = step.e

-- the number of the temporary that stands for a side without a wire
abbrev pub spare_of : BoxSide → ℕ
spare_of S = 0
spare_of E = 1

-- an out of a `send`, with the wire of its side
abbrev pub out_sent : PlanStep → Tree × BoxSide → Sent
out_sent step out = record { value = out.0; wire = wire_to step out.1; spare = spare_of out.1 }

-- a side of a box, and a temporary that no wire leaves
abbrev pub side_of : PlanStep → BoxSide → SideSlot
side_of step side = record { wire = wire_to step side; spare = spare_of side }

-- a temporary, in place of a side
abbrev pub dropped : ℕ → SideSlot
dropped j = record { wire = None; spare = j }

-- a side to which two parts go, and the third temporary where no wire leaves it
abbrev pub both_to : PlanStep → BoxSide → SideSlot
both_to step side = record { wire = wire_to step side; spare = 2 }

-- a `case`, whose parts go to one side or to two
abbrev pub case_box : PlanStep → ℕ → Tree → BoxSide → BoxSide → Box
case_box step text x S S = Sorts (wired step.n step.w) step.n step.w x 0 1 (dropped 0) (dropped 1)
    (both_to step S) step.bx text
case_box step text x E E = Sorts (wired step.n step.w) step.n step.w x 0 1 (dropped 0) (dropped 1)
    (both_to step E) step.bx text
case_box step text x S E = Sorts (wired step.n step.w) step.n step.w x 0 1 (side_of step S)
    (side_of step E) (dropped 2) step.bx text
case_box step text x E S = Sorts (wired step.n step.w) step.n step.w x 0 1 (side_of step E)
    (side_of step S) (dropped 2) step.bx text

-- the box of a step of module m
abbrev pub step_box : Program → ℕ → PlanStep → ℕ → Form → Box
step_box P m step text (send outs) = Sends (wired step.n step.w) step.n step.w
    (map (out_sent step) outs)
step_box P m step text (case x left right) = case_box step text x left right
step_box P m step text (split x) = Sorts (wired step.n step.w) step.n step.w x 2 3 (side_of step S)
    (side_of step E) (dropped 2) step.bx text
step_box P m step text (call name) =
    Uses (wired step.n step.w) step.n step.w (find P name) (12 + part (module_at P (find P name))) m
    (side_of step E) step.bx text

-- the box of a row, or one that does nothing where there is none
abbrev pub box_if : Program → ℕ → PlanStep → ℕ → Option BoxForm → Box
box_if P m step text None = Sends [] None None []
box_if P m step text (Some row) = step_box P m step text row.command

-- the box of a step, by the program
abbrev pub box_in : Program → ℕ → PlanStep → Box
box_in P m step = box_if P m step (first_text P m + step.bx) (box_at P m step.bx)

-- the layout of the frame of a plan's module
abbrev pub layout_of : Program → Plan → Layout
layout_of P p = record {
  wires = p.slots;
  boxes = box_count P p.«module»;
  size =
      12 + part (module_at P p.«module»);
}

-- the block of a plan
abbrev pub block_of : Program → Plan → BlockPlan
block_of P p = record {
  layout = layout_of P p;
  north = p.north;
  west = p.west;
  boxes = map (box_in P p.«module») p.steps.items;
  exits = p.exits.items;
  none = site_text P (NoResult p.«module»);
  two = site_text P (TwoResults p.«module»);
}
