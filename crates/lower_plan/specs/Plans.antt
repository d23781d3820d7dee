-- Which slot each wire of a module has, and a module's plan.
use Rattle.std.specs.Prelude.{◌≡◌, ℕ, suc, ◌<◌, ◌==◌, Bool, true, false, if◌then◌else◌, List, []}
use Rattle.std.specs.Prelude.{◌∷◌, ◌++◌, length, map, Option, Some, None, slice_get}
use Rattle.std.specs.Option.{option_map, option_and_then}
use Rattle.two_d.specs.declared.module.Origin.{Origin}
use Rattle.two_d.specs.declared.module.Origin.TheVariants.{North, West, South, East}
use Rattle.two_d.specs.Programs.{BoxForm, ModuleForm, Program, module_at}
use Rattle.two_d.specs.Sound.{IsKeptOrder}
use Rattle.lower_plan.specs.declared.plan.Plan.{Plan}
use Rattle.lower_plan.specs.declared.plan.PlanStep.{PlanStep}

-- where the wires to the boxes begin: that to the north side of the first box, that to its west
-- side, and so on
abbrev pub box_inputs : List BoxForm → List (Option Origin)
box_inputs [] = []
box_inputs (row ∷ rows) = row.n ∷ row.w ∷ box_inputs rows

-- those that there are
abbrev pub these : List (Option Origin) → List Origin
these [] = []
these (None ∷ os) = these os
these (Some o ∷ os) = o ∷ these os

-- where the wires to the boxes begin, and then those to the exits
abbrev pub origins_named : ModuleForm → List (Option Origin)
origins_named m = box_inputs m.boxes ++ m.exits

-- where the wires of a module begin; no wire stands in it twice
abbrev pub wire_starts : ModuleForm → List Origin
wire_starts m = these (origins_named m)

-- the two are the same
abbrev pub is_same : Origin → Origin → Bool
is_same North North = true
is_same West West = true
is_same (South b) (South c) = b == c
is_same (East b) (East c) = b == c
is_same _ _ = false

-- where a wire stands among wires
abbrev pub slot_in : List Origin → Origin → Option ℕ
slot_in [] o = None
slot_in (p ∷ ps) o = if is_same p o then Some 0 else option_map suc (slot_in ps o)

-- the slot of the wire that begins there, if one does
abbrev pub slot_of : ModuleForm → Origin → Option ℕ
slot_of m o = slot_in (wire_starts m) o

-- the slot of the wire that ends at an input or an exit, if one does
abbrev pub slot_at : ModuleForm → Option Origin → Option ℕ
slot_at m end = option_and_then (slot_of m) end

-- the step of a box, with the slots of its wires
abbrev pub step_of : ModuleForm → ℕ → BoxForm → PlanStep
step_of m b row = record {
  bx = b;
  n = slot_at m row.n;
  w = slot_at m row.w;
  s = slot_of m (South b);
  e = slot_of m (East b);
}

-- box b is there, and the step is its step
pub record IsStep (m : ModuleForm) (step : PlanStep) (b : ℕ) : Type 0 where
  pub row : BoxForm
  pub there : slice_get m.boxes b ≡ Some row
  pub slots : step ≡ step_of m b row

-- the boxes of steps
abbrev pub boxes_of_steps : List PlanStep → List ℕ
boxes_of_steps steps = map (λ (step : PlanStep). step.bx) steps

-- each step is that of its box
abbrev pub AreOfBoxes : ModuleForm → List PlanStep → Type 0
AreOfBoxes m steps =
    (j : ℕ) (step : PlanStep) → slice_get steps j ≡ Some step → IsStep m step step.bx

-- the steps of the boxes in this order
pub record AreSteps (m : ModuleForm) (order : List ℕ) (steps : List PlanStep) : Type 0 where
  pub boxes : boxes_of_steps steps ≡ order
  pub each : AreOfBoxes m steps

-- the module that a plan is of
abbrev pub planned : Program → Plan → ModuleForm
planned P p = module_at P p.«module»

-- a plan of one of the modules: each wire has a slot, and the steps stand in the kept order
pub record IsPlan (P : Program) (p : Plan) : Type 0 where
  pub there : p.«module» < length P
  pub slots : p.slots ≡ length (wire_starts (planned P p))
  pub order : IsKeptOrder (planned P p) (boxes_of_steps p.steps.items)
  pub steps : AreOfBoxes (planned P p) p.steps.items
  pub exits : p.exits.items ≡ map (slot_at (planned P p)) (planned P p).exits
  pub north : p.north ≡ slot_of (planned P p) North
  pub west : p.west ≡ slot_of (planned P p) West

-- a plan for each module, in the order of the modules
pub record ArePlans (P : Program) (plans : List Plan) : Type 0 where
  pub one_each : length plans ≡ length P
  pub each : (m : ℕ) (p : Plan) → slice_get plans m ≡ Some p → (p.«module» ≡ m) × IsPlan P p
