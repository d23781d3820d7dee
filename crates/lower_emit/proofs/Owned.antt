-- What an owner and its steps have.
use Rattle.std.specs.Prelude.{◌≡◌, ℕ, zero, suc, ◌+◌, ◌<◌, ◌≤◌, List, [], ◌∷◌, length, map, Option, Some, None, IfSome, slice_get, slice_index_or}
use Rattle.std.specs.Option.{unwrap_or}
use Rattle.std.proofs.Common.{refl, sym, ◌∙◌, ap, subst, arith}
use Rattle.std.proofs.lemmas.List.{length-map}
use Rattle.std.proofs.lemmas.Option.{get_or_from_slice_get, slice_get_within}
use Rattle.two_d.specs.declared.module.BoxRow.{BoxRow}
use Rattle.two_d.specs.declared.module.Module.{Module}
use Rattle.two_d.specs.declared.module.Origin.{Origin}
use Rattle.two_d.specs.declared.module.Origin.TheVariants.{North, West, South, East}
use Rattle.two_d.specs.declared.command.Side.TheVariants.{S, E}
use Rattle.two_d.specs.Trees.{Form, send, case, split, call}
use Rattle.two_d.specs.Programs.{BoxForm, ModuleForm, Program, module_of, modules_of, module_at, box_count, find, box_of as box_of_row}
use Rattle.two_d.specs.Good.{UsesWell}
use Rattle.two_d.specs.Weights.{part}
use Rattle.lower_plan.specs.declared.plan.Plan.{Plan}
use Rattle.lower_plan.specs.declared.plan.PlanStep.{PlanStep}
use Rattle.lower_plan.specs.Plans.{slot_of, slot_at, IsStep, IsPlan}
use Rattle.lower_plan.proofs.Planned.{module_is, part-le}
use Rattle.lower_plan.proofs.Rows.{read_box}
use Rattle.lower_emit.specs.declared.owner.Owner.{Owner}
use Rattle.lower_emit.specs.Layouts.{Layout}
use Rattle.lower_emit.specs.Boxes.{input_slots}
use Rattle.lower_emit.specs.KnownOutcomes.{first_text}
use Rattle.lower_emit.specs.Plans.{wired, step_box, box_in, box_if}
use Rattle.lower_emit.specs.inner.Codes.{IsOwner, HasPlaces, HasStep, HasPlan, HasRoom}
use Rattle.lower_emit.specs.Tables.{IsLight}
use Rattle.lower_emit.proofs.Lengths.{modules_few, texts_below}
use Rattle.lower_emit.proofs.Placed.{Fits, room_left, wire_in, box_nodes-le}

pub modules_count : (modules : List Module) (P : Program) → modules_of modules ≡ P → length modules ≡ length P
modules_count modules P are = let n = ap length are in omega (arith, n, length-map modules module_of)

-- the number of a module that is found by its name
pub callee_is : (P : Program) (modules : List Module) → modules_of modules ≡ P → (found : Option ℕ) (len callee : ℕ) (name : List ℕ) →
    len ≡ length modules → callee ≡ unwrap_or found len → unwrap_or found (length P) ≡ find P name → callee ≡ find P name
callee_is P modules are found len callee name el is number = is ∙ (ap (unwrap_or found) (el ∙ modules_count modules P are) ∙ number)

-- a module of a light program is light, and its number is small
pub part_light : (P : Program) (modules : List Module) → modules_of modules ≡ P → (number : ℕ) (owner : Module) → number < length P → owner ≡ slice_index_or modules number owner → IsLight P →
    part (module_of owner) ≤ 262144
part_light P modules are number owner there is light =
    let e = ap part (module_is modules P are number owner there is) in omega (arith, e, part-le P number there, light)

pub number_small : (P : Program) (number : ℕ) → number < length P → IsLight P → number < 262144
number_small P number there light = omega (arith, there, light, modules_few P)

-- the wired inputs of a step's box
pub inputs_are : (P : Program) (m : ℕ) (step : PlanStep) (text : ℕ) (command : Form) → input_slots (step_box P m step text command) ≡ wired step.n step.w
inputs_are P m step text (send outs) = refl
inputs_are P m step text (case x S S) = refl
inputs_are P m step text (case x S E) = refl
inputs_are P m step text (case x E S) = refl
inputs_are P m step text (case x E E) = refl
inputs_are P m step text (split x) = refl
inputs_are P m step text (call name) = refl

module _ (P : Program) (owner : Owner) (is : IsOwner P owner) where
  abbrev M : ModuleForm
  M = module_at P owner.number

  -- the frame of the module
  abbrev frame : Layout
  frame = record { wires = owner.places.wires; boxes = owner.places.boxes; size = 12 + part M }

  fits : Fits M frame
  fits = record { wires = is.wires; boxes = is.boxes; size = refl }

  pub has_places : HasPlaces owner.places
  has_places = omega (arith, room_left M frame fits, part-le P owner.number is.there, is.light)

  wire_within : (o : Origin) (s : Option ℕ) → slot_of M o ≡ s → IfSome s (λ k. k < owner.places.wires)
  wire_within o None e = tt
  wire_within o (Some k) e = (wire_in M frame fits o k e).0

  end_within : (o : Option Origin) → IfSome (slot_at M o) (λ k. k < owner.places.wires)
  end_within None = tt
  end_within (Some o) = wire_within o (slot_of M o) refl

  pub has_step : (step : PlanStep) → IsStep M step step.bx → HasStep owner step
  has_step step h =
      let lt = slice_get_within M.boxes step.bx h.row h.there in
      record {
        places = has_places;
        north = subst (λ (s : Option ℕ). IfSome s (λ k. k < owner.places.wires)) (sym (ap (λ (s : PlanStep). s.n) h.slots)) (end_within h.row.n);
        west = subst (λ (s : Option ℕ). IfSome s (λ k. k < owner.places.wires)) (sym (ap (λ (s : PlanStep). s.w) h.slots)) (end_within h.row.w);
        south = subst (λ (s : Option ℕ). IfSome s (λ k. k < owner.places.wires)) (sym (ap (λ (s : PlanStep). s.s) h.slots)) (wire_within (South step.bx) _ refl);
        east = subst (λ (s : Option ℕ). IfSome s (λ k. k < owner.places.wires)) (sym (ap (λ (s : PlanStep). s.e) h.slots)) (wire_within (East step.bx) _ refl);
        mark = omega (arith, lt, is.boxes);
        text = omega (arith, is.texts, texts_below P owner.number step.bx is.there (omega (arith, lt)), is.light);
      }

  pub has_room : (b : ℕ) (row : BoxForm) → slice_get M.boxes b ≡ Some row → HasRoom P owner row.command
  has_room b row there = record {
    nodes = omega (arith, box_nodes-le M.boxes b row there, room_left M frame fits, part-le P owner.number is.there, is.light);
    callee = λ name e. (well name e).0;
  }
    where
      well : UsesWell P row
      well = subst (UsesWell P) (get_or_from_slice_get M.boxes b row row there) (is.good.uses owner.number _ is.there b row (slice_get_within M.boxes b row there))

  -- the box of a step, where its command is known
  pub box_is : (step : PlanStep) (row : BoxForm) → slice_get M.boxes step.bx ≡ Some row → box_in P owner.number step ≡ step_box P owner.number step (owner.texts + step.bx) row.command
  box_is step row there =
      ap (box_if P owner.number step (first_text P owner.number + step.bx)) there
      ∙ ap (λ t. step_box P owner.number step (t + step.bx) row.command) (sym is.texts)

  pub step_inputs : (step : PlanStep) → IsStep M step step.bx → input_slots (box_in P owner.number step) ≡ wired step.n step.w
  step_inputs step h = ap input_slots (box_is step h.row h.there) ∙ inputs_are P owner.number step (owner.texts + step.bx) h.row.command

  pub has_plan : (plan : Plan) → IsPlan P plan → owner.number ≡ plan.«module» → HasPlan owner plan
  has_plan plan h e =
      let same = ap (module_at P) e in
      record {
        places = has_places;
        north = subst (λ (s : Option ℕ). IfSome s (λ k. k < owner.places.wires)) (ap (λ (m : ModuleForm). slot_of m North) same ∙ sym h.north) (wire_within North _ refl);
        west = subst (λ (s : Option ℕ). IfSome s (λ k. k < owner.places.wires)) (ap (λ (m : ModuleForm). slot_of m West) same ∙ sym h.west) (wire_within West _ refl);
        exits = λ i k at. exits_within M.exits i k (subst (λ (xs : List (Option ℕ)). slice_get xs i ≡ Some (Some k)) (h.exits ∙ sym (ap (λ (m : ModuleForm). map (slot_at m) m.exits) same)) at);
        texts = omega (arith, is.texts, is.boxes, texts_below P owner.number (box_count P owner.number + 1) is.there (omega arith), is.light);
      }
    where
      exits_within : (exits : List (Option Origin)) (i k : ℕ) → slice_get (map (slot_at M) exits) i ≡ Some (Some k) → k < owner.places.wires
      exits_within [] i k at = absurd (cc)
      exits_within (exit ∷ exits) zero k at = let here : slot_at M exit ≡ Some k = cc in subst (λ (s : Option ℕ). IfSome s (λ k. k < owner.places.wires)) here (end_within exit)
      exits_within (exit ∷ exits) (suc i) k at = exits_within exits i k at

-- the row that was read
pub row_is : (P : Program) (modules : List Module) → modules_of modules ≡ P → (number : ℕ) (owner : Module) → number < length P → owner ≡ slice_index_or modules number owner →
    (b : ℕ) (row : BoxRow) → b < length (module_at P number).boxes → row ≡ slice_index_or owner.boxes.items b row → slice_get (module_at P number).boxes b ≡ Some (box_of_row row)
row_is P modules are number owner there is b row inside at =
    let same = module_is modules P are number owner there is in
    let count = ap (λ (m : ModuleForm). length m.boxes) same in
    let lt : b < length owner.boxes.items = omega (arith, inside, count, length-map owner.boxes.items box_of_row) in
    subst (λ (m : ModuleForm). slice_get m.boxes b ≡ Some (box_of_row row)) same (read_box owner owner.boxes.items refl b row lt at)
