-- What code says, and what it is made from.
use Rattle.std.specs.Prelude.{◌≡◌, ◌+◌, ◌++◌, List, map, Some, ◌<◌, ◌^◌, ℕ, Option, slice_get}
use Rattle.std.specs.Prelude.{IfSome, ◌*◌, length}
use Rattle.um_word.specs.declared.op.Op.{Op}
use Rattle.um_word.specs.Operators.{decode_word}
use Rattle.lower_emit.specs.declared.code.Code.{Code}
use Rattle.lower_emit.specs.declared.places.Places.{Places}
use Rattle.lower_emit.specs.Layouts.{Layout, first_node, input_slot, SideSlot, side_slot}
use Rattle.lower_plan.specs.declared.plan.PlanStep.{PlanStep}
use Rattle.lower_emit.specs.declared.owner.Owner.{Owner}
use Rattle.two_d.specs.Programs.{Program, module_at, box_count, ModuleForm, find}
use Rattle.two_d.specs.Good.{IsGood, trees_of}
use Rattle.lower_plan.specs.Plans.{wire_starts, IsStep}
use Rattle.lower_emit.specs.Tables.{IsLight}
use Rattle.lower_emit.specs.KnownOutcomes.{first_text}
use Rattle.lower_plan.specs.declared.plan.Plan.{Plan}
use Rattle.two_d.specs.Trees.{Form, call, Tree}
use Rattle.two_d.specs.Weights.{all_nodes, part}
use Rattle.lower_emit.specs.Expressions.{code_of, expression_slot}
use Rattle.two_d.specs.declared.command.Side.{Side as BoxSide}
use Rattle.two_d.specs.declared.command.Side.TheVariants.{S, E}
use Rattle.lower_emit.specs.Plans.{side_of, dropped, both_to, step_box, out_sent, box_in}
use Rattle.lower_emit.specs.Boxes.{sent_code, sorting_code, calling_code, Box, Sends, Sorts, Uses}
use Rattle.lower_emit.specs.Boxes.{taken_code}
use Rattle.code_templates.specs.Templates.{choose_slot}

-- the words that were added say these operators
abbrev pub AddsOps : Code → Code → List Op → Type 0
AddsOps old new ops = map decode_word new.words.items ≡ map decode_word old.words.items
    ++ map Some ops

-- the words say these operators
abbrev pub Says : Code → List Op → Type 0
Says code ops = map decode_word code.words.items ≡ map Some ops

-- the layout of a frame with these places; its size doesn't matter to its code
abbrev pub layout_in : Places → Layout
layout_in places = record { wires = places.wires; boxes = places.boxes; size = 0 }

-- all slots but those of nodes fit in a hole
abbrev pub HasPlaces : Places → Type 0
HasPlaces places = places.wires + places.boxes + 16 < 2 ^ 25

-- the wires have slots among so many
abbrev pub AreWithin : ℕ → List (Option ℕ) → Type 0
AreWithin wires inputs = (i k : ℕ) → slice_get inputs i ≡ Some (Some k) → k < wires

-- the wires of a box, its mark and its text have their places
pub record HasStep (owner : Owner) (step : PlanStep) : Type 0 where
  pub places : HasPlaces owner.places
  pub north : IfSome step.n (λ k. k < owner.places.wires)
  pub west : IfSome step.w (λ k. k < owner.places.wires)
  pub south : IfSome step.s (λ k. k < owner.places.wires)
  pub east : IfSome step.e (λ k. k < owner.places.wires)
  pub mark : step.bx < owner.places.boxes
  pub text : owner.texts + step.bx < 2 ^ 25

-- the most words of a block of a light program
abbrev pub most_block_words : ℕ
most_block_words = 18 * 262144

-- a module of a good program that is light, with the places of its frame and the number of its
-- first text
pub record IsOwner (P : Program) (owner : Owner) : Type 0 where
  pub good : IsGood P
  pub light : IsLight P
  pub there : owner.number < length P
  pub wires : owner.places.wires ≡ length (wire_starts (module_at P owner.number))
  pub boxes : owner.places.boxes ≡ box_count P owner.number
  pub texts : owner.texts ≡ first_text P owner.number

-- the wires of a plan's entries and exits have their places, and so have the texts for no result
-- and for two
pub record HasPlan (owner : Owner) (plan : Plan) : Type 0 where
  pub places : HasPlaces owner.places
  pub north : IfSome plan.north (λ k. k < owner.places.wires)
  pub west : IfSome plan.west (λ k. k < owner.places.wires)
  pub exits : AreWithin owner.places.wires plan.exits.items
  pub texts : owner.texts + owner.places.boxes + 1 < 2 ^ 25

-- each step has the slots of its box's wires
abbrev pub HaveSlots : ModuleForm → List PlanStep → Type 0
HaveSlots m steps = (j : ℕ) (step : PlanStep) → slice_get steps j ≡ Some step →
    IsStep m step step.bx

-- a command has slots for the nodes of its expressions, and the module that it uses is there
pub record HasRoom (P : Program) (owner : Owner) (command : Form) : Type 0 where
  pub nodes : first_node (layout_in owner.places) + all_nodes (trees_of command) < 2 ^ 25
  pub callee : (name : List ℕ) → command ≡ call name → find P name < length P

-- an expression over the inputs of a box
abbrev pub expression_ops : Layout → PlanStep → Tree → List Op
expression_ops y step x = code_of x (input_slot step.n) (input_slot step.w) (first_node y)

-- the slot of an expression's value
abbrev pub value_slot : Layout → PlanStep → Tree → ℕ
value_slot y step x = expression_slot x (input_slot step.n) (input_slot step.w) (first_node y)

-- where the parts of a value go that are sent to two sides, and where the first goes that is there
abbrev pub one_to : PlanStep → (left right : BoxSide) → SideSlot
one_to step S S = dropped 0
one_to step E E = dropped 0
one_to step S E = side_of step S
one_to step E S = side_of step E

-- where the second part goes
abbrev pub two_to : PlanStep → (left right : BoxSide) → SideSlot
two_to step S S = dropped 1
two_to step E E = dropped 1
two_to step S E = side_of step E
two_to step E S = side_of step S

-- where the first part goes that is there
abbrev pub first_to : PlanStep → (left right : BoxSide) → SideSlot
first_to step S S = both_to step S
first_to step E E = both_to step E
first_to step S E = dropped 2
first_to step E S = dropped 2

-- what a box does once its inputs are there, at a place
abbrev pub body_code : Layout → Box → ℕ → List Op
body_code y (Sends inputs north west outs) place =
    sent_code y (input_slot north) (input_slot west) outs
body_code y (Sorts inputs north west x f g one two both number text) place =
    sorting_code y (input_slot north) (input_slot west) x f g one two both number text
body_code y (Uses inputs north west callee size own side number text) place =
    calling_code y (input_slot north) (input_slot west) callee size own side number text place

-- what the box of an owner's step does with this command
abbrev pub body_of : Program → Owner → PlanStep → Form → ℕ → List Op
body_of P owner step command place =
    body_code (layout_in owner.places) (step_box P owner.number step
    (owner.texts + step.bx) command) place

-- the outs of a `send`
abbrev pub send_of : Owner → PlanStep → List (Tree × BoxSide) → List Op
send_of owner step outs =
    sent_code (layout_in owner.places) (input_slot step.n) (input_slot step.w)
    (map (out_sent step) outs)

-- an expression, of whose value words f and g go to two sides
abbrev pub sort_of : Owner → PlanStep → Tree → (f g : ℕ) → (left right : BoxSide) → List Op
sort_of owner step x f g left right =
    sorting_code (layout_in owner.places) (input_slot step.n) (input_slot step.w) x f g
    (one_to step left right) (two_to step left right) (first_to step left right) step.bx
    (owner.texts + step.bx)

-- what takes the outcome of a call
abbrev pub take_of : Owner → PlanStep → List Op
take_of owner step = taken_code (layout_in owner.places) (side_of step E) step.bx
    (owner.texts + step.bx)

-- a call of the module of this name, at a place
abbrev pub call_ops : Program → Owner → PlanStep → List ℕ → ℕ → List Op
call_ops P owner step name place =
    calling_code (layout_in owner.places) (input_slot step.n) (input_slot step.w)
    (find P name) (12 + part (module_at P (find P name))) owner.number (side_of step E) step.bx
    (owner.texts + step.bx) place

-- the boxes of an owner's steps, at a place
abbrev pub boxes_owned : Program → Owner → List PlanStep → List Box
boxes_owned P owner steps = map (box_in P owner.number) steps

-- the moves of the inputs to the wires from the entries
abbrev pub entries_of : Places → Plan → List Op
entries_of places plan =
    choose_slot 3 3 3 (side_slot (layout_in places) plan.north 0)
    ++ choose_slot 4 4 4 (side_slot (layout_in places) plan.west 0)
