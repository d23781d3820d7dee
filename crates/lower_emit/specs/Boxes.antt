-- The code of a box.
use Rattle.std.specs.Prelude.{ℕ, Option, List, ◌+◌, ◌++◌, ◌∷◌, ◌*◌, length, []}
use Rattle.two_d.specs.Trees.{Tree}
use Rattle.um_word.specs.declared.op.Op.{Op}
use Rattle.code_templates.specs.Templates.{choose_slot, branch_on_slot, make_cell, set_slot}
use Rattle.code_templates.specs.Templates.{read_part, take_outcome, call_block}
use Rattle.lower_emit.specs.Expressions.{expression_slot, code_of}
use Rattle.lower_emit.specs.Layouts.{Layout, first_node, wire_slot, side_slot, zero_slot}
use Rattle.lower_emit.specs.Layouts.{stuck_slot, temporary, SideSlot, slot_of_side, input_slot}

-- an out of a `send`: an expression, the wire of its side, and the number of the side's temporary
pub record Sent : Type 0 where
  pub value : Tree
  pub wire : Option ℕ
  pub spare : ℕ

-- slot d becomes slot x
abbrev pub move_slot : (x d : ℕ) → List Op
move_slot x d = choose_slot x x x d

-- an expression, moved to a slot
abbrev pub out_code : Layout → (north west d : ℕ) → Tree → List Op
out_code y north west d x = code_of x north west (first_node y)
    ++ move_slot (expression_slot x north west (first_node y)) d

-- a guard for each wired input: on to the next, or to the end of the box
abbrev pub guards_code : List ℕ → (place to : ℕ) → List Op
guards_code [] place to = []
guards_code (k ∷ ks) place to = branch_on_slot (wire_slot k) to (place + 6)
    ++ guards_code ks (place + 6) to

-- the outs of a `send`, one after the other
abbrev pub sent_code : Layout → (north west : ℕ) → List Sent → List Op
sent_code y north west [] = []
sent_code y north west (o ∷ outs) = out_code y north west (side_slot y o.wire o.spare) o.value
    ++ sent_code y north west outs

-- the code of a `send` box at a place
abbrev pub send_code : Layout → List ℕ → (north west : ℕ) → List Sent → ℕ → List Op
send_code y inputs north west outs place =
    let body = sent_code y north west outs in
    guards_code inputs place (place + 6 * length inputs + length body) ++ body

-- Words f and g of the value in slot x go to two sides, and the first that is there to a third;
-- where there is neither, the box is stuck.
abbrev pub sort_code : Layout → (x f g : ℕ) → (one two both : SideSlot) → (box text : ℕ) → List Op
sort_code y x f g one two both box text =
    read_part x f (slot_of_side y one)
    ++ (read_part x g (slot_of_side y two)
    ++ (choose_slot (slot_of_side y one) (slot_of_side y one) (slot_of_side y two)
    (slot_of_side y both)
    ++ (set_slot text (temporary y 3)
    ++ (make_cell (temporary y 3) zero_slot 0 1 (temporary y 3)
    ++ choose_slot (slot_of_side y both) zero_slot (temporary y 3) (stuck_slot y box)))))

-- what a `case` or a `split` does: the expression, then the sides
abbrev pub sorting_code : Layout → (north west : ℕ) → Tree → (f g : ℕ) → (one two both : SideSlot) →
    (box text : ℕ) → List Op
sorting_code y north west x f g one two both box text =
    code_of x north west (first_node y) ++ sort_code y
    (expression_slot x north west (first_node y)) f g one two both box text

-- the code of the box at a place
abbrev pub sort_box_code : Layout → List ℕ → (north west : ℕ) → Tree → (f g : ℕ) →
    (one two both : SideSlot) → (box text place : ℕ) → List Op
sort_box_code y inputs north west x f g one two both box text place =
    let body = sorting_code y north west x f g one two both box text in
    guards_code inputs place (place + 6 * length inputs + length body) ++ body

-- the value goes to the side, and the trail with its caller to the box's mark
abbrev pub taken_code : Layout → SideSlot → (box text : ℕ) → List Op
taken_code y side box text =
    take_outcome (slot_of_side y side) (temporary y 2)
    ++ (set_slot text (temporary y 3)
    ++ (make_cell (temporary y 3) (temporary y 2) 0 1 (temporary y 3)
    ++ choose_slot (temporary y 2) (temporary y 3) zero_slot (stuck_slot y box)))

-- a call at a place, and what takes its outcome
abbrev pub calling_code : Layout → (north west callee size own : ℕ) → SideSlot →
    (box text place : ℕ) → List Op
calling_code y north west callee size own side box text place =
    call_block north west callee size own (place + 21) ++ taken_code y side box text

-- the code of the box at a place
abbrev pub use_code : Layout → List ℕ → (north west callee size own : ℕ) → SideSlot →
    (box text place : ℕ) → List Op
use_code y inputs north west callee size own side box text place =
    guards_code inputs place (place + 6 * length inputs + 49)
    ++ calling_code y north west callee size own side box text (place + 6 * length inputs)

-- a box with the slots of its wires: its wired inputs, those of N and W, and what it does
pub data Box : Type 0 where
  Sends : (inputs : List ℕ) (north west : Option ℕ) (outs : List Sent) → Box
  Sorts : (inputs : List ℕ) (north west : Option ℕ) (x : Tree) (f g : ℕ) (one two both : SideSlot)
      (number text : ℕ) → Box
  Uses : (inputs : List ℕ) (north west : Option ℕ) (callee size own : ℕ) (side : SideSlot)
      (number text : ℕ) → Box

-- the wires of the wired inputs of a box
abbrev pub input_slots : Box → List ℕ
input_slots (Sends inputs north west outs) = inputs
input_slots (Sorts inputs north west x f g one two both number text) = inputs
input_slots (Uses inputs north west callee size own side number text) = inputs

-- the words of a box behind its guards
abbrev pub body_length : Layout → Box → ℕ
body_length y (Sends inputs north west outs) =
    length (sent_code y (input_slot north) (input_slot west) outs)
body_length y (Sorts inputs north west x f g one two both number text) =
    length (sorting_code y (input_slot north) (input_slot west) x f g one two both number text)
body_length y (Uses inputs north west callee size own side number text) = 49

-- the words of a box
abbrev pub box_length : Layout → Box → ℕ
box_length y box = 6 * length (input_slots box) + body_length y box

-- a box at a place
abbrev pub box_code : Layout → Box → ℕ → List Op
box_code y (Sends inputs north west outs) place =
    send_code y inputs (input_slot north) (input_slot west) outs place
box_code y (Sorts inputs north west x f g one two both number text) place =
    sort_box_code y inputs (input_slot north) (input_slot west) x f g one two both number text place
box_code y (Uses inputs north west callee size own side number text) place =
    use_code y inputs (input_slot north) (input_slot west) callee size own side number text place

-- boxes one after the other, the first at a place
abbrev pub boxes_code : Layout → List Box → ℕ → List Op
boxes_code y [] place = []
boxes_code y (box ∷ boxes) place = box_code y box place
    ++ boxes_code y boxes (place + box_length y box)

-- the words of boxes
abbrev pub boxes_length : Layout → List Box → ℕ
boxes_length y [] = 0
boxes_length y (box ∷ boxes) = box_length y box + boxes_length y boxes
