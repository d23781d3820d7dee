-- Where things stand in a frame.
use Rattle.std.specs.Prelude.{ℕ, ◌+◌, Option, Some, None}

-- how many wires and boxes a frame has places for, and its words
pub record Layout : Type 0 where
  pub wires : ℕ
  pub boxes : ℕ
  pub size : ℕ

-- slot 7 of a frame is 0
abbrev pub zero_slot : ℕ
zero_slot = 7

-- the slot of a wire
abbrev pub wire_slot : ℕ → ℕ
wire_slot k = 8 + k

-- the slot of the mark of a box
abbrev pub stuck_slot : Layout → ℕ → ℕ
stuck_slot y b = 8 + y.wires + b

-- four slots that mean nothing between boxes
abbrev pub temporary : Layout → ℕ → ℕ
temporary y j = 8 + y.wires + y.boxes + j

-- the first slot of the nodes of expressions
abbrev pub first_node : Layout → ℕ
first_node y = temporary y 4

-- the slot of a side: that of its wire, or a temporary
abbrev pub side_slot : Layout → Option ℕ → ℕ → ℕ
side_slot y None j = temporary y j
side_slot y (Some k) j = wire_slot k

-- the slot of an input: that of its wire, or the slot that is 0
abbrev pub input_slot : Option ℕ → ℕ
input_slot None = zero_slot
input_slot (Some k) = wire_slot k

-- the slot of the value of an outcome
abbrev pub value_out : ℕ
value_out = 5

-- and of where it is stuck
abbrev pub stuck_out : ℕ
stuck_out = 6

-- a side: its wire if it has one, and the number of its temporary
pub record SideSlot : Type 0 where
  pub wire : Option ℕ
  pub spare : ℕ

-- the slot of a side
abbrev pub slot_of_side : Layout → SideSlot → ℕ
slot_of_side y side = side_slot y side.wire side.spare
