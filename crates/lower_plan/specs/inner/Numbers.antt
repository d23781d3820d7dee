-- What slots are noted so far.
use Rattle.std.specs.Prelude.{◌≡◌, ℕ, ◌+◌, ◌<◌, if◌then◌else◌, List, length, Option, Some, None}
use Rattle.std.specs.Prelude.{slice_index_or}
use Rattle.std.specs.Option.{option_and_then}
use Rattle.two_d.specs.declared.module.Origin.{Origin}
use Rattle.two_d.specs.declared.module.Origin.TheVariants.{North, West, South, East}
use Rattle.lower_plan.specs.declared.slots.Slots.{Slots}
use Rattle.two_d.specs.Programs.{ModuleForm}
use Rattle.lower_plan.specs.Plans.{is_same, slot_in, wire_starts}

-- the slot that is noted for a wire
abbrev pub slot_for : Slots → Origin → Option ℕ
slot_for slots North = slots.north
slot_for slots West = slots.west
slot_for slots (South b) = slice_index_or slots.south.items b None
slot_for slots (East b) = slice_index_or slots.east.items b None

-- the slot that is noted for the wire that ends at an input or an exit
abbrev pub end_for : Slots → Option Origin → Option ℕ
end_for slots end = option_and_then (slot_for slots) end

-- there is a place for the slot of a wire that begins there
abbrev pub HasPlace : Slots → Origin → Type 0
HasPlace slots North = Unit {0}
HasPlace slots West = Unit {0}
HasPlace slots (South b) = b < length slots.south.items
HasPlace slots (East b) = b < length slots.east.items

-- there are places for the wires from so many boxes, and no slot is noted
pub record IsBlank (slots : Slots) (boxes : ℕ) : Type 0 where
  pub south : length slots.south.items ≡ boxes
  pub east : length slots.east.items ≡ boxes
  pub none : (o : Origin) → slot_for slots o ≡ None
  pub count : slots.count ≡ 0

-- the wire has the next slot
pub record HasNext (o : Origin) (old new : Slots) : Type 0 where
  pub south : length new.south.items ≡ length old.south.items
  pub east : length new.east.items ≡ length old.east.items
  pub slots : (p : Origin) →
      slot_for new p ≡ (if is_same o p then Some old.count else slot_for old p)
  pub count : new.count ≡ old.count + 1

-- the wire has the next slot, if there is one
abbrev pub Given : Option Origin → Slots → Slots → Type 0
Given None old new = new ≡ old
Given (Some o) old new = HasNext o old new

-- these wires, and no others, have their slots
pub record Numbers (boxes : ℕ) (slots : Slots) (wires : List Origin) : Type 0 where
  pub south : length slots.south.items ≡ boxes
  pub east : length slots.east.items ≡ boxes
  pub each : (o : Origin) → slot_for slots o ≡ slot_in wires o
  pub count : slots.count ≡ length wires

-- all wires of the module have their slots
abbrev pub HasSlots : ModuleForm → Slots → Type 0
HasSlots m slots = Numbers (length m.boxes) slots (wire_starts m)
