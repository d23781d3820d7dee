-- What a `use` does, and what stands in the arrays where a block has returned.
use Rattle.std.specs.Prelude.{ℕ, Option, Some, None, ◌≡◌, ◌<◌, ◌≤◌, false, List, length}
use Rattle.lower_emit.specs.Stands.{TextTrail, Via, Carries, Marked, Ending}
use Rattle.lower_emit.specs.Layouts.{Layout, temporary, SideSlot, slot_of_side}
use Rattle.lower_emit.specs.inner.Frames.{IsWireSlot}
use Rattle.um_word.specs.State.{State, reg}
use Rattle.lower_emit.specs.inner.Stretches.{KeepsArrays}
use Rattle.lower_emit.specs.Entered.{Return}
use Rattle.std.specs.FinMap as map

-- where the caller of an instance is stuck
abbrev pub by_caller : ℕ → Option TextTrail → Option TextTrail
by_caller text None = None
by_caller text (Some trail) = Some (Via text trail)

-- the slots are in the frame, and the value and the trail have slots apart
pub record CanUse (y : Layout) (size : ℕ) (side : SideSlot) (box : ℕ) : Type 0 where
  pub side_wire : IsWireSlot y side.wire
  pub side_inside : slot_of_side y side < y.size
  pub side_apart : slot_of_side y side ≡ temporary y 2 → ⊥
  pub box_inside : box < y.boxes
  pub room : temporary y 4 < y.size
  pub frame : 5 ≤ size

-- A block has just returned: since it was entered in state s no array but its frame has changed.
pub record Returned (codes : ℕ → List ℕ) (table : ℕ) (back : Return) (came : Ending) (frame : ℕ)
    (s t : State) : Type 0 where
  pub running : t.halted ≡ false
  pub finger : t.finger ≡ back.offset
  pub eight : length t.registers ≡ 8
  pub zero_is : reg t 0 ≡ 0
  pub table_is : reg t 1 ≡ table
  pub current_is : reg t 2 ≡ back.caller
  pub code_is : map.get t.arrays 0 ≡ Some (codes back.block)
  pub value_is : Carries t.arrays (reg t 3) came.value
  pub mark_is : Marked t.arrays (reg t 4) came.mark
  pub keeps : KeepsArrays frame s.arrays t.arrays
  pub out_is : t.out ≡ s.out
  pub rest_is : t.rest ≡ s.rest
