-- What the boxes of a block do to wires and marks.
use Rattle.std.specs.Prelude.{ℕ, if◌then◌else◌, Option, Some, None, ◌+◌, List, ◌∷◌, Bool, true}
use Rattle.std.specs.Prelude.{is_some, ◌&&◌, ◌≡◌, ◌⊎◌, ◌≢◌, ◌<◌, ◌≤◌, []}
use Rattle.codex_values.specs.Value.{Value, unit}
use Rattle.lower_emit.specs.inner.Frames.{carry_all, carrying, wires_sent, guard_cycles, IsWireSlot}
use Rattle.lower_emit.specs.inner.Frames.{AreWires}
use Rattle.lower_emit.specs.inner.Ends.{exit_value, AreExits}
use Rattle.lower_emit.specs.Boxes.{Box, Sends, Sorts, Uses, body_length, input_slots, Sent}
use Rattle.lower_emit.specs.KnownOutcomes.{Call, Known}
use Rattle.lower_emit.specs.Stands.{Ending, TextTrail}
use Rattle.lower_emit.specs.Layouts.{SideSlot, Layout, first_node, side_slot, input_slot, temporary}
use Rattle.lower_emit.specs.inner.Uses.{by_caller, CanUse}
use Rattle.lower_emit.specs.inner.Sorts.{marking, sorted, part_of_value, or_else, stuck_at, CanSort}
use Rattle.two_d.specs.Trees.{Tree}
use Rattle.two_d.specs.Good.{NamesN, NamesW}
use Rattle.lower_emit.specs.inner.Building.{slot_value}
use Rattle.lower_emit.specs.Expressions.{past, expression_slot}
use Rattle.lower_emit.specs.Blocks.{BlockPlan}

-- the call of a box, where it is an enabled `use`
abbrev pub call_of : Box → (ℕ → Option Value) → Option Call
call_of (Sends inputs north west outs) wires = None
call_of (Sorts inputs north west x f g one two both number text) wires = None
call_of (Uses inputs north west callee size own side number text) wires =
    if carry_all wires inputs then Some (record {
      callee = callee;
      inputs =
          record { north = exit_value wires north; west = exit_value wires west };
    }) else None

-- the answer to a call, if there is a call
abbrev pub answer_to : Known → Option Call → Option Ending
answer_to known None = None
answer_to known (Some call) = known call.callee call.inputs

-- the wires once a `use` has its answer
abbrev pub answered_wires : SideSlot → Option Ending → (ℕ → Option Value) → ℕ → Option Value
answered_wires side None wires = wires
answered_wires side (Some came) wires = carrying side.wire came.value wires

-- and the marks
abbrev pub answered_marks : (number text : ℕ) → Option Ending → (ℕ → Option TextTrail) → ℕ →
    Option TextTrail
answered_marks number text None stuck = stuck
answered_marks number text (Some came) stuck = marking number (by_caller text came.mark) stuck

-- the value, or the unit
abbrev pub value_or_unit : Option Value → Value
value_or_unit None = unit
value_or_unit (Some v) = v

-- the value of an input; of one that carries none it is not read
abbrev pub in_value : (ℕ → Option Value) → Option ℕ → Value
in_value wires None = unit
in_value wires (Some k) = value_or_unit (wires k)

-- the value that a `case` or `split` looks at
abbrev pub sort_value : (ℕ → Option Value) → (north west : Option ℕ) → Tree → Value
sort_value wires north west x = slot_value x (in_value wires north) (in_value wires west)

-- the wires after a box had its turn
abbrev pub fired_wires : Known → Box → (ℕ → Option Value) → ℕ → Option Value
fired_wires known (Sends inputs north west outs) wires =
    wires_sent inputs (in_value wires north) (in_value wires west) outs wires
fired_wires known (Sorts inputs north west x f g one two both number text) wires =
    if carry_all wires inputs then sorted (sort_value wires north west x) f g one two both wires
    else wires
fired_wires known (Uses inputs north west callee size own side number text) wires =
    answered_wires side (answer_to known (call_of
    (Uses inputs north west callee size own side number text) wires)) wires

-- and the marks
abbrev pub fired_marks : Known → Box → (ℕ → Option Value) → (ℕ → Option TextTrail) → ℕ →
    Option TextTrail
fired_marks known (Sends inputs north west outs) wires stuck = stuck
fired_marks known (Sorts inputs north west x f g one two both number text) wires stuck =
    if carry_all wires inputs then marking number
    (stuck_at text (or_else (part_of_value f (sort_value wires north west x))
    (part_of_value g (sort_value wires north west x)))) stuck else stuck
fired_marks known (Uses inputs north west callee size own side number text) wires stuck =
    answered_marks number text (answer_to known
    (call_of (Uses inputs north west callee size own side number text) wires)) stuck

-- the cycles of a box but for its callee's
abbrev pub box_cycles : Layout → Box → (ℕ → Option Value) → ℕ
box_cycles y box wires = guard_cycles wires (input_slots box) +
    (if carry_all wires (input_slots box) then body_length y box else 0)

-- the wires after these boxes had their turns, in their order
abbrev pub all_wires : Known → List Box → (ℕ → Option Value) → ℕ → Option Value
all_wires known [] wires = wires
all_wires known (box ∷ boxes) wires = all_wires known boxes (fired_wires known box wires)

-- and the marks after all of them
abbrev pub all_marks : Known → List Box → (ℕ → Option Value) → (ℕ → Option TextTrail) → ℕ →
    Option TextTrail
all_marks known [] wires stuck = stuck
all_marks known (box ∷ boxes) wires stuck =
    all_marks known boxes (fired_wires known box wires) (fired_marks known box wires stuck)

-- the box calls nothing that isn't known
abbrev pub is_answered : Known → Option Call → Bool
is_answered known None = true
is_answered known (Some call) = is_some (known call.callee call.inputs)

-- none of these boxes calls what isn't known
abbrev pub all_answered : Known → List Box → (ℕ → Option Value) → Bool
all_answered known [] wires = true
all_answered known (box ∷ boxes) wires =
    is_answered known (call_of box wires) && all_answered known boxes (fired_wires known box wires)

-- an input that an expression has is one of the wired inputs
abbrev pub IsAmong : List ℕ → Option ℕ → Type 0
IsAmong inputs None = ⊥
IsAmong [] (Some k) = ⊥
IsAmong (q ∷ inputs) (Some k) = (q ≡ k) ⊎ IsAmong inputs (Some k)

-- not the same wire
abbrev pub AreDifferent : Option ℕ → Option ℕ → Type 0
AreDifferent (Some k) (Some q) = k ≢ q
AreDifferent None _ = Unit {0}
AreDifferent (Some k) None = Unit {0}

-- an out has room in the frame, and its expression reads wired inputs alone
pub record IsGoodOut (y : Layout) (inputs : List ℕ) (north west : Option ℕ)
    (o : Sent) : Type 0 where
  pub is_wire : IsWireSlot y o.wire
  pub inside : side_slot y o.wire o.spare < y.size
  pub room : past o.value (first_node y) ≤ y.size
  pub has_north : NamesN o.value → IsAmong inputs north
  pub has_west : NamesW o.value → IsAmong inputs west
  pub apart_north : AreDifferent north o.wire
  pub apart_west : AreDifferent west o.wire

-- and so have all outs
abbrev pub AreGoodOuts : Layout → List ℕ → (north west : Option ℕ) → List Sent → Type 0
AreGoodOuts y inputs north west [] = Unit {0}
AreGoodOuts y inputs north west (o ∷ outs) = IsGoodOut y inputs north west o
    × AreGoodOuts y inputs north west outs

-- the box has its slots in the frame: what a plan of a good program gives
abbrev pub IsPlaced : Layout → Box → Type 0
IsPlaced y (Sends inputs north west outs) = IsWireSlot y north × IsWireSlot y west
    × AreWires y inputs × AreGoodOuts y inputs north west outs
IsPlaced y (Sorts inputs north west x f g one two both number text) =
    IsWireSlot y north × IsWireSlot y west × AreWires y inputs × (past x (first_node y) ≤ y.size)
    × CanSort y (expression_slot x (input_slot north) (input_slot west) (first_node y)) f g one two
    both number
    × (NamesN x → IsAmong inputs north) × (NamesW x → IsAmong inputs west)
IsPlaced y (Uses inputs north west callee size own side number text) = IsWireSlot y north
    × IsWireSlot y west × AreWires y inputs × CanUse y size side number

-- and so have all boxes
abbrev pub ArePlaced : Layout → List Box → Type 0
ArePlaced y [] = Unit {0}
ArePlaced y (box ∷ boxes) = IsPlaced y box × ArePlaced y boxes

-- the wires once the entries have their values, and after all boxes
abbrev pub entry_wires : BlockPlan → (north west : Option Value) → ℕ → Option Value
entry_wires p north west = carrying p.west west (carrying p.north north (λ k. None))

-- the wires after all boxes
abbrev pub last_wires : Known → BlockPlan → (north west : Option Value) → ℕ → Option Value
last_wires known p north west = all_wires known p.boxes (entry_wires p north west)

-- the marks after all boxes
abbrev pub last_marks : Known → BlockPlan → (north west : Option Value) → ℕ → Option TextTrail
last_marks known p north west = all_marks known p.boxes (entry_wires p north west) (λ b. None)

-- the entries, boxes and exits of a block have their slots in the frame
pub record IsGoodBlock (p : BlockPlan) : Type 0 where
  pub size : temporary p.layout 4 < p.layout.size
  pub north_wire : IsWireSlot p.layout p.north
  pub west_wire : IsWireSlot p.layout p.west
  pub north_inside : side_slot p.layout p.north 0 < p.layout.size
  pub west_inside : side_slot p.layout p.west 0 < p.layout.size
  pub placed : ArePlaced p.layout p.boxes
  pub are_exits : AreExits p.layout p.exits
