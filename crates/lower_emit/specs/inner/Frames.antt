-- What a frame holds while its block runs, and what a `send` does to it.
use Rattle.std.specs.Prelude.{◌≡◌, ℕ, ◌<◌, List, length, Option, slice_index, ◌==◌, if◌then◌else◌}
use Rattle.std.specs.Prelude.{Some, None, Bool, true, ◌&&◌, ◌∷◌, is_some, ◌+◌, ◌≢◌, ◌≤◌, []}
use Rattle.um_word.specs.State.{Arrays, State, array_at}
use Rattle.codex_values.specs.Value.{Value}
use Rattle.lower_emit.specs.Layouts.{zero_slot, Layout, wire_slot, stuck_slot, first_node}
use Rattle.lower_emit.specs.Layouts.{side_slot}
use Rattle.lower_emit.specs.Stands.{TextTrail, Carries, Marked}
use Rattle.code_templates.specs.inner.Spent.{IsCheap}
use Rattle.lower_emit.specs.inner.Stretches.{Range, InBlock, KeepsArrays}
use Rattle.two_d.specs.Good.{NamesN, NamesW}
use Rattle.lower_emit.specs.inner.Building.{slot_value}
use Rattle.lower_emit.specs.Boxes.{Sent}
use Rattle.lower_emit.specs.Expressions.{past}

-- the frame's slots say which wires carry which values, and which boxes are stuck
pub record FrameHolds (y : Layout) (m : Arrays) (slots : List ℕ) (wires : ℕ → Option Value)
    (stuck : ℕ → Option TextTrail) : Type 0 where
  pub long : length slots ≡ y.size
  pub zero : slice_index slots zero_slot ≡ 0
  pub carries : (k : ℕ) → k < y.wires → Carries m (slice_index slots (wire_slot k)) (wires k)
  pub marked : (b : ℕ) → b < y.boxes → Marked m (slice_index slots (stuck_slot y b)) (stuck b)

-- The machine is at a place of the block, and the frame holds this; all other arrays are as they
-- were in s.
pub record AtPlace (r : Range) (table frame : ℕ) (code : List ℕ) (y : Layout) (place : ℕ)
    (wires : ℕ → Option Value) (stuck : ℕ → Option TextTrail) (s t : State) : Type 0 where
  pub slots : List ℕ
  pub here : InBlock r table frame code place slots t
  pub holds : FrameHolds y t.arrays slots wires stuck
  pub keeps : KeepsArrays frame s.arrays t.arrays
  pub cheap : IsCheap s t
  pub home : (k : ℕ) → k < 5 → slice_index slots k ≡ slice_index (array_at s.arrays frame) k

-- the wire carries this from now on; a side without a wire drops it
abbrev pub carrying : Option ℕ → Option Value → (ℕ → Option Value) → ℕ → Option Value
carrying None v wires = wires
carrying (Some k) v wires = λ j. if j == k then v else wires j

-- the wire, if there is one, has a slot
abbrev pub IsWireSlot : Layout → Option ℕ → Type 0
IsWireSlot y None = Unit {0}
IsWireSlot y (Some k) = k < y.wires

-- all wired inputs carry a value
abbrev pub carry_all : (ℕ → Option Value) → List ℕ → Bool
carry_all wires [] = true
carry_all wires (k ∷ ks) = is_some (wires k) && carry_all wires ks

-- the wires after the values were sent
abbrev pub sending : (vn vw : Value) → List Sent → (ℕ → Option Value) → ℕ → Option Value
sending vn vw [] wires = wires
sending vn vw (o ∷ outs) wires = sending vn vw outs
    (carrying o.wire (Some (slot_value o.value vn vw)) wires)

-- the wires after a `send` box had its turn
abbrev pub wires_sent : List ℕ → (vn vw : Value) → List Sent → (ℕ → Option Value) → ℕ → Option Value
wires_sent inputs vn vw outs wires = if carry_all wires inputs then sending vn vw outs wires else
    wires

-- the cycles of the guards: to the first input that carries no value
abbrev pub guard_cycles : (ℕ → Option Value) → List ℕ → ℕ
guard_cycles wires [] = 0
guard_cycles wires (k ∷ ks) = 6 + (if is_some (wires k) then guard_cycles wires ks else 0)

-- the wires have slots in the frame
abbrev pub AreWires : Layout → List ℕ → Type 0
AreWires y [] = Unit {0}
AreWires y (k ∷ ks) = (k < y.wires) × (wire_slot k < y.size) × AreWires y ks

-- the input is wired, and its wire carries this value
abbrev pub Carried : (ℕ → Option Value) → Option ℕ → Value → Type 0
Carried wires None v = ⊥
Carried wires (Some k) v = wires k ≡ Some v

-- not the same wire
abbrev pub AreSlotsApart : Option ℕ → Option ℕ → Type 0
AreSlotsApart (Some k) (Some q) = k ≢ q
AreSlotsApart _ _ = Unit {0}

-- the out has room in the frame, its side's wire is no input, and the inputs that its expression
-- has carry values
pub record CanSendOne (y : Layout) (north west : Option ℕ) (vn vw : Value)
    (wires : ℕ → Option Value) (o : Sent) : Type 0 where
  pub is_wire : IsWireSlot y o.wire
  pub inside : side_slot y o.wire o.spare < y.size
  pub room : past o.value (first_node y) ≤ y.size
  pub has_north : NamesN o.value → Carried wires north vn
  pub has_west : NamesW o.value → Carried wires west vw

-- and so have all outs, one after the other
abbrev pub CanSend : Layout → (north west : Option ℕ) → (vn vw : Value) → (ℕ → Option Value) →
    List Sent → Type 0
CanSend y north west vn vw wires [] = Unit {0}
CanSend y north west vn vw wires (o ∷ outs) =
    CanSendOne y north west vn vw wires o × CanSend y north west vn vw
    (carrying o.wire (Some (slot_value o.value vn vw)) wires) outs
