-- What the end of a block does.
use Rattle.std.specs.Prelude.{ℕ, Option, Some, None, if◌then◌else◌, List, ◌∷◌, is_some, slice_index}
use Rattle.std.specs.Prelude.{zero, suc, map, []}
use Rattle.codex_values.specs.Value.{Value}
use Rattle.lower_emit.specs.inner.Sorts.{or_else, stuck_at}
use Rattle.um_word.specs.State.{State}
use Rattle.lower_emit.specs.inner.Stretches.{Range}
use Rattle.lower_emit.specs.Stands.{TextTrail, Carries, Marked, At}
use Rattle.lower_emit.specs.Layouts.{Layout, temporary, stuck_out, value_out}
use Rattle.lower_emit.specs.inner.Frames.{AtPlace, IsWireSlot}

-- what an exit carries
abbrev pub exit_value : (ℕ → Option Value) → Option ℕ → Option Value
exit_value wires None = None
exit_value wires (Some k) = wires k

-- the value seen last, and the one seen before it
abbrev pub values_seen : List (Option Value) → Option Value → Option Value → Option Value
    × Option Value
values_seen [] last before = (last, before)
values_seen (v ∷ vs) last before = values_seen vs (or_else v last)
    (if is_some v then last else before)

-- the frame holds the wires and marks, and two temporaries the values seen last
pub record HoldsLast (r : Range) (table frame : ℕ) (code : List ℕ) (y : Layout) (place : ℕ)
    (wires : ℕ → Option Value) (stuck : ℕ → Option TextTrail) (last before : Option Value)
    (s t : State) : Type 0 where
  pub at : AtPlace r table frame code y place wires stuck s t
  pub last_is : Carries t.arrays (slice_index at.slots (temporary y 0)) last
  pub before_is : Carries t.arrays (slice_index at.slots (temporary y 1)) before

-- the wires of the exits have slots
abbrev pub AreExits : Layout → List (Option ℕ) → Type 0
AreExits y [] = Unit {0}
AreExits y (exit ∷ exits) = IsWireSlot y exit × AreExits y exits

-- the trail, or else the mark so far
abbrev pub or_trail : Option TextTrail → Option TextTrail → Option TextTrail
or_trail None m = m
or_trail (Some trail) m = Some trail

-- the first mark of so many boxes, or else this one
abbrev pub first_mark : ℕ → (ℕ → Option TextTrail) → Option TextTrail → Option TextTrail
first_mark zero stuck m = m
first_mark (suc b) stuck m = first_mark b stuck (or_trail (stuck b) m)

-- the value, unless there is a trail
abbrev pub value_unless : Option TextTrail → Option Value → Option Value
value_unless None v = v
value_unless (Some trail) v = None

-- and the slot of a stuck outcome has this mark
pub record Marks (r : Range) (table frame : ℕ) (code : List ℕ) (y : Layout) (place : ℕ)
    (wires : ℕ → Option Value) (stuck : ℕ → Option TextTrail) (last before : Option Value)
    (mark : Option TextTrail) (s t : State) : Type 0 where
  pub saw : HoldsLast r table frame code y place wires stuck last before s t
  pub mark_is : Marked t.arrays (slice_index saw.at.slots stuck_out) mark

-- the outcome stands in its slots
pub record Ended (r : Range) (table frame : ℕ) (code : List ℕ) (y : Layout) (place : ℕ)
    (wires : ℕ → Option Value) (stuck : ℕ → Option TextTrail) (value : Option Value)
    (mark : Option TextTrail) (s t : State) : Type 0 where
  pub at : AtPlace r table frame code y place wires stuck s t
  pub value_is : Carries t.arrays (slice_index at.slots value_out) value
  pub mark_is : Marked t.arrays (slice_index at.slots stuck_out) mark

-- where the outcome is stuck: at the first stuck box, else where two exits carry a value, else
-- where none does
abbrev pub outcome_mark : (ℕ → Option Value) → (ℕ → Option TextTrail) → List (Option ℕ) →
    (none two boxes : ℕ) → Option TextTrail
outcome_mark wires stuck exits none two boxes =
    let s = values_seen (map (exit_value wires) exits) None None in
    first_mark boxes stuck (if is_some s.1 then Some (At two) else stuck_at none s.0)

-- the value of the outcome, if it isn't stuck
abbrev pub outcome_value : (ℕ → Option Value) → (ℕ → Option TextTrail) → List (Option ℕ) →
    (none two boxes : ℕ) → Option Value
outcome_value wires stuck exits none two boxes =
    value_unless (outcome_mark wires stuck exits none two boxes)
    (values_seen (map (exit_value wires) exits) None None).0
