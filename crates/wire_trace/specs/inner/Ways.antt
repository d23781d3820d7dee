-- How the code finds where a wire goes on.
use Rattle.std.specs.Prelude.{◌≡◌, ◌≢◌, ◌⊎◌, ◌↔◌, [], ◌∷◌, Option, MatchOption, Result, MatchResult}
use Rattle.two_d.specs.Places.{Covers}
use Rattle.two_d.specs.Ports.{Drawing}
use Rattle.two_d.specs.Wires.{Position, Direction, axis_of, next, IsTurn, IsTaker, TurnsTo, GoesOn, Collide}
use Rattle.wire_trace.specs.declared.position.Direction as code
use Rattle.wire_trace.specs.declared.position.Position as positions
use Rattle.wire_trace.specs.declared.marks.Marks.{Marks}
use Rattle.wire_trace.specs.declared.fault.WireFault.{WireFault}
use Rattle.wire_trace.specs.declared.fault.WireFault.TheVariants.{TwoPorts, BrokenWire, BadTurn, Merge, Stray, Memory}
use Rattle.wire_trace.specs.inner.Areas.{IsMarked}
use Rattle.wire_trace.specs.inner.Positions.{direction_of, position_of, axis_at}

-- the two directions on the axis other than the one on which a wire comes
pub record AreOthers (s : Position) (first second : Direction) : Type 0 where
  pub first_other : axis_of first ≢ axis_of s.to
  pub second_other : axis_of second ≢ axis_of s.to
  pub apart : first ≢ second
  pub all : (d : Direction) → axis_of d ≢ axis_of s.to → (d ≡ first) ⊎ (d ≡ second)

-- the one direction in which the wire turns was found, or there is none
abbrev pub TurnsOrStands : Drawing → Position → Option code.Direction → Type 0
TurnsOrStands m s found = MatchOption found ((d : Direction) → TurnsTo m s d → ⊥) (λ d. TurnsTo m s (direction_of d))

-- the direction in which the wire goes on was found, or it stands at a turn
abbrev pub LeavesOrStands : Drawing → Position → Option code.Direction → Type 0
LeavesOrStands m s found = MatchOption found (IsTurn m s × GoesOn m s [])
    (λ d. GoesOn m s (next s (direction_of d) ∷ []))

-- the cell of a position is occupied on its axis
abbrev pub IsOccupied : Marks → Position → Type 0
IsOccupied marks s = IsMarked marks s.place (axis_at (axis_of s.to))

-- a wire goes on to a position that takes it and isn't occupied
pub record StepsTo (m : Drawing) (marks : Marks) (s t : Position) : Type 0 where
  pub goes : GoesOn m s (t ∷ [])
  pub taker : IsTaker m t
  pub free : IsOccupied marks t → ⊥

-- why a wire can't go on from a position
abbrev pub StepFails : Drawing → Marks → Position → WireFault → Type 0
StepFails m marks s (BadTurn p) = (p ≡ s.place) × IsTurn m s × GoesOn m s []
StepFails m marks s (BrokenWire p) = (t : Position) × GoesOn m s (t ∷ []) × (IsTaker m t → ⊥) × (p ≡ t.place)
StepFails m marks s (Merge p) = (t : Position) × GoesOn m s (t ∷ []) × IsTaker m t × IsOccupied marks t × (p ≡ t.place)
StepFails m marks s (TwoPorts p) = ⊥
StepFails m marks s (Stray p) = ⊥
StepFails m marks s Memory = ⊥

-- where a wire goes on, or why it can't
abbrev pub StepAnswers : Drawing → Marks → Position → Result positions.Position WireFault → Type 0
StepAnswers m marks s result = MatchResult result (λ t. StepsTo m marks s (position_of t)) (StepFails m marks s)

-- a wire has come to occupy its cell as a position, and nothing else has changed
abbrev pub OccupiesAt : Drawing → Marks → Marks → Position → Type 0
OccupiesAt m old new s = (t : Position) → Covers m.frame t.place → IsOccupied new t ↔ (IsOccupied old t ⊎ Collide m t s)
