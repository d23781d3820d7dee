-- The starts of wires as the code finds them.
use Rattle.std.specs.Prelude.{◌≡◌, ◌↔◌, Contains, AllPairs, List, map, Option, MatchOption, All}
use Rattle.umix_base.specs.declared.place.Place.{Place}
use Rattle.two_d.specs.Ports.{Drawing}
use Rattle.two_d.specs.Places.{Before}
use Rattle.two_d.specs.Wires.{Position, StartsAt, IsStart}
use Rattle.two_d.specs.declared.module.Origin.{Origin}
use Rattle.wire_trace.specs.declared.starts.Start.{Start}
use Rattle.wire_trace.specs.inner.Positions.{position_of}

-- a wire from its origin begins at the place, and every wire that begins there begins at the same position
pub record IsStartAt (m : Drawing) (p : Place) (start : Start) : Type 0 where
  pub place : start.at.place ≡ p
  pub starts : StartsAt m (position_of start.at) start.from
  pub one : (s : Position) (o : Origin) → s.place ≡ p → StartsAt m s o → s ≡ position_of start.at

-- the start at a place was found, or no wire begins there
abbrev pub FindsStart : Drawing → Place → Option Start → Type 0
FindsStart m p found = MatchOption found ((s : Position) (o : Origin) → s.place ≡ p →
    StartsAt m s o → ⊥) (IsStartAt m p)

-- the positions of starts
abbrev pub positions_of : List Start → List Position
positions_of starts = map (λ (start : Start). position_of start.at) starts

-- a wire from the origin of each start begins at its position
abbrev pub HaveOrigins : Drawing → List Start → Type 0
HaveOrigins m starts = All (λ start. StartsAt m (position_of start.at) start.from) starts

-- the starts at places of some kind, in reading order, each with its origin
pub record HasStarts (m : Drawing) (Passed : Place → Type 0) (starts : List Start) : Type 0 where
  pub in_order : AllPairs (λ s t. Before s.place t.place) (positions_of starts)
  pub each : (s : Position) → Contains (positions_of starts) s ↔ (IsStart m s × Passed s.place)
  pub shown : HaveOrigins m starts
