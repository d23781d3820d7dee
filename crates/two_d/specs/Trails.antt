-- Where an evaluation is stuck, and how it came there.
use Rattle.std.specs.Prelude.{◌≡◌, ℕ, ◌<◌, ◌≤◌, List, [], ◌∷◌, ◌++◌, length, take, slice_index_or}
use Rattle.two_d.specs.declared.trail.Trail.{Trail as TrailNode}
use Rattle.two_d.specs.declared.trail.Trail.TheVariants.{At, Via}
pub use Rattle.two_d.specs.declared.trail.Site.{Site}
pub use Rattle.two_d.specs.declared.trail.Site.TheVariants.{NoSum, NoPair, NoResult, TwoResults}

-- a site, and its callers, each a module and a box of it, the innermost first
pub record Trail : Type 0 where
  pub site : Site
  pub callers : List (ℕ × ℕ)

-- without callers
abbrev pub trail_of : Site → Trail
trail_of site = record { site = site; callers = [] }

-- with one caller more, behind the others
abbrev pub via : ℕ → ℕ → Trail → Trail
via m b trail = record trail { callers = trail.callers ++ (m, b) ∷ [] }

-- the trail at a place of a list of trails
abbrev pub trail_in : List Trail → ℕ → Trail
trail_in trails at = slice_index_or trails at (trail_of (NoResult 0))

-- the trail of a node whose inner trail is among these
abbrev pub trail_made : List Trail → TrailNode → Trail
trail_made trails (At site) = trail_of site
trail_made trails (Via m b inner) = via m b (trail_in trails inner)

-- the trails of nodes that stand behind nodes with these trails
abbrev pub trails_behind : List Trail → List TrailNode → List Trail
trails_behind trails [] = trails
trails_behind trails (node ∷ nodes) = trails_behind (trails ++ trail_made trails node ∷ []) nodes

-- the trails of the nodes, one for each
abbrev pub trails_of : List TrailNode → List Trail
trails_of nodes = trails_behind [] nodes

-- what the place stands for
abbrev pub trail_at : List TrailNode → ℕ → Trail
trail_at nodes at = trail_in (trails_of nodes) at

-- the inner trail of a node stands below this place
abbrev pub InnerBelow : ℕ → TrailNode → Type 0
InnerBelow n (At site) = Unit {0}
InnerBelow n (Via m b inner) = inner < n

-- the inner trail of each node stands earlier
abbrev pub IsGroundedTrails : List TrailNode → Type 0
IsGroundedTrails nodes = (k : ℕ) (d : TrailNode) → k < length nodes → InnerBelow k (slice_index_or nodes k d)

-- all nodes still stand, others may follow them, and each place stands for the same trail as before
pub record KeepsTrails (old new : List TrailNode) : Type 0 where
  pub nodes : take (length old) new ≡ old
  pub longer : length old ≤ length new
  pub same : (at : ℕ) → at < length old → trail_at new at ≡ trail_at old at
