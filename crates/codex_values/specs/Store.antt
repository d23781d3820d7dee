-- The values that the nodes of a store stand for.
use Rattle.std.specs.Prelude.{◌≡◌, ℕ, ◌<◌, ◌≤◌, List, [], ◌∷◌, ◌++◌, length, take, slice_index_or}
use Rattle.codex_values.specs.Value.{Value, unit, pair, inl, inr}
use Rattle.codex_values.specs.declared.shape.Shape.{Shape}
use Rattle.codex_values.specs.declared.shape.Shape.TheVariants.{Unit as UnitNode, Pair as PairNode}
use Rattle.codex_values.specs.declared.shape.Shape.TheVariants.{Inl as InlNode, Inr as InrNode}

-- the value at a place of a list of values
abbrev pub value_in : List Value → ℕ → Value
value_in values at = slice_index_or values at unit

-- the value of a node whose parts are among these values
abbrev pub made_of : List Value → Shape → Value
made_of values UnitNode = unit
made_of values (PairNode a b) = pair (value_in values a) (value_in values b)
made_of values (InlNode a) = inl (value_in values a)
made_of values (InrNode a) = inr (value_in values a)

-- the values of nodes that stand behind nodes with these values
abbrev pub values_behind : List Value → List Shape → List Value
values_behind values [] = values
values_behind values (node ∷ nodes) = values_behind (values ++ made_of values node ∷ []) nodes

-- the values of the nodes, one for each
abbrev pub values_of : List Shape → List Value
values_of nodes = values_behind [] nodes

-- what the place stands for
abbrev pub value_at : List Shape → ℕ → Value
value_at nodes at = value_in (values_of nodes) at

-- the parts of a node stand below this place
abbrev pub PartsBelow : ℕ → Shape → Type 0
PartsBelow n UnitNode = Unit {0}
PartsBelow n (PairNode a b) = (a < n) × (b < n)
PartsBelow n (InlNode a) = a < n
PartsBelow n (InrNode a) = a < n

-- the parts of each node stand earlier
abbrev pub IsGrounded : List Shape → Type 0
IsGrounded nodes = (k : ℕ) (d : Shape) → k < length nodes → PartsBelow k (slice_index_or nodes k d)

-- no two places have the same node
abbrev pub IsEachOnce : List Shape → Type 0
IsEachOnce nodes = (i j : ℕ) (d : Shape) → i < length nodes → j < length nodes →
    slice_index_or nodes i d ≡ slice_index_or nodes j d → i ≡ j

-- the nodes of a store
pub record IsStore (nodes : List Shape) : Type 0 where
  pub grounded : IsGrounded nodes
  pub once : IsEachOnce nodes

-- all nodes still stand, others may follow them, and each place stands for the same value as before
pub record Keeps (old new : List Shape) : Type 0 where
  pub nodes : take (length old) new ≡ old
  pub longer : length old ≤ length new
  pub same : (at : ℕ) → at < length old → value_at new at ≡ value_at old at
