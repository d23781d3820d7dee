-- What the instances of a core and its stores stand for.
use Rattle.std.specs.Prelude.{◌≡◌, ℕ, ◌<◌, List, length, Bool, true, false, slice_set}
use Rattle.codex_values.specs.declared.shape.Shape.{Shape}
use Rattle.codex_values.specs.Store.{values_of, Keeps}
use Rattle.two_d.specs.declared.trail.Trail.{Trail as TrailNode}
use Rattle.two_d.specs.Meaning.{Outcome, returned, sum_below}
use Rattle.two_d.specs.Steps.{Table, ended, instance_at, is_inner, set_cell}
use Rattle.two_d.specs.Trails.{trails_of, KeepsTrails}
use Rattle.fire_core.specs.Cores.{CoreView}
use Rattle.fire_core.specs.Kept.{KeptView}
use Rattle.fire_core.specs.inner.Rows.{RowForm, row_at, table_in, RowsFit}

-- the instance table, and the nodes of the two stores
pub record InstancesView : Type 0 where
  pub table : Table
  pub nodes : List Shape
  pub trails : List TrailNode

abbrev pub instances_view : List Shape → List TrailNode → List RowForm → InstancesView
instances_view nodes trails rows = record
    { table = table_in (values_of nodes) (trails_of trails) rows; nodes = nodes; trails = trails }

-- instance i has ended with this outcome, and box b of the one above has come to what it gave
abbrev pub delivered : Table → (i above b : ℕ) → Outcome → Table
delivered T i above b o =
    set_cell (slice_set T i (ended (instance_at T i) o)) above b
    (returned (instance_at T above).kind b o)

abbrev pub one_if : Bool → ℕ
one_if true = 1
one_if false = 0

-- how many instances that instance i started haven't ended
unfoldable pub inner_count : ℕ → Table → ℕ
inner_count i T = sum_below (length T) (λ h. one_if (is_inner i (instance_at T h)))

-- each row knows how many
abbrev pub AreInnerCounted : List RowForm → Table → Type 0
AreInnerCounted rows T = (i : ℕ) → i < length rows → (row_at rows i).inner ≡ inner_count i T

-- the places of rows are in the stores, and inner instances are counted
pub record AreKept (nodes : List Shape) (trails : List TrailNode) (rows : List RowForm) : Type 0 where
  pub fit : RowsFit (length nodes) (length trails) rows
  pub counted : AreInnerCounted rows (table_in (values_of nodes) (trails_of trails) rows)

-- what stood in the stores still stands
pub record KeepsStores (old new : InstancesView) : Type 0 where
  pub values : Keeps old.nodes new.nodes
  pub trails : KeepsTrails old.trails new.trails

-- what is seen of a core that has these instances and keeps this
abbrev pub core_view : InstancesView → KeptView → CoreView
core_view instances kept = record {
  table = instances.table;
  nodes = instances.nodes;
  trails = instances.trails;
  kept = kept;
}
