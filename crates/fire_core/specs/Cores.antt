-- Cores: an instance table, what its places stand for, and what is kept of the ready events.
use Rattle.std.specs.Prelude.{List}
use Rattle.codex_values.specs.declared.shape.Shape.{Shape}
use Rattle.two_d.specs.declared.trail.Trail.{Trail as TrailNode}
use Rattle.two_d.specs.Programs.{Program}
use Rattle.two_d.specs.Steps.{Table, IsStateOf}
use Rattle.fire_core.specs.Kept.{KeptView, IsKeptOf}

-- the instance table, the nodes of the two stores, and what is kept of the ready events
pub record CoreView : Type 0 where
  pub table : Table
  pub nodes : List Shape
  pub trails : List TrailNode
  pub kept : KeptView

-- the table is a state of the program, and the marks that are kept are those of the ready events
pub record IsCoreOf (P : Program) (core : CoreView) : Type 0 where
  pub state : IsStateOf P core.table
  pub kept : IsKeptOf P core.table core.kept
