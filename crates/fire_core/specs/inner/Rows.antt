-- The rows in which a core keeps its instances, and the table that they stand for.
use Rattle.std.specs.Prelude.{ℕ, ◌<◌, Option, Some, None, List, [], map, length, slice_index_or, IfSome}
use Rattle.std.specs.Option.{option_map}
use Rattle.codex_values.specs.Value.{Value}
use Rattle.codex_values.specs.Store.{value_in}
use Rattle.two_d.specs.declared.outcome.Outcome.{Outcome}
use Rattle.two_d.specs.declared.outcome.Outcome.TheVariants.{Stuck as StuckKept}
use Rattle.two_d.specs.Meaning as mean
use Rattle.two_d.specs.Meaning.{Inputs}
use Rattle.two_d.specs.Steps.{Table, Instance}
use Rattle.two_d.specs.Texts.{IsPlaceIn, outcome_in}
use Rattle.two_d.specs.Trails.{Trail, trail_in}
use Rattle.fire_core.specs.declared.rows.Cell.{Cell}
use Rattle.fire_core.specs.declared.rows.Row.{Row}

-- a row with its cells as a list
pub record RowForm : Type 0 where
  pub kind : ℕ
  pub parent : Option (ℕ × ℕ)
  pub north : Option ℕ
  pub west : Option ℕ
  pub cells : List (Option Cell)
  pub inner : ℕ
  pub outcome : Option Outcome

abbrev pub row_of : Row → RowForm
row_of row = record {
  kind = row.kind;
  parent = row.parent;
  north = row.north;
  west = row.west;
  cells = row.cells.items;
  inner = row.inner;
  outcome = row.outcome;
}

-- what stands where a number names no row
abbrev pub no_row : RowForm
no_row = record {
  kind = 0;
  parent = None;
  north = None;
  west = None;
  cells = [];
  inner = 0;
  outcome = Some (StuckKept 0);
}

abbrev pub row_at : List RowForm → ℕ → RowForm
row_at rows i = slice_index_or rows i no_row

-- the values at two places
abbrev pub inputs_in : List Value → Option ℕ → Option ℕ → Inputs
inputs_in values north west = record {
  north = option_map (value_in values) north;
  west = option_map (value_in values) west;
}

abbrev pub cell_in : List Value → List Trail → Cell → mean.Cell
cell_in values trails cell = record {
  south = option_map (value_in values) cell.south;
  east = option_map (value_in values) cell.east;
  stuck = option_map (trail_in trails) cell.stuck;
}

-- the instance of a row, whose places are those of these values and trails
abbrev pub instance_in : List Value → List Trail → RowForm → Instance
instance_in values trails row = record {
  kind = row.kind;
  parent = row.parent;
  inputs = inputs_in values row.north row.west;
  cells = map (option_map (cell_in values trails)) row.cells;
  outcome = option_map (outcome_in values trails) row.outcome;
}

abbrev pub table_in : List Value → List Trail → List RowForm → Table
table_in values trails rows = map (instance_in values trails) rows

-- the place, if there is one, is below n
abbrev pub IsPlace : ℕ → Option ℕ → Type 0
IsPlace n None = Unit {0}
IsPlace n (Some at) = at < n

-- the places of a cell are below the numbers of values and of trails
abbrev pub CellFits : ℕ → ℕ → Option Cell → Type 0
CellFits n t None = Unit {0}
CellFits n t (Some cell) = IsPlace n cell.south × IsPlace n cell.east × IsPlace t cell.stuck

-- the place of the outcome, if there is one, is below the number of values or of trails
abbrev pub OutcomeFits : ℕ → ℕ → Option Outcome → Type 0
OutcomeFits n t o = IfSome o (IsPlaceIn n t)

-- the places of a row are below the numbers of values and of trails
pub record RowFits (n t : ℕ) (row : RowForm) : Type 0 where
  pub north : IsPlace n row.north
  pub west : IsPlace n row.west
  pub cells : (b : ℕ) → CellFits n t (slice_index_or row.cells b None)
  pub outcome : OutcomeFits n t row.outcome

abbrev pub RowsFit : ℕ → ℕ → List RowForm → Type 0
RowsFit n t rows = (i : ℕ) → i < length rows → RowFits n t (row_at rows i)
