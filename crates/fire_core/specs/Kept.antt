-- What a core keeps of the events that are ready: their marks, and where the wires of each module lead.
use Rattle.std.specs.Prelude.{◌≡◌, ℕ, ◌<◌, ◌≤◌, ◌^◌, List, [], length, map, slice_index_or}
use Rattle.ready_marks.specs.Slots.{SlotsView, AreReady}
use Rattle.ready_marks.specs.Ways.{WaysForm, AreWaysOf, ways_form}
use Rattle.ready_marks.specs.declared.ways.Ways.{Ways}
use Rattle.two_d.specs.Programs.{Program, module_at, box_count}
use Rattle.two_d.specs.Steps.{Table}

pub record KeptView : Type 0 where
  pub slots : SlotsView
  pub ways : List WaysForm
  pub most : ℕ

abbrev pub kept_view : SlotsView → List Ways → ℕ → KeptView
kept_view slots ways most = record { slots = slots; ways = map ways_form ways; most = most }

-- what stands where a number names no module
abbrev pub no_ways : WaysForm
no_ways = record { south = []; east = [] }

abbrev pub ways_at : List WaysForm → ℕ → WaysForm
ways_at ways m = slice_index_or ways m no_ways

-- the wires of each module are noted
pub record AreAllWays (P : Program) (ways : List WaysForm) : Type 0 where
  pub sized : length ways ≡ length P
  pub each : (m : ℕ) → m < length P → AreWaysOf (module_at P m) (ways_at ways m)

-- no module has more boxes than so many
pub record IsMost (P : Program) (most : ℕ) : Type 0 where
  pub all : (m : ℕ) → m < length P → box_count P m ≤ most
  pub few : most < 2 ^ 32

-- just the marks of the ready events are set, the wires of each module are noted, and how large a module is at most
pub record IsKeptOf (P : Program) (T : Table) (kept : KeptView) : Type 0 where
  pub slots : AreReady P T kept.slots
  pub ways : AreAllWays P kept.ways
  pub most : IsMost P kept.most
