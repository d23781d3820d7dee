-- Where the wires of a module lead to.
use Rattle.std.specs.Prelude.{◌≡◌, ℕ, ◌⊎◌, Option, Some, None, List, length, slice_index_or}
use Rattle.two_d.specs.Programs.{ModuleForm}
use Rattle.two_d.specs.Sound.{Comes}
use Rattle.two_d.specs.declared.module.Origin.{Origin}
use Rattle.two_d.specs.declared.module.Origin.TheVariants.{South, East}
use Rattle.two_d.specs.declared.module.To.TheVariants.{N, W}
use Rattle.ready_marks.specs.declared.ways.Ways.{Ways}

-- for each box the boxes to which the wires from its south and its east side lead
pub record WaysForm : Type 0 where
  pub south : List (Option ℕ)
  pub east : List (Option ℕ)

abbrev pub ways_form : Ways → WaysForm
ways_form ways = record { south = ways.south.items; east = ways.east.items }

-- a wire leads there from here
abbrev pub Leads : List (Option ℕ) → ℕ → ℕ → Type 0
Leads list from to = slice_index_or list from None ≡ Some to

-- a wire from there ends at box b
abbrev pub Takes : ModuleForm → ℕ → Origin → Type 0
Takes m b o = Comes m o (N b) ⊎ Comes m o (W b)

-- just the wires from a box to a box are noted
pub record AreWaysOf (m : ModuleForm) (ways : WaysForm) : Type 0 where
  pub south_sized : length ways.south ≡ length m.boxes
  pub east_sized : length ways.east ≡ length m.boxes
  pub south : (b from : ℕ) → Takes m b (South from) → Leads ways.south from b
  pub east : (b from : ℕ) → Takes m b (East from) → Leads ways.east from b
  pub south_wired : (from to : ℕ) → Leads ways.south from to → Takes m to (South from)
  pub east_wired : (from to : ℕ) → Leads ways.east from to → Takes m to (East from)
