-- Ways while they are noted, box by box.
use Rattle.std.specs.Prelude.{◌≡◌, ℕ, ◌<◌, Option, Some, None, length, slice_set}
use Rattle.two_d.specs.Programs.{ModuleForm}
use Rattle.two_d.specs.declared.module.Origin.{Origin}
use Rattle.two_d.specs.declared.module.Origin.TheVariants.{North, West, South, East}
use Rattle.ready_marks.specs.Ways.{WaysForm, Leads, Takes}

-- the box at the beginning of the wire, if it is a box, is there
abbrev pub IsWithin : WaysForm → Option Origin → Type 0
IsWithin ways None = Unit {0}
IsWithin ways (Some North) = Unit {0}
IsWithin ways (Some West) = Unit {0}
IsWithin ways (Some (South from)) = from < length ways.south
IsWithin ways (Some (East from)) = from < length ways.east

-- the ways with one more
abbrev pub lead_to : WaysForm → Option Origin → ℕ → WaysForm
lead_to ways None b = ways
lead_to ways (Some North) b = ways
lead_to ways (Some West) b = ways
lead_to ways (Some (South from)) b = record ways { south = slice_set ways.south from (Some b) }
lead_to ways (Some (East from)) b = record ways { east = slice_set ways.east from (Some b) }

-- each wire from a box to one of the first n is noted, and what is noted is a wire
pub record AreWaysBelow (m : ModuleForm) (n : ℕ) (ways : WaysForm) : Type 0 where
  pub south_sized : length ways.south ≡ length m.boxes
  pub east_sized : length ways.east ≡ length m.boxes
  pub south : (b from : ℕ) → b < n → Takes m b (South from) → Leads ways.south from b
  pub east : (b from : ℕ) → b < n → Takes m b (East from) → Leads ways.east from b
  pub south_wired : (from to : ℕ) → Leads ways.south from to → Takes m to (South from)
  pub east_wired : (from to : ℕ) → Leads ways.east from to → Takes m to (East from)
