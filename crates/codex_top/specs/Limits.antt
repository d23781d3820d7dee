-- The limits of the program.
use Rattle.std.specs.Prelude.{ℕ, ◌^◌, ◌-◌}
use Rattle.umix_base.specs.declared.limits.Limits.{Limits}
use Rattle.array_store.specs.StoreView.{most_limits}

-- the most arrays and words of a machine, of every run
abbrev pub limits : Limits
limits = most_limits

-- the most cycles or events of one command, and their number where none is given
abbrev pub most_made : ℕ
most_made = 2 ^ 62

-- the most that the number of a generated grid may be
abbrev pub most_number : ℕ
most_number = 2 ^ 64 - 1

-- the most bytes of an assembly text, enough for every listing
abbrev pub most_text_bytes : ℕ
most_text_bytes = 300_000_000

-- the most bytes of a grid
abbrev pub most_grid_bytes : ℕ
most_grid_bytes = 262_144

-- the most bytes of the input of a scroll that is debugged
abbrev pub most_input_bytes : ℕ
most_input_bytes = 67_108_864

-- the most command lines of one session
abbrev pub most_lines : ℕ
most_lines = 1_000_000
