-- The bytes of drawings, counted before they are drawn.
use Rattle.std.specs.Prelude.{ℕ, ◌+◌, ◌*◌}
use Rattle.std.specs.List.{sum_by}
use Rattle.two_d.specs.Programs.{ModuleForm, Program}
use Rattle.grid_draw.specs.Layout.{columns, rows}

-- how many bytes a module's drawing has
abbrev pub size_of : ModuleForm → ℕ
size_of m = (columns m + 3) * (rows m + 2)

-- how many bytes the drawings of a program's modules have
abbrev pub sizes_of : Program → ℕ
sizes_of P = sum_by size_of P
