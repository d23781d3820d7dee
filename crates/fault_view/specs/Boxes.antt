-- The boxes of a program.
use Rattle.std.specs.Prelude.{ℕ, length, sum_by}
use Rattle.two_d.specs.Programs.{ModuleForm, Program}

-- the boxes of all modules
abbrev pub boxes_in : Program → ℕ
boxes_in P = sum_by (λ (m : ModuleForm). length m.boxes) P
