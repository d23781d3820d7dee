-- What `emit` asks of a program, and of what its blocks share.
use Rattle.std.specs.Prelude.{◌≤◌, ◌≡◌, ℕ, ◌<◌, length, slice_index, ◌+◌, List, map}
use Rattle.two_d.specs.Programs.{Program}
use Rattle.two_d.specs.Weights.{weight, part}
use Rattle.lower_emit.specs.declared.block.Table.{Table}
use Rattle.lower_emit.specs.KnownOutcomes.{first_text}

-- The weight is small enough for every number in the code of a block to fit in a hole.
abbrev pub IsLight : Program → Type 0
IsLight P = weight P ≤ 262144

-- The printer's block stands behind those of the modules; and each module has its first text.
pub record IsTable (P : Program) (table : Table) : Type 0 where
  pub printer : table.printer ≡ length P
  pub one_each : length table.sites.items ≡ length P
  pub first : (m : ℕ) → m < length P → slice_index table.sites.items m ≡ first_text P m

-- The words of the frame of each module: twelve, and its part of the weight.
abbrev pub frame_sizes : Program → List ℕ
frame_sizes P = map (λ m. 12 + part m) P
