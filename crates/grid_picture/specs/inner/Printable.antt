-- Lines that a text may have.
use Rattle.std.specs.Prelude.{ℕ, ◌≤◌, List, length, All}

-- a line of at most 4,096 printable bytes
pub record IsLine (row : List ℕ) : Type 0 where
  pub printable : All (λ b. (32 ≤ b) × (b ≤ 126)) row
  pub short : length row ≤ 4096
