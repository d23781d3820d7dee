-- The lines of a grid as plain lists.
use Rattle.std.specs.Prelude.{ℕ, ◌≤◌, List, map, Vec, length, All}
use Rattle.std.specs.Global.{Global}

-- the lines, without where they lie in memory
abbrev pub rows : List (Vec ℕ Global) → List (List ℕ)
rows lines = map (λ line. line.items) lines

-- few lines of few columns, as a file that isn't too long and has no line that is too long
pub record IsSmall (grid : List (List ℕ)) : Type 0 where
  pub few : length grid ≤ 262145
  pub narrow : All (λ line. length line ≤ 4096) grid
