-- Boxes that wait for each other, back to the first.
use Rattle.std.specs.Prelude.{ℕ, List, [], ◌∷◌}
use Rattle.two_d.specs.Programs.{ModuleForm}
use Rattle.two_d.specs.Sound.{Feeds}

-- box b waits for the first of these boxes, each of them for the next, and the last for box z
abbrev pub WaitsAlong : ModuleForm → (b : ℕ) → List ℕ → (z : ℕ) → Type 0
WaitsAlong m b [] z = Feeds m z b
WaitsAlong m b (c ∷ cs) z = Feeds m c b × WaitsAlong m c cs z

-- the last waits for box b itself
abbrev pub IsRing : ModuleForm → ℕ → List ℕ → Type 0
IsRing m b ring = WaitsAlong m b ring b
