-- Lines as a text.
use Rattle.std.specs.Prelude.{ℕ, List, [], ◌∷◌, ◌++◌}
use Rattle.std.specs.List.{flat_map}

-- the lines one after the other, each ended by LF
abbrev pub lined : List (List ℕ) → List ℕ
lined rows = flat_map (λ row. row ++ 10 ∷ []) rows
