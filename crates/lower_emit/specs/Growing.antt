-- What stands for a value or a trail goes on standing for it.
use Rattle.std.specs.Prelude.{ℕ, List}
use Rattle.um_word.specs.State.{Arrays}
use Rattle.codex_values.specs.Value.{Value}
use Rattle.lower_emit.specs.Stands.{Stands, TextTrail, Trails}
use Rattle.lower_emit.specs.Surroundings.{Surroundings, Stay}

-- Where all that stood stays, as at each moment of a block's own and over each answer, what stood for
-- a value stands for it, and what stood for a trail for that trail.
pub record OnlyGrows : Type 0 where
  pub values : (w : Surroundings) (frames : List ℕ) (m n : Arrays) → Stay w frames m n →
      (k : ℕ) (v : Value) → Stands m k v → Stands n k v
  pub trails : (w : Surroundings) (frames : List ℕ) (m n : Arrays) → Stay w frames m n →
      (k : ℕ) (trail : TextTrail) → Trails m k trail → Trails n k trail
