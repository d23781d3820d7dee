-- What stands goes on standing where all stays.
use Rattle.std.proofs.Common.{ℕ, List, inl, inr}
use Rattle.um_word.specs.State.{Arrays}
use Rattle.codex_values.specs.Value as shape
use Rattle.codex_values.specs.Value.{Value}
use Rattle.lower_emit.specs.Stands.{CellArray, Stands, TextTrail, At, Via, Trails}
use Rattle.lower_emit.specs.Surroundings.{Surroundings, StandsThere, Stay}
use Rattle.lower_emit.specs.Growing.{OnlyGrows}

module _ (w : Surroundings) (frames : List ℕ) (m n : Arrays) (stay : Stay w frames m n) where
  cell : (k a b c d : ℕ) → StandsThere w frames m k → CellArray m k a b c d → CellArray n k a b c d
  cell k a b c d there h = (h.0, stay k _ h.0 there h.1)

  value_there : (k : ℕ) (v : Value) → Stands m k v → StandsThere w frames m k
  value_there k v h = inr (inr (inr (inl (v, h))))

  trail_there : (k : ℕ) (trail : TextTrail) → Trails m k trail → StandsThere w frames m k
  trail_there k trail h = inr (inr (inr (inr (trail, h))))

  values : (k : ℕ) (v : Value) → Stands m k v → Stands n k v
  values k shape.unit h = cell k 0 0 0 0 (value_there k shape.unit h) h
  values k (shape.inl v) h = (h.0, cell k h.0 0 0 0 (value_there k (shape.inl v) h) h.1, values h.0 v h.2)
  values k (shape.inr v) h = (h.0, cell k 0 h.0 0 0 (value_there k (shape.inr v) h) h.1, values h.0 v h.2)
  values k (shape.pair v u) h =
      (h.0, h.1, cell k 0 0 h.0 h.1 (value_there k (shape.pair v u) h) h.2, values h.0 v h.3, values h.1 u h.4)

  trails : (k : ℕ) (trail : TextTrail) → Trails m k trail → Trails n k trail
  trails k (At text) h = cell k text 0 0 0 (trail_there k (At text) h) h
  trails k (Via text inner) h =
      (h.0, cell k text h.0 0 0 (trail_there k (Via text inner) h) h.1, trails h.0 inner h.2)

pub only_grows : OnlyGrows
only_grows = record {
  values = λ w frames m n stay k v h. values w frames m n stay k v h;
  trails = λ w frames m n stay k trail h. trails w frames m n stay k trail h;
}
