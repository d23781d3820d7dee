-- Which arrays stand for which values, trails and outcomes.
use Rattle.std.specs.Prelude.{◌≡◌, ◌≢◌, ℕ, ◌∷◌, Some, Option, None, []}
use Rattle.um_word.specs.State.{Arrays}
use Rattle.codex_values.specs.Value.{Value, unit, pair, inl, inr}
use Rattle.std.specs.FinMap as map

-- a cell with these four words
abbrev pub CellArray : Arrays → ℕ → ℕ → ℕ → ℕ → ℕ → Type 0
CellArray m k a b c d = (k ≢ 0) × (map.get m k ≡ Some (a ∷ b ∷ c ∷ d ∷ []))

-- the array stands for the value: a word for each shape, and 0 where the value hasn't that part
abbrev pub Stands : Arrays → ℕ → Value → Type 0
Stands m k unit = CellArray m k 0 0 0 0
Stands m k (inl v) = (x : ℕ) × CellArray m k x 0 0 0 × Stands m x v
Stands m k (inr v) = (x : ℕ) × CellArray m k 0 x 0 0 × Stands m x v
Stands m k (pair v w) = (x y : ℕ) × CellArray m k 0 0 x y × Stands m x v × Stands m y w

-- where an instance got stuck: at a text, or by a caller's text and inside
pub data TextTrail : Type 0 where
  At : (text : ℕ) → TextTrail
  Via : (text : ℕ) → TextTrail → TextTrail

-- the array stands for the trail: the number of the text, and the array of what is inside
abbrev pub Trails : Arrays → ℕ → TextTrail → Type 0
Trails m k (At text) = CellArray m k text 0 0 0
Trails m k (Via text inner) = (x : ℕ) × CellArray m k text x 0 0 × Trails m x inner

-- 0 for no value, and else an array that stands for it
abbrev pub Carries : Arrays → ℕ → Option Value → Type 0
Carries m k None = k ≡ 0
Carries m k (Some v) = Stands m k v

-- 0 for none, and else an array that stands for the trail
abbrev pub Marked : Arrays → ℕ → Option TextTrail → Type 0
Marked m k None = k ≡ 0
Marked m k (Some trail) = Trails m k trail

-- what an instance comes to: the value of its outcome, or where it is stuck
pub record Ending : Type 0 where
  pub value : Option Value
  pub mark : Option TextTrail
