-- Modules that are sound, and orders of their boxes.
use Rattle.std.specs.Prelude.{◌≡◌, ℕ, ◌<◌, ◌^◌, ◌⊎◌, IsTrue, List, length, slice_get, Some, All}
use Rattle.std.specs.List.{Contains}
use Rattle.two_d.specs.Names.{IsName}
use Rattle.two_d.specs.Programs.{Origin, North, West, South, East, BoxForm, ModuleForm}
use Rattle.two_d.specs.Trees.{IsWithin}
use Rattle.two_d.specs.declared.module.To.{To}
use Rattle.two_d.specs.declared.module.To.TheVariants.{N, W, Exit}

-- the wire that ends there begins here
abbrev pub Comes : ModuleForm → Origin → To → Type 0
Comes m o (N b) = (row : BoxForm) × (slice_get m.boxes b ≡ Some row) × (row.n ≡ Some o)
Comes m o (W b) = (row : BoxForm) × (slice_get m.boxes b ≡ Some row) × (row.w ≡ Some o)
Comes m o (Exit i) = slice_get m.exits i ≡ Some (Some o)

-- the entry is there, or the box is
abbrev pub Exists : ModuleForm → Origin → Type 0
Exists m North = IsTrue m.north
Exists m West = IsTrue m.west
Exists m (South b) = b < length m.boxes
Exists m (East b) = b < length m.boxes

-- each entry of the module is the source of a wire
pub record LeadsOn (m : ModuleForm) : Type 0 where
  pub north : IsTrue m.north → (end : To) × Comes m North end
  pub west : IsTrue m.west → (end : To) × Comes m West end

pub record IsSound (m : ModuleForm) : Type 0 where
  pub named : IsName m.name
  pub known : (o : Origin) (end : To) → Comes m o end → Exists m o
  pub once : (o : Origin) (e f : To) → Comes m o e → Comes m o f → e ≡ f
  pub commands : All (λ (row : BoxForm). IsWithin row.command) m.boxes
  pub few_boxes : length m.boxes < 2 ^ 32
  pub few_exits : length m.exits < 2 ^ 32

-- a wire goes from box a to box b
abbrev pub Feeds : ModuleForm → ℕ → ℕ → Type 0
Feeds m a b =
    (Comes m (South a) (N b) ⊎ Comes m (East a) (N b))
    ⊎ (Comes m (South a) (W b) ⊎ Comes m (East a) (W b))

-- one wire or more lead from box a to box b
pub data Reaches (m : ModuleForm) : ℕ → ℕ → Type 0 where
  by_one : {a b : ℕ} → Feeds m a b → Reaches m a b
  by_more : {a b c : ℕ} → Feeds m a b → Reaches m b c → Reaches m a c

-- an order of the boxes: each stands in it once, and behind those that feed it
pub record IsOrder (m : ModuleForm) (order : List ℕ) : Type 0 where
  pub once : length order ≡ length m.boxes
  pub each : (b : ℕ) → b < length m.boxes → Contains order b
  pub behind : (j a b : ℕ) → slice_get order j ≡ Some b → Feeds m a b → (i : ℕ) × (i < j) × (slice_get order i ≡ Some a)

-- xs isn't above ys in the order of lists of numbers: the first difference decides
abbrev pub IsNotAbove : List ℕ → List ℕ → Type 0
IsNotAbove xs ys = (xs ≡ ys) ⊎ ((i x y : ℕ) × (slice_get xs i ≡ Some x) ×
    (slice_get ys i ≡ Some y) × (x < y) × ((j : ℕ) → j < i → slice_get xs j ≡ slice_get ys j))

-- the least order
pub record IsKeptOrder (m : ModuleForm) (order : List ℕ) : Type 0 where
  pub valid : IsOrder m order
  pub least : (other : List ℕ) → IsOrder m other → IsNotAbove order other
