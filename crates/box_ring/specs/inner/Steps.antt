-- Boxes that were found from a box, against the wires.
use Rattle.std.specs.Prelude.{◌≡◌, ◌<◌, ◌⊎◌, ℕ, List, [], ◌∷◌, ◌++◌, Bool, true, false, Option, Some, None}
use Rattle.std.specs.Prelude.{map, slice_get, slice_index_or, slice_set}
use Rattle.two_d.specs.Programs.{ModuleForm}
use Rattle.two_d.specs.declared.module.Origin.{Origin}
use Rattle.two_d.specs.declared.module.Origin.TheVariants.{North, West, South, East}
use Rattle.two_d.specs.Sound.{Feeds}
use Rattle.box_ring.specs.declared.search.Step.{Step}

-- the box at which a wire begins, if it does at one
abbrev pub feeder_in : Option Origin → Option ℕ
feeder_in None = None
feeder_in (Some North) = None
feeder_in (Some West) = None
feeder_in (Some (South a)) = Some a
feeder_in (Some (East a)) = Some a

-- the boxes of steps
abbrev pub boxes_of : List Step → List ℕ
boxes_of steps = map (λ (s : Step). s.bx) steps

-- the box of the step at a place
abbrev pub box_of_step : List Step → ℕ → ℕ
box_of_step steps k = slice_index_or (boxes_of steps) k 0

-- a box wasn't found, and goes last, if there is one
abbrev pub AddsStep : List Bool → List Step → Option ℕ → ℕ → List Bool → List Step → Type 0
AddsStep seen found None via seen' found' = (seen' ≡ seen) × (found' ≡ found)
AddsStep seen found (Some b) via seen' found' =
    ((slice_index_or seen b false ≡ true) × (seen' ≡ seen) × (found' ≡ found))
    ⊎ ((slice_index_or seen b false ≡ false) × (seen' ≡ slice_set seen b true)
    × (found' ≡ found ++ record { bx = b; via = via } ∷ []))

-- behind the first, each was found from one before it
abbrev pub AreBack : List Step → Type 0
AreBack found = (k : ℕ) (s : Step) → slice_get found k ≡ Some s → 0 < k → s.via < k

-- and that one waits for it
abbrev pub AreFed : ModuleForm → List Step → Type 0
AreFed m found =
    (k : ℕ) (s : Step) → slice_get found k ≡ Some s → 0 < k → Feeds m s.bx (box_of_step found s.via)
