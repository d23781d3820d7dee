-- How an order of a module's boxes is made: what is placed, and which boxes could stand next.
use Rattle.std.specs.Prelude.{◌≡◌, ◌≢◌, ℕ, ◌<◌, ◌≤◌, ◌⊎◌, ◌↔◌, ◌++◌, Bool, true, false, IsTrue}
use Rattle.std.specs.Prelude.{List, [], ◌∷◌, length, slice_index_or, slice_set, slice_get, Option}
use Rattle.std.specs.Prelude.{Some, None, MatchOption, Vec}
use Rattle.std.specs.Global.{Global}
use Rattle.std.specs.BTreeSet.{BTreeSet, contains}
use Rattle.std.specs.Option.{unwrap_or, option_map}
use Rattle.std.specs.Ordering.{nat_cmp}
use Rattle.two_d.specs.Programs.{BoxForm, ModuleForm, Program, module_at, Origin, North, West, South, East}
use Rattle.two_d.specs.Sound.{Comes, Feeds, IsKeptOrder}
use Rattle.two_d.specs.declared.command.Side.{Side}
use Rattle.two_d.specs.declared.command.Side.TheVariants.{S, E}
use Rattle.two_d.specs.declared.module.To.TheVariants.{N, W}

-- the number is in the set
abbrev pub Has : BTreeSet ℕ → ℕ → Type 0
Has set q = IsTrue (contains nat_cmp set q)

-- the least number was taken out, or there was none
abbrev pub TakesLeast : (ℕ → Type 0) → (ℕ → Type 0) → Option ℕ → Type 0
TakesLeast old new taken =
    MatchOption taken ((q : ℕ) → old q → ⊥)
    (λ least. old least × ((q : ℕ) → old q → least ≤ q) × ((q : ℕ) → new q ↔ (old q × (q ≢ least))))

-- from where the wire to the north side of a box comes
abbrev pub north_at : ModuleForm → ℕ → Option Origin
north_at m b = unwrap_or (option_map (λ (row : BoxForm). row.n) (slice_get m.boxes b)) None

-- from where the wire to the west side of a box comes
abbrev pub west_at : ModuleForm → ℕ → Option Origin
west_at m b = unwrap_or (option_map (λ (row : BoxForm). row.w) (slice_get m.boxes b)) None

-- the box is marked
abbrev pub IsMarkedBox : List Bool → ℕ → Type 0
IsMarkedBox marks b = slice_index_or marks b false ≡ true

-- where the wire comes from a box, it is marked
abbrev pub IsFrom : List Bool → Option Origin → Type 0
IsFrom marks None = Unit {0}
IsFrom marks (Some North) = Unit {0}
IsFrom marks (Some West) = Unit {0}
IsFrom marks (Some (South b)) = IsMarkedBox marks b
IsFrom marks (Some (East b)) = IsMarkedBox marks b

-- where the wire comes from a box, its number is below n
abbrev pub IsFromBelow : ℕ → Option Origin → Type 0
IsFromBelow n None = Unit {0}
IsFromBelow n (Some North) = Unit {0}
IsFromBelow n (Some West) = Unit {0}
IsFromBelow n (Some (South b)) = b < n
IsFromBelow n (Some (East b)) = b < n

-- all that feed the box are marked
abbrev pub AreFed : ModuleForm → List Bool → ℕ → Type 0
AreFed m marks b = (a : ℕ) → Feeds m a b → IsMarkedBox marks a

-- the side of a box as the beginning of a wire
abbrev pub origin_of : Side → ℕ → Origin
origin_of S a = South a
origin_of E a = East a

-- a wire leads from there to a side of box b, of those with numbers below so many north and west sides
abbrev pub LeadsAmong : ModuleForm → ℕ → ℕ → Origin → ℕ → Type 0
LeadsAmong m norths wests o b = ((b < norths) × Comes m o (N b)) ⊎ ((b < wests) × Comes m o (W b))

-- for each box the box to which the wire from its side leads, as far as these ends have been seen
pub record AreTargets (m : ModuleForm) (side : Side) (norths wests : ℕ) (targets : List (Option ℕ)) : Type 0 where
  pub long : length targets ≡ length m.boxes
  pub leads : (a b : ℕ) → slice_index_or targets a None ≡ Some b → LeadsAmong m norths wests (origin_of side a) b
  pub seen : (a b : ℕ) → LeadsAmong m norths wests (origin_of side a) b → slice_index_or targets a None ≡ Some b

-- the targets after a wire to a box was seen
abbrev pub noted : Side → Option Origin → ℕ → List (Option ℕ) → List (Option ℕ)
noted S (Some (South a)) b targets = slice_set targets a (Some b)
noted E (Some (East a)) b targets = slice_set targets a (Some b)
noted S (Some (East a)) b targets = targets
noted E (Some (South a)) b targets = targets
noted side (Some North) b targets = targets
noted side (Some West) b targets = targets
noted side None b targets = targets

-- a box that wasn't marked is marked and goes last, if there is one
abbrev pub AddsBox : List Bool → List ℕ → Option ℕ → List Bool → List ℕ → Type 0
AddsBox seen found None seen' found' = (seen' ≡ seen) × (found' ≡ found)
AddsBox seen found (Some b) seen' found' =
    (IsMarkedBox seen b × (seen' ≡ seen) × (found' ≡ found))
    ⊎ ((IsMarkedBox seen b → ⊥) × (seen' ≡ slice_set seen b true) × (found' ≡ found ++ b ∷ []))

-- the orders of the first n modules
pub record AreOrdersKept (P : Program) (n : ℕ) (orders : List (Vec ℕ Global)) : Type 0 where
  pub one_each : length orders ≡ n
  pub kept : (m : ℕ) (order : Vec ℕ Global) → slice_get orders m ≡ Some order → IsKeptOrder (module_at P m) order.items
