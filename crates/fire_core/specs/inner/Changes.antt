-- What an event changes of what is ready, and marks of which some have to be looked at again.
use Rattle.std.specs.Prelude.{◌≡◌, ℕ, ◌+◌, ◌<◌, ◌≤◌, ◌⊎◌, Bool, false, Option, Some, List, length}
use Rattle.mark_list.specs.Marks.{at, is_marked}
use Rattle.ready_marks.specs.Slots.{SlotsView, IsRightAt, boxes_of}
use Rattle.ready_marks.specs.Ways.{WaysForm, Leads}
use Rattle.two_d.specs.Programs.{Program}
use Rattle.two_d.specs.Steps.{Table, Event, Fire, End, instance_at}
use Rattle.fire_core.specs.Kept.{KeptView, AreAllWays, IsMost, ways_at}

-- the instance that makes the event
abbrev pub maker_of : Event → ℕ
maker_of (Fire i b) = i
maker_of (End i) = i

-- the box that comes to something, if one does: it fires, or it started the instance that ends
abbrev pub told_by : Table → Event → Option (ℕ × ℕ)
told_by T (Fire i b) = Some (i, b)
told_by T (End i) = (instance_at T i).parent

-- the marks of the first n instances stand one behind the other
pub record AreSpread (P : Program) (T : Table) (n : ℕ) (slots : SlotsView) : Type 0 where
  pub sized : n < length slots.starts
  pub first : at slots.starts 0 ≡ 0
  pub next : (i : ℕ) → i < n → at slots.starts (i + 1) ≡ at slots.starts i + boxes_of P T i + 1
  pub reach : at slots.starts n ≤ length slots.marks

-- there is room for the marks of one instance behind the first n
abbrev pub HasRoom : ℕ → ℕ → SlotsView → Type 0
HasRoom n boxes slots = (n + 1 < length slots.starts) × (at slots.starts n + boxes + 1 ≤ length slots.marks)

-- no mark behind those of the first n instances is set
abbrev pub IsUnsetPast : ℕ → SlotsView → Type 0
IsUnsetPast n slots = (s : ℕ) → at slots.starts n ≤ s → is_marked slots.marks s ≡ false

-- all marks of the instance are right
abbrev pub AreRightOf : Program → Table → SlotsView → ℕ → Type 0
AreRightOf P T slots i = (b : ℕ) → b ≤ boxes_of P T i → IsRightAt P T slots i b

-- those of its boxes are
abbrev pub AreBoxesRight : Program → Table → SlotsView → ℕ → Type 0
AreBoxesRight P T slots i = (b : ℕ) → b < boxes_of P T i → IsRightAt P T slots i b

-- what was right of the first n instances is so still
abbrev pub StaysRight : Program → Table → ℕ → SlotsView → SlotsView → Type 0
StaysRight P T n old new = (i b : ℕ) → i < n → b ≤ boxes_of P T i → IsRightAt P T old i b → IsRightAt P T new i b

-- so it is of all instances, and nothing is set behind them
pub record KeepsRight (P : Program) (T : Table) (old new : SlotsView) : Type 0 where
  pub spread : AreSpread P T (length T) new
  pub stays : StaysRight P T (length T) old new
  pub rest : IsUnsetPast (length T) old → IsUnsetPast (length T) new

-- box d is box b, or a wire leads from b to it
abbrev pub IsNear : WaysForm → ℕ → ℕ → Type 0
IsNear ways b d = (d ≡ b) ⊎ (Leads ways.south b d ⊎ Leads ways.east b d)

-- the ways of the module of an instance
abbrev pub ways_in : List WaysForm → Table → ℕ → WaysForm
ways_in ways T i = ways_at ways (instance_at T i).kind

-- the mark has to be looked at again: the instance has ended, or one of its boxes has come to something
abbrev pub IsDueAt : Program → Table → List WaysForm → Event → Option (ℕ × ℕ) → ℕ → ℕ → Type 0
IsDueAt P T ways e told i d =
    ((e ≡ End i) × (d ≡ boxes_of P T i))
    ⊎ ((b : ℕ) × (told ≡ Some (i, b)) × ((d ≡ boxes_of P T i) ⊎ IsNear (ways_in ways T i) b d))

-- the marks are those of the instances that were there before the event, and some are due
pub record IsDue (P : Program) (T : Table) (kept : KeptView) (e : Event) (told : Option (ℕ × ℕ)) (n : ℕ) : Type 0 where
  pub spread : AreSpread P T n kept.slots
  pub rest : IsUnsetPast n kept.slots
  pub low : n ≤ length T
  pub high : length T ≤ n + 1
  pub room : n < length T → HasRoom n (boxes_of P T n) kept.slots
  pub ways : AreAllWays P kept.ways
  pub most : IsMost P kept.most
  pub maker_there : maker_of e < n
  pub told_there : (i b : ℕ) → told ≡ Some (i, b) → (i < n) × (b < boxes_of P T i)
  pub marks : (i d : ℕ) → i < n → d ≤ boxes_of P T i → IsRightAt P T kept.slots i d ⊎ IsDueAt P T kept.ways e told i d
