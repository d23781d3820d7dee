-- Marks for the events of an instance table: one for each box of each instance and one for its end.
use Rattle.std.specs.Prelude.{◌≡◌, ℕ, ◌+◌, ◌<◌, ◌≤◌, ◌==◌, Option, Some, None, Bool, false, List, length, if◌then◌else◌}
use Rattle.mark_list.specs.Marks.{at, is_marked}
use Rattle.two_d.specs.Programs.{Program, box_count}
use Rattle.two_d.specs.Steps.{Table, Event, Fire, End, instance_at, is_ready}

-- where the marks of each instance begin, and the marks
pub record SlotsView : Type 0 where
  pub starts : List ℕ
  pub marks : List Bool

abbrev pub slots_view : List ℕ → List Bool → SlotsView
slots_view starts marks = record { starts = starts; marks = marks }

-- mark b of instance i: that of box b, and the one behind its boxes that of its end
abbrev pub mark_at : SlotsView → ℕ → ℕ → Bool
mark_at slots i b = is_marked slots.marks (at slots.starts i + b)

-- the event for which mark b of instance i stands, where it has so many boxes
abbrev pub marked_event : ℕ → ℕ → ℕ → Event
marked_event boxes i b = if b == boxes then End i else Fire i b

-- an instance with a box, or with none for its end
abbrev pub spot_event : ℕ × Option ℕ → Event
spot_event (i, None) = End i
spot_event (i, Some b) = Fire i b

abbrev pub boxes_of : Program → Table → ℕ → ℕ
boxes_of P T i = box_count P (instance_at T i).kind

-- where the marks of the instances begin
pub record AreStarts (P : Program) (T : Table) (starts : List ℕ) : Type 0 where
  pub sized : length T < length starts
  pub first : at starts 0 ≡ 0
  pub next : (i : ℕ) → i < length T → at starts (i + 1) ≡ at starts i + boxes_of P T i + 1

-- mark b of instance i is set just where its event is ready
abbrev pub IsRightAt : Program → Table → SlotsView → ℕ → ℕ → Type 0
IsRightAt P T slots i b = mark_at slots i b ≡ is_ready P T (marked_event (boxes_of P T i) i b)

-- just the marks of the ready events are set, and none behind those of the instances
pub record AreReady (P : Program) (T : Table) (slots : SlotsView) : Type 0 where
  pub starts : AreStarts P T slots.starts
  pub reach : at slots.starts (length T) ≤ length slots.marks
  pub right : (i b : ℕ) → i < length T → b ≤ boxes_of P T i → IsRightAt P T slots i b
  pub rest : (s : ℕ) → at slots.starts (length T) ≤ s → is_marked slots.marks s ≡ false
