-- Instance tables, and the events that change them.
use Rattle.std.specs.Prelude.{Option, Some, None, ◌≡◌, ℕ, zero, suc, List, [], ◌∷◌, ◌++◌, Bool}
use Rattle.std.specs.Prelude.{false, not, ◌&&◌, ◌==◌, ◌-◌, ◌%◌, if◌then◌else◌, slice_get}
use Rattle.std.specs.Prelude.{slice_index, is_some, IsTrue, length, replicate, slice_index_or}
use Rattle.std.specs.Prelude.{slice_set}
use Rattle.std.specs.List.{filter}
use Rattle.codex_values.specs.Value.{Value}
use Rattle.two_d.specs.Programs.{Origin, Program, main_of, box_count}
use Rattle.two_d.specs.Trails.{trail_of, NoResult}
use Rattle.two_d.specs.Meaning.{Inputs, no_inputs, Meaning, mean, Outcome, Stuck, Cell, Cells}
use Rattle.two_d.specs.Meaning.{quiet, returned, Effect, Done, Starts, act, look_in, outcome_of}
use Rattle.two_d.specs.Meaning.{all_below}

pub data Event : Type 0 where
  Fire : ℕ → ℕ → Event
  End : ℕ → Event

-- an instance of a module. The cell of a box is there once the box has fired
pub record Instance : Type 0 where
  pub kind : ℕ
  pub parent : Option (ℕ × ℕ)
  pub inputs : Inputs
  pub cells : List (Option Cell)
  pub outcome : Option Outcome

abbrev pub Table : Type 0
Table = List Instance

-- what stands where a number names no instance: one that has ended
abbrev pub nobody : Instance
nobody = record {
  kind = 0;
  parent = None;
  inputs = no_inputs;
  cells = [];
  outcome = Some (Stuck (trail_of (NoResult 0)));
}

abbrev pub instance_at : Table → ℕ → Instance
instance_at T i = slice_index_or T i nobody

-- a new instance
abbrev pub begun : Program → ℕ → Option (ℕ × ℕ) → Inputs → Instance
begun P m parent a = record {
  kind = m;
  parent = parent;
  inputs = a;
  cells = replicate (box_count P m) None;
  outcome = None;
}

abbrev pub fired : Instance → Cells
fired x b = slice_index_or x.cells b None

abbrev pub is_live : Instance → Bool
is_live x = not (is_some x.outcome)

-- the values on the wires of an instance
abbrev pub wires : Instance → Origin → Option Value
wires x = look_in x.inputs (fired x)

-- what the firing of a box would do, if the box is enabled
abbrev pub firing : Program → Instance → ℕ → Option Effect
firing P x b = act P x.kind (wires x) b

abbrev pub can_fire : Program → Instance → ℕ → Bool
can_fire P x b = not (is_some (fired x b)) && is_some (firing P x b)

abbrev pub is_box_of : ℕ → Option (ℕ × ℕ) → Bool
is_box_of i None = false
is_box_of i (Some p) = p.0 == i

-- this instance has not ended and was started by instance i
abbrev pub is_inner : ℕ → Instance → Bool
is_inner i y = is_live y && is_box_of i y.parent

unfoldable pub is_ready : Program → Table → Event → Bool
is_ready P T (Fire i b) = is_live (instance_at T i) && can_fire P (instance_at T i) b
is_ready P T (End i) =
    is_live (instance_at T i)
    && (all_below (box_count P (instance_at T i).kind) (λ b. not (can_fire P (instance_at T i) b))
    && all_below (length T) (λ h. not (is_inner i (instance_at T h))))

-- the instance with the cell of one box set
abbrev pub with_cell : Instance → ℕ → Cell → Instance
with_cell x b c = record x { cells = slice_set x.cells b (Some c) }

abbrev pub set_cell : Table → ℕ → ℕ → Cell → Table
set_cell T i b c = slice_set T i (with_cell (instance_at T i) b c)

abbrev pub fire : Program → Table → ℕ → ℕ → Option Effect → Table
fire P T i b None = T
fire P T i b (Some (Done c)) = set_cell T i b c
fire P T i b (Some (Starts m a)) = set_cell T i b quiet ++ begun P m (Some (i, b)) a ∷ []

abbrev pub end_of : Program → Instance → Outcome
end_of P x = outcome_of P x.kind (fired x) (wires x)

abbrev pub ended : Instance → Outcome → Instance
ended x o = record x { outcome = Some o }

-- the outcome of an instance goes to the box that started it
abbrev pub deliver : Table → Option (ℕ × ℕ) → Outcome → Table
deliver T None o = T
deliver T (Some p) o = set_cell T p.0 p.1 (returned (instance_at T p.0).kind p.1 o)

-- the table after a ready event
unfoldable pub step : Program → Table → Event → Table
step P T (Fire i b) = fire P T i b (firing P (instance_at T i) b)
step P T (End i) =
    deliver (slice_set T i (ended (instance_at T i) (end_of P (instance_at T i))))
    (instance_at T i).parent (end_of P (instance_at T i))

abbrev pub start : Program → Table
start P = begun P (main_of P) None no_inputs ∷ []

abbrev pub after : Program → Table → List Event → Table
after P T [] = T
after P T (e ∷ events) = after P (step P T e) events

-- each event is ready in its turn
abbrev pub EachReady : Program → Table → List Event → Type 0
EachReady P T [] = Unit {0}
EachReady P T (e ∷ events) = IsTrue (is_ready P T e) × EachReady P (step P T e) events

abbrev pub fires_below : ℕ → ℕ → List Event
fires_below i zero = []
fires_below i (suc n) = fires_below i n ++ Fire i n ∷ []

-- all that an instance can do, its boxes by number and then its end
abbrev pub events_from : Program → ℕ → Table → List Event
events_from P i [] = []
events_from P i (x ∷ T) = fires_below i (box_count P x.kind) ++ End i ∷ events_from P (suc i) T

-- the ready events in their order
unfoldable pub ready : Program → Table → List Event
ready P T = filter (is_ready P T) (events_from P 0 T)

-- which ready event comes next
pub data Choice : Type 0 where
  First Last : Choice
  Listed : List ℕ → Choice

abbrev pub pick : Choice → ℕ → List Event → Option Event
pick First k events = slice_get events 0
pick Last k events = slice_get events (length events - 1)
pick (Listed picks) k events = slice_get events (slice_index picks (k % length picks) % length events)

-- at most n events by the picks, where k were made before
unfoldable pub events_by : Program → Choice → ℕ → ℕ → Table → List Event
events_by P picks zero k T = []
events_by P picks (suc n) k T =
    if is_live (instance_at T 0)
    then elim (pick picks k (ready P T)) [ None ↦ [] | Some e ↦ e ∷ events_by P picks n (suc k) (step P T e) ]
    else []

-- the firings, and the endings, among events
abbrev pub fires_in : List Event → ℕ
fires_in [] = 0
fires_in (Fire i b ∷ events) = suc (fires_in events)
fires_in (End i ∷ events) = fires_in events

abbrev pub ends_in : List Event → ℕ
ends_in [] = 0
ends_in (Fire i b ∷ events) = ends_in events
ends_in (End i ∷ events) = suc (ends_in events)

-- the program has this outcome, with its firings and instances
pub record HasMeaning (P : Program) (r : Meaning) : Type 0 where
  pub depth : ℕ
  pub means : mean P depth (main_of P) no_inputs ≡ Some r

-- the program has no outcome
abbrev pub HasNoOutcome : Program → Type 0
HasNoOutcome P = (n : ℕ) → mean P n (main_of P) no_inputs ≡ None

-- the table is a state of the program
pub record IsStateOf (P : Program) (T : Table) : Type 0 where
  pub events : List Event
  pub each_ready : EachReady P (start P) events
  pub is : T ≡ after P (start P) events

-- the first k events by the picks, or all if instance 0 ends earlier
abbrev pub events_of : Program → Choice → ℕ → List Event
events_of P picks k = events_by P picks k 0 (start P)
