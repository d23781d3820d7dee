-- The modules of the instances of an evaluation.
use Rattle.std.specs.Prelude.{◌≡◌, ◌⊎◌, ℕ, ◌+◌, ◌<◌, Option, Some, None, List, [], ◌∷◌, length, map}
use Rattle.std.specs.Prelude.{slice_index, codes, decimal}
use Rattle.std.specs.List.{concat}
use Rattle.std.specs.Option.{option_and_then}
use Rattle.two_d.specs.Programs.{BoxForm, Program, find, box_at}
use Rattle.two_d.specs.Trees.{Form, send, case, split, call}
use Rattle.two_d.specs.Steps.{Instance, Table, Event, Fire, End}
use Rattle.two_d.specs.Texts.{name_at, HasBox}

-- the module of each instance
abbrev pub kinds_of : Table → List ℕ
kinds_of T = map (λ (x : Instance). x.kind) T

-- the module of which a command starts an instance
abbrev pub started_by : Program → Form → Option ℕ
started_by P (send outs) = None
started_by P (case x s t) = None
started_by P (split x) = None
started_by P (call name) = Some (find P name)

-- the module of the instance that an event starts, where the instances are of these modules
abbrev pub started : Program → List ℕ → Event → Option ℕ
started P kinds (Fire i b) =
    option_and_then (λ (row : BoxForm). started_by P row.command) (box_at P (slice_index kinds i) b)
started P kinds (End i) = None

-- the instance of an event is there, and its box
abbrev pub IsEventOf : Program → List ℕ → Event → Type 0
IsEventOf P kinds (Fire i b) = (i < length kinds) × HasBox P (slice_index kinds i, b)
IsEventOf P kinds (End i) = i < length kinds

-- the line of an event, where the instances are of these modules
abbrev pub event_text : Program → List ℕ → Event → List ℕ
event_text P kinds (Fire i b) =
    concat (codes "fire " ∷ decimal i ∷ codes " " ∷ name_at P (slice_index kinds i) ∷ codes " "
    ∷ decimal (b + 1) ∷ codes "\n" ∷ [])
event_text P kinds (End i) = concat (codes "end " ∷ decimal i ∷ codes "\n" ∷ [])

-- the module that was found is the one to be started; none is found where none is to be started, or
-- it isn't there
abbrev pub IsStartedIf : Program → (wanted found : Option ℕ) → Type 0
IsStartedIf P wanted (Some m) = wanted ≡ Some m
IsStartedIf P wanted None = (wanted ≡ None) ⊎ (wanted ≡ Some (length P))
