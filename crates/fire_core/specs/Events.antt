-- Events as the definitions have them.
use Rattle.std.specs.Prelude.{◌≡◌, ◌+◌, List, length, map}
use Rattle.two_d.specs.Meaning.{Meaning}
use Rattle.two_d.specs.Programs.{Program}
use Rattle.two_d.specs.Steps as steps
use Rattle.fire_core.specs.declared.event.Event.{Event}
use Rattle.fire_core.specs.declared.event.Event.TheVariants.{Fire, End}

abbrev pub event_of : Event → steps.Event
event_of (Fire i b) = steps.Fire i b
event_of (End i) = steps.End i

abbrev pub events_shown : List Event → List steps.Event
events_shown events = map event_of events

-- the events are as many as the meaning says: its firings, and an end for each of its instances
abbrev pub AreAsCounted : Program → Meaning → List steps.Event → Type 0
AreAsCounted P r events = (steps.fires_in events ≡ r.firings)
    × (length (steps.after P (steps.start P) events) ≡ r.instances)
    × (length events ≡ r.firings + r.instances)
