-- The firings so far.
use Rattle.std.specs.Prelude.{◌≡◌, take}
use Rattle.two_d.specs.Steps.{fires_in}
use Rattle.fire_core.specs.Events.{events_shown}
use Rattle.fire_eval.proofs.run.firings_in.Given as goal

abbrev pub invariant-loop-event : goal.invariant-loop-event
invariant-loop-event l = l.firings ≡ fires_in (events_shown (take l.event-index l.log))
