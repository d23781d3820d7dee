-- The ready events of the instances so far.
use Rattle.std.specs.Prelude.{◌≡◌}
use Rattle.fire_core.specs.Events.{events_shown}
use Rattle.fire_core.specs.inner.Ready.{ready_below}
use Rattle.fire_core.proofs.evaluation.Core.ready.Given as goal

abbrev pub invariant-loop-number : goal.invariant-loop-number
invariant-loop-number l = events_shown l.events.items ≡ ready_below l.program l.self-inside.instances.table l.number
