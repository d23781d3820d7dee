use Rattle.std.proofs.Common.{◌≡◌, ◌≤◌, ◌++◌, take}
use Rattle.std.specs.Option.{option_map}
use Rattle.two_d.specs.Steps.{after, start}
use Rattle.fire_core.specs.Events.{events_shown}
use Rattle.codex_top.specs.TraceCommand.{event_lines}
use Rattle.codex_top.specs.inner.Instances.{kinds_of}
use Rattle.codex_top.proofs.trace.put_events.Given as goal

abbrev pub invariant-loop-event : goal.invariant-loop-event
invariant-loop-event g l = record {
  kinds : l.kinds.items ≡ kinds_of (after l.program (start l.program) (take l.event-index (events_shown l.log)));
  written : g.O.Sink.written l.out ≡ option_map (λ held. held ++ event_lines l.program (start l.program) (take l.event-index (events_shown l.log))) (g.O.Sink.written l.initial.out);
  later : g.O.Sink.faults l.initial.out ≤ g.O.Sink.faults l.out;
}
