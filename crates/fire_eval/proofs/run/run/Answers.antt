-- One event more, or an end.
use Rattle.std.specs.Prelude.{true, false, ◌∷◌, []}
use Rattle.std.proofs.Common.{sym, ◌∙◌, ap, arith}
use Rattle.std.proofs.lemmas.List.{map-append}
use Rattle.codex_values.specs.Store.{values_of}
use Rattle.two_d.specs.Steps.{instance_at, ready}
use Rattle.two_d.specs.Texts.{outcome_in}
use Rattle.two_d.specs.Trails.{trails_of}
use Rattle.fire_core.specs.Events.{event_of, events_shown}
use Rattle.fire_eval.specs.Evaluation.{choice_of}
use Rattle.fire_eval.proofs.RunLemmas.{running_ended, running_none, running_spent, running_more, pick-ready, live-is}
use Rattle.fire_eval.proofs.run.run.Goals as goal

pub returns-then-is_some-clause-log : goal.returns-then-is_some-clause-log
returns-then-is_some-clause-log c =
    running_ended c.args.program.now (choice_of c.args.picks.now) c.args.budget c.loop-made.made c.loop-made.core.table (events_shown c.loop-made.log.items) c.loop-made.invariant.running
    (live-is (outcome_in (values_of c.loop-made.core.nodes) (trails_of c.loop-made.core.trails)) c.outcome.result (instance_at c.loop-made.core.table 0).outcome c.is_some.result true c.outcome.ensures.outcome c.is_some.ensures c.if-is_some.true)

pub returns-in-None-clause-log : goal.returns-in-None-clause-log
returns-in-None-clause-log c =
    let size = c.ready_len.ensures in
    running_none c.args.program.now (choice_of c.args.picks.now) c.args.budget c.loop-made.made c.loop-made.core.table (events_shown c.loop-made.log.items) c.loop-made.invariant.running
    (live-is (outcome_in (values_of c.loop-made.core.nodes) (trails_of c.loop-made.core.trails)) c.outcome.result (instance_at c.loop-made.core.table 0).outcome c.is_some.result false c.outcome.ensures.outcome c.is_some.ensures c.if-is_some.false)
    (sym (c.in-None.ensures.picked (ready c.args.program.now c.loop-made.core.table) (sym size)))

pub step-requires-clause-ready : goal.step-requires-clause-ready
step-requires-clause-ready c =
    let size = c.ready_len.ensures in
    pick-ready c.args.program.now (choice_of c.args.picks.now) c.loop-made.made c.loop-made.core.table (event_of c.ready_at-event.result)
    (sym (c.in-Some.ensures.picked (ready c.args.program.now c.loop-made.core.table) (sym size)) ∙ c.ready_at-event.ensures)

pub loop-made-preserved : goal.loop-made-preserved
loop-made-preserved c =
    let size = c.ready_len.ensures in
    record {
      running = running_more c.args.program.now (choice_of c.args.picks.now) c.args.budget c.loop-made.made c.loop-made.core.table _ (events_shown c.loop-made.log.items) _ (event_of c.ready_at-event.result) c.loop-made.invariant.running
          (omega arith)
          (live-is (outcome_in (values_of c.loop-made.core.nodes) (trails_of c.loop-made.core.trails)) c.outcome.result (instance_at c.loop-made.core.table 0).outcome c.is_some.result false c.outcome.ensures.outcome c.is_some.ensures c.if-is_some.false)
          (sym (c.in-Some.ensures.picked (ready c.args.program.now c.loop-made.core.table) (sym size)) ∙ c.ready_at-event.ensures)
          c.in_ok-step-in-Some.ensures.ok
          (ap events_shown c.in_ok-push-in-Some.ensures.items ∙ map-append event_of c.loop-made.log.items (c.ready_at-event.result ∷ []));
      core = c.in_ok-step-in-Some.ensures.core;
    }

pub returns-clause-log : goal.returns-clause-log
returns-clause-log c =
    running_spent c.args.program.now (choice_of c.args.picks.now) c.args.budget c.loop-made.made c.loop-made.core.table (events_shown c.loop-made.log.items) c.loop-made.invariant.running (omega arith)
