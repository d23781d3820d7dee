-- The outcome is that of the table after the log.
use Rattle.std.specs.Prelude.{length}
use Rattle.std.proofs.Common.{◌∙◌, ap, arith}
use Rattle.std.proofs.lemmas.List.{length-map}
use Rattle.codex_values.specs.Store.{values_of}
use Rattle.two_d.specs.Steps.{Table, fires_in, instance_at}
use Rattle.two_d.specs.Texts.{outcome_in}
use Rattle.two_d.specs.Trails.{trails_of}
use Rattle.fire_core.specs.Events.{event_of, events_shown}
use Rattle.fire_eval.specs.Evaluation.{choice_of}
use Rattle.fire_eval.proofs.RunLemmas.{log_counts, outcome_means, outcome_only, outcome_of}
use Rattle.fire_eval.proofs.run.eval.Goals as goal

pub returns-clause-means : goal.returns-clause-means
returns-clause-means c = λ r has enough.
    outcome_means (outcome_in (values_of c.into_stores-values.result.0) (trails_of c.into_stores-values.result.1)) c.outcome-outcome.result c.args.program.now (choice_of c.args.picks.now) c.args.budget
    (events_shown c.run.new.log.items) c.in_ok-run.ensures.log
    (rw (c.into_stores-values.ensures.values, c.into_stores-values.ensures.trails) (c.outcome-outcome.ensures.outcome ∙ ap (λ (U : Table). (instance_at U 0).outcome) c.in_ok-run.ensures.table)) r has enough

pub returns-clause-only : goal.returns-clause-only
returns-clause-only c = λ o e.
    outcome_only (outcome_in (values_of c.into_stores-values.result.0) (trails_of c.into_stores-values.result.1)) c.outcome-outcome.result c.args.program.now (choice_of c.args.picks.now) c.args.budget
    (events_shown c.run.new.log.items) c.in_ok-run.ensures.log
    (rw (c.into_stores-values.ensures.values, c.into_stores-values.ensures.trails) (c.outcome-outcome.ensures.outcome ∙ ap (λ (U : Table). (instance_at U 0).outcome) c.in_ok-run.ensures.table)) o e

pub returns-clause-of_program : goal.returns-clause-of_program
returns-clause-of_program c = λ o e.
    outcome_of (outcome_in (values_of c.into_stores-values.result.0) (trails_of c.into_stores-values.result.1)) c.outcome-outcome.result c.args.program.now (choice_of c.args.picks.now) c.args.budget
    (events_shown c.run.new.log.items) c.in_ok-run.ensures.log
    (rw (c.into_stores-values.ensures.values, c.into_stores-values.ensures.trails) (c.outcome-outcome.ensures.outcome ∙ ap (λ (U : Table). (instance_at U 0).outcome) c.in_ok-run.ensures.table)) c.modules-modules.ensures.good o e

pub returns-clause-counts : goal.returns-clause-counts
returns-clause-counts c = λ r has enough.
    let counts = log_counts c.args.program.now (choice_of c.args.picks.now) c.args.budget (events_shown c.run.new.log.items) c.in_ok-run.ensures.log r has enough in (
      c.firings_in-firings.ensures ∙ (ap (λ l. fires_in (events_shown l)) c.deref.ensures.value ∙ counts.0),
      c.instances-instances.ensures ∙ (ap length c.in_ok-run.ensures.table ∙ counts.1),
      omega (arith, length-map c.run.new.log.items event_of, counts.2),
    )
