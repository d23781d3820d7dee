use Rattle.std.proofs.Common.{arith}
use Rattle.fire_core.specs.declared.event.Event.TheVariants.{Fire}
use Rattle.fire_eval.proofs.FiringLemmas.{firings-few, firings-more}
use Rattle.fire_eval.proofs.run.firings_in.Goals as goal

pub counted-firings-requires : goal.counted-firings-requires
counted-firings-requires c = omega (arith, firings-few c.args.log.now c.loop-event.event-index (omega arith), c.loop-event.invariant)

pub loop-event-preserved : goal.loop-event-preserved
loop-event-preserved c = firings-more c.args.log.now c.loop-event.event-index (Fire 0 0) c.loop-event.firings _ (omega arith) c.loop-event.invariant c.counted-firings.ensures
