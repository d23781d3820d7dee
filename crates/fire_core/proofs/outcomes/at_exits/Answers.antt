use Rattle.std.specs.Prelude.{None}
use Rattle.std.proofs.Common.{arith, subst}
use Rattle.fire_core.specs.inner.Outcomes.{IsCarried}
use Rattle.fire_core.proofs.OutcomeLemmas.{carried-more, carried-whole}
use Rattle.fire_core.proofs.outcomes.at_exits.Goals as goal

pub loop-exit-preserved : goal.loop-exit-preserved
loop-exit-preserved c = record {
  carried = λ values trails.
      subst (IsCarried values c.joined-found.result) (carried-more _ c.args.exits.now c.loop-exit.exit-index None _ c.loop-exit-test.true (c.at_exit.ensures.value values trails))
      (c.joined-found.ensures.carried values _ (c.loop-exit.invariant.carried values trails));
  fits = λ n t fits. c.joined-found.ensures.fits n (c.loop-exit.invariant.fits n t fits) (c.at_exit.ensures.place n t fits);
}

pub returns-clause-carried : goal.returns-clause-carried
returns-clause-carried c = λ values trails.
    subst (IsCarried values c.loop-exit.found) (carried-whole _ c.args.exits.now c.loop-exit.exit-index (omega arith)) (c.loop-exit.invariant.carried values trails)
