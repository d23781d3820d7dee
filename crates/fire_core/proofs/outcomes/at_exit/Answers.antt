use Rattle.fire_core.proofs.OutcomeLemmas.{carried-at}
use Rattle.fire_core.proofs.outcomes.at_exit.Goals as goal

pub returns-in-Some-clause-value : goal.returns-in-Some-clause-value
returns-in-Some-clause-value c = λ values trails. carried-at _ c.args.exit c.in-Some.origin _ c.in-Some.is (c.look.ensures.value values trails)
