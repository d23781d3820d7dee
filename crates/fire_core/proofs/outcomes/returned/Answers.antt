use Rattle.two_d.specs.Trails.{trails_of}
use Rattle.fire_core.proofs.OutcomeLemmas.{returned-value, returned-stuck}
use Rattle.fire_core.proofs.outcomes.returned.Goals as goal

pub returns-in-Value-clause-cell : goal.returns-in-Value-clause-cell
returns-in-Value-clause-cell c = λ values. returned-value values (trails_of c.args.trails.now) c.args.spot.kind c.args.spot.bx c.in-Value.at c.args.outcome c.in-Value.is

pub returns-in_ok-at-in-Stuck-clause-cell : goal.returns-in_ok-at-in-Stuck-clause-cell
returns-in_ok-at-in-Stuck-clause-cell c = λ values.
    returned-stuck values (trails_of c.args.trails.now) _ c.args.spot.kind c.args.spot.bx c.in-Stuck.inner c.args.outcome c.in-Stuck.is c.in_ok-at-in-Stuck.ensures.trail
