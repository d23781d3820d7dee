-- The ready event at a place is ready.
use Rattle.two_d.specs.Steps.{ready, is_ready, events_from}
use Rattle.two_d.proofs.Picks.{get-filter}
use Rattle.fire_core.specs.Events.{event_of}
use Rattle.fire_core.proofs.tests.makes.Goals as goal

pub step-requires-clause-ready : goal.step-requires-clause-ready
unfolding ready
step-requires-clause-ready c =
    let P = c.args.program.now in
    let T = c.args.core.now.table in
    get-filter (is_ready P T) (events_from P 0 T) c.args.k (event_of c.ready_at-next.result) c.ready_at-next.ensures
