use Rattle.um_machine.proofs.Joined.{runs_join, stopped_runs_stay}
use Rattle.um_machine.proofs.laws.runs_join.Goals as goal

pub returns-clause-on : goal.returns-clause-on
returns-clause-on c = runs_join

pub returns-clause-stopped : goal.returns-clause-stopped
returns-clause-stopped c = stopped_runs_stay
