use Rattle.um_machine.proofs.Alone.{runs_are_alone}
use Rattle.um_machine.proofs.laws.runs_are_alone.Goals as goal

pub returns-clause-alone : goal.returns-clause-alone
returns-clause-alone c = runs_are_alone
