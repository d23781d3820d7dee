use Rattle.two_d.proofs.ProgramTrails as trails
use Rattle.two_d.proofs.laws.outcome_of_program.Goals as goal

pub returns : goal.returns
returns c = trails.outcome_of_program
