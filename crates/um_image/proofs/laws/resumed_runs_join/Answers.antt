use Rattle.um_image.proofs.Resumed as lemmas
use Rattle.um_image.proofs.laws.resumed_runs_join.Goals as goal

pub returns : goal.returns
returns c = lemmas.resumed_runs_join
