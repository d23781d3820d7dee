use Rattle.border_break.proofs.OneBreak as proof
use Rattle.border_break.proofs.laws.one_break.Goals as goal

pub returns : goal.returns
returns c = proof.one_break
