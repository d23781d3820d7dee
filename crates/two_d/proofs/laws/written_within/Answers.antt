use Rattle.two_d.proofs.Shown as shown
use Rattle.two_d.proofs.laws.written_within.Goals as goal

pub returns : goal.returns
returns c = shown.written_within
