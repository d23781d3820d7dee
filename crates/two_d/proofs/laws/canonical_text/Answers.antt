use Rattle.two_d.proofs.Shown as shown
use Rattle.two_d.proofs.laws.canonical_text.Goals as goal

pub returns : goal.returns
returns c = shown.canonical_text
