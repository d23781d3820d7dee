use Rattle.codex_top.proofs.AllComplete.{completeness}
use Rattle.codex_top.proofs.laws.completeness.Goals as goal

pub returns : goal.returns
returns c = completeness
