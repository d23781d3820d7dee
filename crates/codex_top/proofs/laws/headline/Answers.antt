use Rattle.codex_top.proofs.Headlines.{headline}
use Rattle.codex_top.proofs.laws.headline.Goals as goal

pub returns : goal.returns
returns c = headline
