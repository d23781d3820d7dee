use Rattle.codex_top.proofs.Resuming.{saved_runs}
use Rattle.codex_top.proofs.laws.saved_runs.Goals as goal

pub returns : goal.returns
returns c = saved_runs
