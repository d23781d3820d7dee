use Rattle.codex_top.proofs.OneJob.{one_job}
use Rattle.codex_top.proofs.laws.words_ask_one_job.Goals as goal

pub returns : goal.returns
returns c = one_job
