use Rattle.std.proofs.Common.{refl}
use Rattle.std.proofs.lemmas.Result.{err_from_is_err_and}
use Rattle.codex_top.specs.Jobs.{work_of}
use Rattle.codex_top.specs.Commands.{worked, misused, no_memory}
use Rattle.codex_top.proofs.Asking.{is_allowed}
use Rattle.codex_top.proofs.top.end_of_words.Goals as goal

pub returns-in_err-job-clause-ends : goal.returns-in_err-job-clause-ends
returns-in_err-job-clause-ends g c =
    let p = err_from_is_err_and c.from_residual.result c.from_residual.ensures.1 in
    rw (p.1, p.2) (no_memory refl)

pub work-requires : goal.work-requires
work-requires g c = is_allowed _ (work_of c.in-Some.job) (rw c.in-Some.is at c.in_ok-job.ensures)

pub returns-in-Some-clause-ends : goal.returns-in-Some-clause-ends
returns-in-Some-clause-ends g c = worked (work_of c.in-Some.job) c.work.result (rw c.in-Some.is at c.in_ok-job.ensures) c.work.ensures.ends

pub returns-in-None-clause-ends : goal.returns-in-None-clause-ends
returns-in-None-clause-ends g c = misused (rw c.in-None.is at c.in_ok-job.ensures) refl
