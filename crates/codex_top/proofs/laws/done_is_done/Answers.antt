use Rattle.std.proofs.Common.{refl}
use Rattle.codex_top.specs.declared.status.Status.TheVariants as status
use Rattle.codex_top.proofs.Ended.{done_call, told_done, told_so}
use Rattle.codex_top.proofs.laws.done_is_done.Goals as goal

pub returns : goal.returns
returns c = record {
  tells = told_so;
  done = λ before now end told. told_done before now end status.Done refl told;
  calls = done_call;
}
