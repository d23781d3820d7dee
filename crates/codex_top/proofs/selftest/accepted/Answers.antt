use Rattle.two_d.specs.Faults.{number_and_place}
use Rattle.two_d.specs.Program.{program_of}
use Rattle.codex_top.proofs.ProgramLemmas.{told_ok}
use Rattle.codex_top.proofs.Selftesting.{not_refused}
use Rattle.codex_top.proofs.selftest.accepted.Goals as goal

pub unreachable-requires : goal.unreachable-requires
unreachable-requires c = not_refused c.args.text.now c.in-Err-Bad.field-0 _ _ c.in-Err-Bad.field-0-is c.requires c.in-Err-Bad.ensures.read

pub returns-in-Ok-clause-program : goal.returns-in-Ok-clause-program
returns-in-Ok-clause-program c = told_ok number_and_place (program_of c.args.text.now) c.in-Ok.program c.in-Ok.ensures.read
