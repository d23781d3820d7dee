use Rattle.std.proofs.Common.{refl}
use Rattle.std.proofs.lemmas.Result.{err_from_is_err_and}
use Rattle.codex_top.specs.Commands.{unread, no_memory, works}
use Rattle.codex_top.proofs.FileLemmas.{scroll_fits}
use Rattle.codex_top.proofs.FromTheStart.{ran_from}
use Rattle.codex_top.proofs.run.run.Goals as goal

pub returns-in_err-words-clause-ends : goal.returns-in_err-words-clause-ends
returns-in_err-words-clause-ends g c =
    let p = err_from_is_err_and c.from_residual.result c.from_residual.ensures.1 in
    rw (p.1, p.2) (unread c.in_err-words.field-0.0 c.in_err-words.ensures.read refl)

pub start-requires : goal.start-requires
start-requires g c = scroll_fits c.args.file.now _ _ c.in_ok-words.words c.in_ok-words.ensures.read

pub returns-in_err-machine-clause-ends : goal.returns-in_err-machine-clause-ends
returns-in_err-machine-clause-ends g c =
    let p = err_from_is_err_and c.from_residual-in_err-machine.result c.from_residual-in_err-machine.ensures.1 in
    rw (p.1, p.2, c.in_err-machine.ensures.line) (no_memory refl)

pub returns-clause-ends : goal.returns-clause-ends
returns-clause-ends g c =
    rw c.end_of.ensures (works c.in_ok-words.words _ c.in_ok-words.ensures.read
    (ran_from c.in_ok-words.words.items c.args.cycles c.cycles.result c.in_ok-machine.machine c.run-stop.new.self _ _ c.run-stop.result
    c.in_ok-machine.ensures.machine c.run-stop.ensures.run c.run-stop.ensures.out.tells c.run-stop.ensures.input.rose c.run-stop.ensures.out.rose
    c.cycles.ensures))
