use Rattle.std.proofs.Common.{refl, arith}
use Rattle.std.proofs.lemmas.Result.{err_from_is_err_and}
use Rattle.codex_top.specs.Commands.{unread, works}
use Rattle.codex_top.specs.Outside.{heard}
use Rattle.codex_top.specs.ResumeCommand.{untaken}
use Rattle.codex_top.proofs.FileLemmas.{image_has}
use Rattle.codex_top.proofs.GoesOn.{goes_on}
use Rattle.codex_top.proofs.resume.resume.Goals as goal

pub returns-in_err-machine-clause-ends : goal.returns-in_err-machine-clause-ends
returns-in_err-machine-clause-ends g c =
    let p = err_from_is_err_and c.from_residual.result c.from_residual.ensures.1 in
    rw (p.1, p.2) (unread c.in_err-machine.field-0.0 c.in_err-machine.ensures.read refl)

pub returns-in_err-skip-clause-ends : goal.returns-in_err-skip-clause-ends
returns-in_err-skip-clause-ends g c =
    let p = err_from_is_err_and c.from_residual-in_err-skip.result c.from_residual-in_err-skip.ensures.1 in
    rw (p.1, p.2, c.in_err-skip.ensures.line)
    (works (c.in_ok-machine.machine, c.in_ok-machine.taken) _ c.in_ok-machine.ensures.read (untaken refl (c.in_err-skip.ensures.asked.rose refl)))

pub run-stop-requires : goal.run-stop-requires
run-stop-requires g c =
    let few = (image_has c.args.file.now _ _ (c.in_ok-machine.machine, c.in_ok-machine.taken) c.in_ok-machine.ensures.read).saved.cycles in
    omega (arith, few, c.requires)

pub end_of-requires : goal.end_of-requires
end_of-requires g c =
    let few = (image_has c.args.file.now _ _ (c.in_ok-machine.machine, c.in_ok-machine.taken) c.in_ok-machine.ensures.read).saved.cycles in
    omega (arith, few, c.requires, c.cycles.ensures, c.run-stop.ensures.counted)

pub returns-clause-ends : goal.returns-clause-ends
returns-clause-ends g c =
    rw c.end_of.ensures (works (c.in_ok-machine.machine, c.in_ok-machine.taken) _ c.in_ok-machine.ensures.read
    (goes_on c.in_ok-machine.taken c.args.cycles c.cycles.result c.in_ok-machine.machine c.run-stop.new.self _ (heard g.I.Source c.skip.new.input) _
    c.run-stop.result c.in_ok-skip.ensures.rest c.in_ok-skip.ensures.asked.later c.run-stop.ensures.run c.run-stop.ensures.out.tells
    c.run-stop.ensures.input.rose c.run-stop.ensures.out.rose c.cycles.ensures))
