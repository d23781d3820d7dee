use Rattle.std.proofs.Common.{refl, ap, Some}
use Rattle.std.specs.Prelude.{Err, Ok}
use Rattle.std.proofs.lemmas.Result.{err_from_is_err_and}
use Rattle.umix_base.specs.contracts.sure_source.SureSourceSource.TheImpl as sure
use Rattle.codex_top.specs.Commands.{unread, no_memory, works}
use Rattle.codex_top.specs.DebugCommand.{sat}
use Rattle.codex_top.specs.Reading.{IsScroll, IsNoScroll, IsInput, IsNoInput}
use Rattle.codex_top.proofs.FileLemmas.{scroll_fits, since, stays}
use Rattle.codex_top.proofs.Sessions.{no_rise, sat_from}
use Rattle.codex_top.proofs.debug.debug.Goals as goal

pub returns-in_err-words-clause-ends : goal.returns-in_err-words-clause-ends
returns-in_err-words-clause-ends g c =
    let p = err_from_is_err_and c.from_residual.result c.from_residual.ensures.1 in
    rw (p.1, p.2) (unread c.in_err-words.field-0.0 c.in_err-words.ensures.read refl)

pub returns-in_err-bytes-clause-ends : goal.returns-in_err-bytes-clause-ends
returns-in_err-bytes-clause-ends g c =
    let p = err_from_is_err_and c.from_residual-in_err-bytes.result c.from_residual-in_err-bytes.ensures.1 in
    rw (p.1, p.2) (works c.in_ok-words.words _ (stays IsScroll IsNoScroll c.args.file.now _ _ _ c.in_ok-words.words c.in_ok-words.ensures.read)
    (unread c.in_err-bytes.field-0.0
    (since IsInput IsNoInput c.args.input.now _ _ _ (Err c.in_err-bytes.field-0.0) c.in_ok-words.ensures.shelf c.in_err-bytes.ensures.read) refl))

pub start-requires : goal.start-requires
start-requires g c = scroll_fits c.args.file.now _ _ c.in_ok-words.words c.in_ok-words.ensures.read

pub returns-in_err-machine-clause-ends : goal.returns-in_err-machine-clause-ends
returns-in_err-machine-clause-ends g c =
    let p = err_from_is_err_and c.from_residual-in_err-machine.result c.from_residual-in_err-machine.ensures.1 in
    rw (p.1, p.2, c.in_err-machine.ensures.line)
    (works c.in_ok-words.words _ (stays IsScroll IsNoScroll c.args.file.now _ _ _ c.in_ok-words.words c.in_ok-words.ensures.read) (no_memory refl))

pub returns-clause-ends : goal.returns-clause-ends
returns-clause-ends g c =
    let sits = sat_from g.I.Source sure.ghosts g.O.Sink c.in_ok-words.words.items c.in_ok-bytes.bytes.items c.debug-end.new.input c.in_ok-machine.machine
    c.debug-end.new.machine c.args.commands.now c.debug-end.new.commands c.new-input.result c.debug-end.new.input c.args.out.now
    c.debug-end.new.out c.debug-end.result c.in_ok-machine.ensures.machine (ap Some c.new-input.ensures.rest) refl no_rise
    c.debug-end.ensures.session in
    rw c.end_of.ensures
    (works c.in_ok-words.words _ (stays IsScroll IsNoScroll c.args.file.now _ _ _ c.in_ok-words.words c.in_ok-words.ensures.read)
    (works c.in_ok-bytes.bytes _
    (since IsInput IsNoInput c.args.input.now _ _ _ (Ok c.in_ok-bytes.bytes) c.in_ok-words.ensures.shelf c.in_ok-bytes.ensures.read)
    (sat c.debug-end.result sits)))
