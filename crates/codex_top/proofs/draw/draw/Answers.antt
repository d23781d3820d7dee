use Rattle.std.proofs.Common.{refl, ◌∙◌}
use Rattle.std.proofs.lemmas.List.{append-nil}
use Rattle.std.proofs.lemmas.Result.{err_from_is_err_and}
use Rattle.codex_top.specs.Commands.{unread, works}
use Rattle.codex_top.specs.DrawCommand.{drawn, undrawn}
use Rattle.codex_top.proofs.draw.draw.Goals as goal

pub returns-in_err-program-clause-ends : goal.returns-in_err-program-clause-ends
returns-in_err-program-clause-ends g c =
    let p = err_from_is_err_and c.from_residual.result c.from_residual.ensures.1 in
    rw (p.1, p.2) (unread c.in_err-program.field-0.0 c.in_err-program.ensures.read refl)

pub returns-in_err-text-clause-ends : goal.returns-in_err-text-clause-ends
returns-in_err-text-clause-ends g c =
    let p = err_from_is_err_and c.from_residual-in_err-text.result c.from_residual-in_err-text.ensures.1 in
    rw (p.1, p.2) (works c.in_ok-program.program _ c.in_ok-program.ensures.read
    (undrawn c.in_err-text.field-0.0 c.in_err-text.ensures.refused refl))

pub returns-clause-ends : goal.returns-clause-ends
returns-clause-ends g c =
    let d = c.in_ok-text.ensures.drawn in
    let is = append-nil c.deref.result.now ∙ c.deref.ensures.value ∙ d.bytes in
    works c.in_ok-program.program _ c.in_ok-program.ensures.read
    (drawn c.send_last.result
    (record { narrow = d.narrow; short = d.short; again = c.in_ok-text.ensures.again c.in_ok-program.ensures.entries })
    (rw is at c.send_last.ensures.ends))
