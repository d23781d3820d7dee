use Rattle.std.proofs.Common.{◌≡◌, refl, ap, length, arith}
use Rattle.std.proofs.lemmas.List.{length-map}
use Rattle.std.proofs.lemmas.Result.{err_from_is_err_and}
use Rattle.two_d.specs.Programs.{module_of}
use Rattle.codex_top.specs.Commands.{unread, works}
use Rattle.codex_top.proofs.check.check.Goals as goal

pub returns-in_err-program-clause-ends : goal.returns-in_err-program-clause-ends
returns-in_err-program-clause-ends g c =
    let p = err_from_is_err_and c.from_residual.result c.from_residual.ensures.1 in
    rw (p.1, p.2) (unread c.in_err-program.field-0.0 c.in_err-program.ensures.read refl)

pub returns-clause-ends : goal.returns-clause-ends
returns-clause-ends g c =
    let count : c.len.result ≡ length c.in_ok-program.program =
    omega (arith, c.len.ensures, c.modules.result.now.ok, length-map c.modules.result.now.items module_of, ap length c.modules.ensures.modules) in
    works c.in_ok-program.program _ c.in_ok-program.ensures.read
    (rw (c.as_bytes-modules.ensures.value, c.format.ensures.text, count, c.as_bytes-boxes.ensures.value, c.format-2.ensures.text, c.count_boxes.ensures) at c.send_last.ensures.ends)
