use Rattle.std.proofs.Common.{refl, ap, ◌∙◌}
use Rattle.std.proofs.lemmas.List.{append-nil}
use Rattle.std.proofs.lemmas.Result.{err_from_is_err_and}
use Rattle.um_asm.specs.Listing.{listing}
use Rattle.codex_top.specs.Commands.{unread, no_memory, works}
use Rattle.codex_top.proofs.dis.dis.Goals as goal

pub returns-in_err-words-clause-ends : goal.returns-in_err-words-clause-ends
returns-in_err-words-clause-ends g c =
    let p = err_from_is_err_and c.from_residual.result c.from_residual.ensures.1 in
    rw (p.1, p.2) (unread c.in_err-words.field-0.0 c.in_err-words.ensures.read refl)

pub returns-in_err-text-clause-ends : goal.returns-in_err-text-clause-ends
returns-in_err-text-clause-ends g c =
    let p = err_from_is_err_and c.from_residual-in_err-text.result c.from_residual-in_err-text.ensures.1 in
    rw (p.1, p.2) (no_memory refl)

pub returns-clause-ends : goal.returns-clause-ends
returns-clause-ends g c =
    let is = append-nil c.deref-2.result.now ∙ c.deref-2.ensures.value ∙ c.in_ok-text.ensures.listing ∙ ap listing c.deref.ensures.value in
    works c.in_ok-words.words _ c.in_ok-words.ensures.read (rw is at c.send_last.ensures.ends)
