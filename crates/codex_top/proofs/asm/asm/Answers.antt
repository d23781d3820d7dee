use Rattle.std.proofs.lemmas.Result.{err_from_is_err_and}
use Rattle.codex_top.specs.Commands.{unread, works}
use Rattle.codex_top.specs.Reading.{IsText, IsNoText}
use Rattle.codex_top.proofs.FileLemmas.{stays, scroll_after}
use Rattle.codex_top.proofs.asm.asm.Goals as goal

pub returns-in_err-words-clause-ends : goal.returns-in_err-words-clause-ends
returns-in_err-words-clause-ends g c =
    let p = err_from_is_err_and c.from_residual.result c.from_residual.ensures.1 in
    rw (p.1, p.2) (unread c.in_err-words.field-0.0 c.in_err-words.ensures.read c.in_err-words.ensures.shelf)

pub returns-clause-ends : goal.returns-clause-ends
returns-clause-ends g c =
    works c.in_ok-words.words c.write_scroll.result (stays IsText IsNoText c.args.file.now _ _ _ c.in_ok-words.words c.in_ok-words.ensures.read)
    (scroll_after c.args.out.now c.in_ok-words.words.items _ _ _ c.write_scroll.result c.in_ok-words.ensures.shelf
    (rw c.deref.ensures.value at c.write_scroll.ensures.ends))
