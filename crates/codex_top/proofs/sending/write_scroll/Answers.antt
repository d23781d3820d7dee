use Rattle.std.proofs.Common.{◌≡◌, refl, subst, ◌∙◌}
use Rattle.std.proofs.lemmas.Result.{err_from_is_err_and}
use Rattle.um_word.specs.Scroll.{scroll}
use Rattle.codex_top.specs.Outside.{shelved}
use Rattle.codex_top.specs.Sending.{FileWritten, no_memory}
use Rattle.codex_top.proofs.sending.write_scroll.Goals as goal

pub returns-in_err-scroll-clause-ends : goal.returns-in_err-scroll-clause-ends
returns-in_err-scroll-clause-ends g c =
    let p = err_from_is_err_and c.from_residual.result c.from_residual.ensures.1 in
    rw (p.1, p.2) (no_memory refl)

pub returns-clause-ends : goal.returns-clause-ends
returns-clause-ends g c =
    let is : c.deref.result.now ≡ scroll c.args.words.now = c.deref.ensures.value ∙ c.in_ok-scroll.ensures in
    subst (λ bytes. FileWritten c.args.file.now bytes (shelved g.F.Shelf c.args.shelf.now) (shelved g.F.Shelf c.write_file.new.shelf) c.write_file.result) is c.write_file.ensures.ends
