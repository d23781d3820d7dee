use Rattle.std.proofs.Common.{refl}
use Rattle.std.proofs.lemmas.Result.{err_from_is_err_and}
use Rattle.fault_view.specs.Pages.{no_memory}
use Rattle.fault_view.proofs.PageLemmas.{put_part, put_whole}
use Rattle.fault_view.proofs.page.grid_page.Goals as goal

pub returns-in_err-page-clause-page : goal.returns-in_err-page-clause-page
returns-in_err-page-clause-page g c =
    let p = err_from_is_err_and c.from_residual.result c.from_residual.ensures.1 in rw (p.1, p.2) (no_memory refl)

pub returns-in-Ok-clause-page : goal.returns-in-Ok-clause-page
returns-in-Ok-clause-page g c =
    put_whole c.args.text.now c.in_ok-page.page.answer c.in_ok-page.page.bytes.items c.deref.result.now _ _ c.deref.ensures.value c.in_ok-page.ensures
    c.in-Ok.ensures.appended

pub returns-clause-page : goal.returns-clause-page
returns-clause-page g c =
    put_part c.args.text.now c.in_ok-page.page.answer c.in_ok-page.page.bytes.items c.deref.result.now _ _ _ c.deref.ensures.value c.in_ok-page.ensures
    c.in-Err.ensures.appended
