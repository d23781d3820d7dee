use Rattle.std.proofs.Common.{◌++◌, ap, ◌∙◌}
use Rattle.fault_view.proofs.pictures.push_picture.Goals as goal

pub returns : goal.returns
returns c =
    rw c.in-Some.is (c.in_ok-extend_from_slice.ensures.items
    ∙ ap (λ more. c.args.page.now.items ++ more) (c.deref.ensures.value ∙ c.in_ok-shown.ensures))
