use Rattle.std.proofs.Common.{List, ℕ, ◌++◌, ap, ◌∙◌}
use Rattle.stuck_view.proofs.parts.push_picture.Goals as goal

pub returns : goal.returns
returns c =
    c.in_ok-extend_from_slice.ensures.items
    ∙ ap (λ (l : List ℕ). c.args.page.now.items ++ l) (c.deref.ensures.value ∙ c.in_ok-shown.ensures)
