-- A page that was written of the same bytes, with the same answer.
use Rattle.std.proofs.Common.{◌≡◌, ℕ, List, Option, subst}
use Rattle.std.specs.Prelude.{Result}
use Rattle.fault_view.specs.Pages.{PageWritten}
use Rattle.fault_view.specs.declared.page.Answer.{Answer}
use Rattle.fault_view.specs.declared.page.PageFault.{PageFault}

pub page_for : (text piece : List ℕ) (old new : Option (List ℕ)) (given wanted : Result Answer PageFault) →
    piece ≡ text → given ≡ wanted → PageWritten piece old new given → PageWritten text old new wanted
page_for text piece old new given wanted same is page =
    subst (λ (a : Result Answer PageFault). PageWritten text old new a) is
    (subst (λ (p : List ℕ). PageWritten p old new given) same page)
