use Rattle.fault_view.proofs.Cells.{two_added}
use Rattle.fault_view.proofs.breaks.push_found.Goals as goal

pub returns : goal.returns
returns c =
    rw c.in-Some.is (two_added c.args.page.now.items _ _ _ _ c.in_ok-push_line.ensures c.in_ok-push_picture.ensures)
