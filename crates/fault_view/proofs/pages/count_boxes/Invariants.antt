use Rattle.std.proofs.Common.{◌≡◌, take}
use Rattle.fault_view.proofs.Boxes.{boxes_kept}
use Rattle.fault_view.proofs.pages.count_boxes.Given as goal

abbrev pub invariant-loop-module : goal.invariant-loop-module
invariant-loop-module l = l.boxes ≡ boxes_kept (take l.module-index l.module-items)
