use Rattle.std.proofs.Common.{◌≡◌, take}
use Rattle.codex_top.proofs.Boxes.{boxes_kept}
use Rattle.codex_top.proofs.check.count_boxes.Given as goal

abbrev pub invariant-loop-module : goal.invariant-loop-module
invariant-loop-module l = l.boxes ≡ boxes_kept (take l.module-index l.module-items)
