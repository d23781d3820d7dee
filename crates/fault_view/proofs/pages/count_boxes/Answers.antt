use Rattle.std.proofs.Common.{◌≤◌, length, sym, ap, ◌∙◌, subst, arith}
use Rattle.two_d.specs.Programs.{modules_of}
use Rattle.two_d.specs.Weights.{weight}
use Rattle.fault_view.proofs.Boxes.{more_boxes}
use Rattle.fault_view.proofs.pages.count_boxes.Goals as goal

pub overflow_add-boxes : goal.overflow_add-boxes
overflow_add-boxes c =
    let is = ap modules_of c.deref-module-items.ensures.value ∙ c.modules.ensures.modules in
    let light : weight (modules_of c.deref-module-items.result.now) ≤ 262144 = subst (λ P. weight P ≤ 262144) (sym is) c.requires in
    let more = more_boxes c.deref-module-items.result.now c.loop-module.module-index c.module-item.result 262144 c.loop-module-test.true light in
    let item = ap (λ m. length m.boxes.items) c.module-item.is in
    omega (arith, c.loop-module.invariant, more, item, c.len-boxes.ensures, c.module-item.result.boxes.ok)
