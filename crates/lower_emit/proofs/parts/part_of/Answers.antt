-- One box more.
use Rattle.std.proofs.Common.{ap, arith}
use Rattle.two_d.specs.declared.module.BoxRow.{BoxRow}
use Rattle.two_d.specs.Programs.{box_of}
use Rattle.two_d.specs.Weights.{box_part}
use Rattle.lower_emit.proofs.Sums.{boxes_next, stops_next}
use Rattle.lower_emit.proofs.parts.part_of.Goals as goal

pub loop-row-preserved : goal.loop-row-preserved
loop-row-preserved c =
    let row = c.row-item.result in
    stops_next c.loop-row.total c.box_part_of.result _ _ _ c.saturating_add-total-in-loop-row.result _ c.loop-row.invariant c.box_part_of.ensures
    (omega (arith, boxes_next c.deref-row-items.result.now c.loop-row.row-index row c.loop-row-test.true, ap (λ (x : BoxRow). box_part (box_of x)) c.row-item.is)) c.saturating_add-total-in-loop-row.ensures
