-- One module more.
use Rattle.std.proofs.Common.{ap, arith}
use Rattle.two_d.specs.declared.module.Module.{Module}
use Rattle.two_d.specs.Programs.{module_of}
use Rattle.two_d.specs.Weights.{part}
use Rattle.lower_emit.proofs.Sums.{weight_next, stops_next}
use Rattle.lower_link.proofs.measure.weight.Goals as goal

pub loop-owner-preserved : goal.loop-owner-preserved
loop-owner-preserved c =
    let owner = c.owner-item.result in
    stops_next c.loop-owner.total c.part_of.result _ _ _ c.saturating_add-total.result _ c.loop-owner.invariant c.part_of.ensures.part
    (omega (arith, weight_next c.deref-owner-items.result.now c.loop-owner.owner-index owner c.loop-owner-test.true, ap (λ (x : Module). part (module_of x)) c.owner-item.is)) c.saturating_add-total.ensures
