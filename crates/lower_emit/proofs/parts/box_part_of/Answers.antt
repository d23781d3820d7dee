-- One out more.
use Rattle.std.specs.Prelude.{◌+◌, map, take}
use Rattle.std.proofs.Common.{ap, arith}
use Rattle.two_d.specs.declared.command.Exp.{Exp}
use Rattle.two_d.specs.declared.command.Side.{Side}
use Rattle.two_d.specs.Trees.{tree_of, outs_of}
use Rattle.two_d.specs.Weights.{nodes, all_nodes}
use Rattle.lower_emit.proofs.Sums.{nodes_next, stops_next}
use Rattle.lower_emit.proofs.parts.box_part_of.Goals as goal

pub loop-value-preserved : goal.loop-value-preserved
loop-value-preserved c =
    let outs = c.deref-value-items.result.now in
    let i = c.loop-value.value-index in
    let out = c.loop-value-item.result in
    stops_next c.loop-value.total c.nodes_of.result (8 + all_nodes (map (λ out. out.0) (outs_of (take i outs)))) _ _ c.saturating_add-total.result _
    c.loop-value.invariant c.nodes_of.ensures
    (omega (arith, nodes_next outs i out c.loop-value-test.true, ap (λ (x : Exp × Side). nodes (tree_of x.0)) c.loop-value-item.is)) c.saturating_add-total.ensures
