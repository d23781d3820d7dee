-- The nodes of the outs so far.
use Rattle.std.specs.Prelude.{◌≡◌, ◌+◌, ◌-◌, ◌^◌, min, map, take}
use Rattle.two_d.specs.Trees.{outs_of}
use Rattle.two_d.specs.Weights.{all_nodes}
use Rattle.lower_emit.proofs.parts.box_part_of.Given as goal

abbrev pub invariant-loop-value : goal.invariant-loop-value
invariant-loop-value l = l.total ≡ min (8 + all_nodes (map (λ out. out.0) (outs_of (take l.value-index l.value-items)))) (2 ^ 64 - 1)
