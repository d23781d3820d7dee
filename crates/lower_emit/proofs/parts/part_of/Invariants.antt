-- The parts of the boxes so far.
use Rattle.std.specs.Prelude.{◌≡◌, ◌+◌, ◌-◌, ◌^◌, min, map, take, length}
use Rattle.two_d.specs.Programs.{box_of}
use Rattle.two_d.specs.Weights.{boxes_part}
use Rattle.lower_emit.proofs.parts.part_of.Given as goal

abbrev pub invariant-loop-row : goal.invariant-loop-row
invariant-loop-row l = l.total ≡ min (6 + length l.owner.name + length l.owner.exits.items + boxes_part (map box_of (take l.row-index l.row-items))) (2 ^ 64 - 1)
