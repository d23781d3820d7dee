-- The parts of the modules so far.
use Rattle.std.specs.Prelude.{◌≡◌, ◌-◌, ◌^◌, min, map, take}
use Rattle.two_d.specs.Programs.{module_of}
use Rattle.two_d.specs.Weights.{weight}
use Rattle.lower_link.proofs.measure.weight.Given as goal

abbrev pub invariant-loop-owner : goal.invariant-loop-owner
invariant-loop-owner l = l.total ≡ min (weight (map module_of (take l.owner-index l.owner-items))) (2 ^ 64 - 1)
