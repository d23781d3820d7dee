-- The modules so far are measured.
use Rattle.std.specs.Prelude.{◌≡◌, map, take}
use Rattle.two_d.specs.Programs.{module_of}
use Rattle.lower_emit.specs.Tables.{frame_sizes}
use Rattle.lower_emit.proofs.parts.frame_sizes.Given as goal

abbrev pub invariant-loop-owner : goal.invariant-loop-owner
invariant-loop-owner l = l.sizes.items ≡ frame_sizes (map module_of (take l.owner-index l.owner-items))
