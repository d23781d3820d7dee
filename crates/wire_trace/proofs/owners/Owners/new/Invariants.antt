use Rattle.std.proofs.Common.{map}
use Rattle.grid_reader.specs.Boxes.{box_rect}
use Rattle.wire_trace.specs.inner.Areas.{AreNumbers, AreOwners}
use Rattle.wire_trace.proofs.owners.Owners.new.Given as goal

abbrev pub invariant-boxes : goal.invariant-boxes
invariant-boxes l = record {
  numbers : AreNumbers l.fn.area l.owners;
  owners : AreOwners (map box_rect l.boxes) l.number l.owners;
}
