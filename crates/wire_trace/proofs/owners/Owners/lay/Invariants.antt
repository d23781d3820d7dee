use Rattle.std.proofs.Common.{◌<◌}
use Rattle.umix_base.specs.declared.place.Place.{Place}
use Rattle.two_d.specs.Places.{at, Before, Covers}
use Rattle.grid_reader.specs.Boxes.{box_rect}
use Rattle.wire_trace.specs.inner.Areas.{AreNumbers, Gets}
use Rattle.wire_trace.proofs.owners.Owners.lay.Given as goal

abbrev pub invariant-rows : goal.invariant-rows
invariant-rows l = record {
  numbers : AreNumbers l.fn.self.area l.self;
  gets : Gets l.fn.self.area l.fn.self l.self l.number (λ (q : Place). Covers (box_rect l.figure) q × (q.row < l.row));
}

abbrev pub invariant-columns : goal.invariant-columns
invariant-columns l = record {
  numbers : AreNumbers l.fn.self.area l.self;
  gets : Gets l.fn.self.area l.fn.self l.self l.number (λ (q : Place). Covers (box_rect l.figure) q × Before q (at l.row l.col));
}
