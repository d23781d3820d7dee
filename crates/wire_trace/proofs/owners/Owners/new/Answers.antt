use Rattle.std.proofs.Common.{map, sym, subst, refl, arith}
use Rattle.grid_reader.specs.Boxes.{box_rect}
use Rattle.wire_trace.specs.inner.Areas.{LiesIn, AreNumbers}
use Rattle.wire_trace.proofs.Laying.{next_box, box_there}
use Rattle.wire_trace.proofs.owners.Owners.new.Goals as goal

lies : (c : goal.After-index-boxes-number) → LiesIn c.args.area (box_rect c.index-boxes-number.result)
lies c = c.requires.boxes c.boxes.number (box_rect c.index-boxes-number.result) (box_there c.args.boxes.now c.boxes.number c.index-boxes-number.result c.boxes-test.true c.index-boxes-number.is)

pub lay-requires-clause-figure : goal.lay-requires-clause-figure
lay-requires-clause-figure c = subst (λ a. LiesIn a (box_rect c.index-boxes-number.result)) (sym c.boxes.invariant.numbers.area) (lies c)

pub lay-requires-clause-last_row : goal.lay-requires-clause-last_row
lay-requires-clause-last_row c = let h = lies c in let low = h.end.to_bottom in let few = c.requires.small.few in omega arith

pub lay-requires-clause-last_col : goal.lay-requires-clause-last_col
lay-requires-clause-last_col c = let h = lies c in let low = h.end.to_right in let narrow = c.requires.small.narrow in omega arith

pub boxes-preserved : goal.boxes-preserved
boxes-preserved c = record {
  numbers = subst (λ a. AreNumbers a c.lay.new.self) c.boxes.invariant.numbers.area c.lay.ensures.numbers;
  owners = next_box c.boxes.owners.area (map box_rect c.args.boxes.now) c.boxes.number (box_rect c.index-boxes-number.result) c.boxes.owners c.lay.new.self refl c.lay.ensures.numbers.area (box_there c.args.boxes.now c.boxes.number c.index-boxes-number.result c.boxes-test.true c.index-boxes-number.is) c.boxes.invariant.owners c.lay.ensures.gets;
}
