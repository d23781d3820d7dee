use Rattle.grid_reader.specs.Boxes.{box_rect}
use Rattle.wire_trace.specs.inner.Sheets.{drawing_in}
use Rattle.wire_trace.proofs.SideLemmas.{at_north, at_west, at_east, at_south, at_none}
use Rattle.wire_trace.proofs.sides.one_port_each.Goals as goal

pub returns-in-Some : goal.returns-in-Some
returns-in-Some c = at_north (drawing_in c.args.sheet.now) (box_rect c.args.figure.now) c.in-Some.place c.in-Some.ensures

pub returns-in-Some-second_port : goal.returns-in-Some-second_port
returns-in-Some-second_port c = at_west (drawing_in c.args.sheet.now) (box_rect c.args.figure.now) c.in-Some-second_port.place c.in_default.ensures c.in-Some-second_port.ensures

pub returns-in-Some-second_port-2 : goal.returns-in-Some-second_port-2
returns-in-Some-second_port-2 c = at_east (drawing_in c.args.sheet.now) (box_rect c.args.figure.now) c.in-Some-second_port-2.place c.in_default.ensures c.in_default-second_port.ensures c.in-Some-second_port-2.ensures

pub returns-in-Some-second_port-3 : goal.returns-in-Some-second_port-3
returns-in-Some-second_port-3 c = at_south (drawing_in c.args.sheet.now) (box_rect c.args.figure.now) c.in-Some-second_port-3.place c.in_default.ensures c.in_default-second_port.ensures c.in_default-second_port-2.ensures c.in-Some-second_port-3.ensures

pub returns : goal.returns
returns c = at_none (drawing_in c.args.sheet.now) (box_rect c.args.figure.now) c.in_default.ensures c.in_default-second_port.ensures c.in_default-second_port-2.ensures c.in_default-second_port-3.ensures
