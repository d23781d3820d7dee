use Rattle.std.proofs.Common.{arith, get_or}
use Rattle.std.proofs.lemmas.List.{length-map}
use Rattle.std.proofs.lemmas.Result.{err_from_is_err_and}
use Rattle.grid_reader.specs.Boxes.{box_rect}
use Rattle.two_d.specs.Clean.{ports_at}
use Rattle.wire_trace.specs.Answers.{wire_fault_of}
use Rattle.wire_trace.specs.inner.Sheets.{drawing_in}
use Rattle.wire_trace.proofs.Laying.{box_at}
use Rattle.wire_trace.proofs.EachLemmas.{each_next, each_refused, each_end}
use Rattle.wire_trace.proofs.sides.one_port_a_side.Goals as goal

pub one_port_each-requires-clause-figure : goal.one_port_each-requires-clause-figure
one_port_each-requires-clause-figure c = c.requires.laid.fit c.boxes.number (box_rect (get_or c.args.sheet.now.boxes.now c.boxes.number c.index-sheet-number.result)) (box_at c.args.sheet.now.boxes.now c.boxes.number c.index-sheet-number.result c.boxes-test.true)

pub returns-in_err-one_port_each : goal.returns-in_err-one_port_each
returns-in_err-one_port_each c =
    let p = err_from_is_err_and c.from_residual.result c.from_residual.ensures.1 in
    rw (p.1, p.2) (each_refused (ports_at (drawing_in c.args.sheet.now)) (drawing_in c.args.sheet.now).boxes c.boxes.number (box_rect (get_or c.args.sheet.now.boxes.now c.boxes.number c.index-sheet-number.result)) (wire_fault_of c.in_err-one_port_each.field-0.0) (box_at c.args.sheet.now.boxes.now c.boxes.number c.index-sheet-number.result c.boxes-test.true) c.in_err-one_port_each.ensures c.boxes.invariant)

pub boxes-preserved : goal.boxes-preserved
boxes-preserved c = each_next (ports_at (drawing_in c.args.sheet.now)) (drawing_in c.args.sheet.now).boxes c.boxes.number (box_rect (get_or c.args.sheet.now.boxes.now c.boxes.number c.index-sheet-number.result)) tt (box_at c.args.sheet.now.boxes.now c.boxes.number c.index-sheet-number.result c.boxes-test.true) c.in_ok-one_port_each.ensures c.boxes.invariant

pub returns : goal.returns
returns c = each_end (ports_at (drawing_in c.args.sheet.now)) (drawing_in c.args.sheet.now).boxes c.boxes.number (omega (arith, length-map c.args.sheet.now.boxes.now box_rect)) c.boxes.invariant
