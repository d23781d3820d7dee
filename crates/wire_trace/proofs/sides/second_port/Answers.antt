use Rattle.std.proofs.Common.{arith}
use Rattle.grid_reader.specs.Boxes.{box_rect}
use Rattle.wire_trace.specs.inner.Sheets.{drawing_in}
use Rattle.wire_trace.proofs.SideLemmas.{second_is, no_second}
use Rattle.wire_trace.proofs.sides.second_port.Goals as goal

pub returns-then-has_one : goal.returns-then-has_one
returns-then-has_one c =
    let (k, positive, less, first) = c.cells.invariant.one c.if-has_one.true in
    second_is (drawing_in c.args.sheet.now) (box_rect c.args.figure.now) c.args.side c.cells.step k c.beside-place.result c.beside-place.ensures.cell c.cells.invariant.only less first (c.is_port.ensures.0 c.if-is_port.true)

pub returns : goal.returns
returns c = no_second (drawing_in c.args.sheet.now) (box_rect c.args.figure.now) c.args.side c.cells.step (omega (arith, c.length_of-step-end.ensures)) c.cells.invariant.only
