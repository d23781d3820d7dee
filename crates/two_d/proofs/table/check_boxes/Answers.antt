-- Boxes are well until one isn't.
use Rattle.std.proofs.Common.{arith}
use Rattle.std.proofs.lemmas.List.{length-map}
use Rattle.std.specs.Prelude.{map}
use Rattle.std.proofs.lemmas.Result.{err_from_is_err_and}
use Rattle.two_d.specs.Programs.{modules_of, box_of}
use Rattle.two_d.specs.Table.{box_faults}
use Rattle.two_d.specs.inner.TableParts.{boxes_of}
use Rattle.two_d.specs.inner.TableFaults.{wrong_of}
use Rattle.two_d.proofs.TableLemmas.{row_there, goes_on_first, goes_on_next, stops_at, goes_on_end, refuses_through}
use Rattle.two_d.proofs.table.check_boxes.Goals as goal

pub loop-bx-init : goal.loop-bx-init
loop-bx-init c = goes_on_first (box_faults (modules_of c.args.modules.now) c.args.number) (map box_of c.args.boxes.now)

pub loop-bx-preserved : goal.loop-bx-preserved
loop-bx-preserved c =
    goes_on_next (box_faults (modules_of c.args.modules.now) c.args.number) (map box_of c.args.boxes.now) c.loop-bx.bx (box_of c.index-boxes-bx.result)
    (row_there c.args.boxes.now c.loop-bx.bx c.index-boxes-bx.result (omega arith) c.index-boxes-bx.is) c.in_ok-check_box.ensures c.loop-bx.invariant

pub returns-in_err-check_box : goal.returns-in_err-check_box
returns-in_err-check_box c =
    let p = err_from_is_err_and c.from_residual.result c.from_residual.ensures.1 in
    rw (p.1, p.2) (refuses_through (wrong_of c.in_err-check_box.field-0.0)
    (box_faults (modules_of c.args.modules.now) c.args.number c.loop-bx.bx (box_of c.index-boxes-bx.result)) (boxes_of (modules_of c.args.modules.now) c.args.number (map box_of c.args.boxes.now))
    (stops_at (box_faults (modules_of c.args.modules.now) c.args.number) (map box_of c.args.boxes.now) c.loop-bx.bx (box_of c.index-boxes-bx.result)
    (row_there c.args.boxes.now c.loop-bx.bx c.index-boxes-bx.result (omega arith) c.index-boxes-bx.is) c.loop-bx.invariant)
    c.in_err-check_box.ensures)

pub returns : goal.returns
returns c = goes_on_end (box_faults (modules_of c.args.modules.now) c.args.number) (map box_of c.args.boxes.now) c.loop-bx.bx (omega (arith, length-map c.args.boxes.now box_of)) c.loop-bx.invariant
