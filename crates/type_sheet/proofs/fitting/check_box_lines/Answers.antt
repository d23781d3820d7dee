use Rattle.std.proofs.Common.{sym, ◌∙◌, arith}
use Rattle.two_d.specs.Programs.{module_of}
use Rattle.two_d.proofs.TableLemmas.{goes_on_next, stops_at, goes_on_end}
use Rattle.type_sheet.specs.declared.fault.At.TheVariants.{Bx}
use Rattle.type_sheet.specs.declared.fault.SheetFault.TheVariants.{NoLine}
use Rattle.type_sheet.specs.Fits.{has_lines, want}
use Rattle.type_sheet.proofs.Outs.{some-at}
use Rattle.type_sheet.proofs.Wanting.{wanted-ok, wanted-err}
use Rattle.type_sheet.proofs.fitting.check_box_lines.Goals as goal

pub loop-bx-preserved : goal.loop-bx-preserved
loop-bx-preserved c =
    let m = module_of c.args.module.now in
    let rows = c.args.declared.now.rows.now in
    let (row, at) = some-at c.args.boxes.now c.loop-bx.bx (omega arith) in
    goes_on_next (λ b _. want (NoLine (Bx c.args.number b)) (has_lines rows m b)) c.args.boxes.now c.loop-bx.bx row at
    (wanted-ok (NoLine (Bx c.args.number c.loop-bx.bx)) (has_lines rows m c.loop-bx.bx) (sym c.has_lines.ensures ∙ c.if-not-has_lines.false)) c.loop-bx.invariant

pub returns-then-not-has_lines : goal.returns-then-not-has_lines
returns-then-not-has_lines c =
    let m = module_of c.args.module.now in
    let rows = c.args.declared.now.rows.now in
    let (row, at) = some-at c.args.boxes.now c.loop-bx.bx (omega arith) in
    stops_at (λ b _. want (NoLine (Bx c.args.number b)) (has_lines rows m b)) c.args.boxes.now c.loop-bx.bx row at c.loop-bx.invariant (NoLine (Bx c.args.number c.loop-bx.bx))
    (wanted-err (NoLine (Bx c.args.number c.loop-bx.bx)) (has_lines rows m c.loop-bx.bx) (sym c.has_lines.ensures ∙ c.if-not-has_lines.true))

pub returns : goal.returns
returns c =
    goes_on_end (λ b _. want (NoLine (Bx c.args.number b)) (has_lines c.args.declared.now.rows.now (module_of c.args.module.now) b)) c.args.boxes.now c.loop-bx.bx (omega arith) c.loop-bx.invariant
