use Rattle.std.proofs.Common.{◌≡◌, length, slice_get, Some, refl, ◌∙◌, arith}
use Rattle.std.proofs.lemmas.List.{length-map}
use Rattle.std.proofs.lemmas.Option.{slice_get_read}
use Rattle.std.proofs.lemmas.Result.{err_from_is_err_and}
use Rattle.two_d.specs.Programs.{modules_of, module_of}
use Rattle.two_d.specs.Reading.{each_from}
use Rattle.two_d.proofs.TableLemmas.{module_there, goes_on_first, goes_on_next, stops_at, goes_on_end, refuses_through, sound_at}
use Rattle.type_sheet.specs.Sheets.{fault_of}
use Rattle.type_sheet.specs.Fits.{lines_there}
use Rattle.type_sheet.proofs.fitting.check_lines.Goals as goal

pub loop-number-init : goal.loop-number-init
loop-number-init c = goes_on_first (lines_there c.args.declared.now.rows.now) (modules_of c.args.modules.now)

pub loop-number-preserved : goal.loop-number-preserved
loop-number-preserved c =
    goes_on_next (lines_there c.args.declared.now.rows.now) (modules_of c.args.modules.now) c.loop-number.number (module_of c.index-modules-number.result)
    (module_there c.args.modules.now c.loop-number.number c.index-modules-number.result (omega arith) c.index-modules-number.is) c.in_ok-check_module_lines.ensures c.loop-number.invariant

pub returns-in_err-check_module_lines : goal.returns-in_err-check_module_lines
returns-in_err-check_module_lines c =
    let p = err_from_is_err_and c.from_residual.result c.from_residual.ensures.1 in
    let m = module_of c.index-modules-number.result in
    rw (p.1, p.2) (refuses_through (fault_of c.in_err-check_module_lines.field-0.0) (lines_there c.args.declared.now.rows.now c.loop-number.number m)
    (each_from (lines_there c.args.declared.now.rows.now) 0 (modules_of c.args.modules.now))
    (stops_at (lines_there c.args.declared.now.rows.now) (modules_of c.args.modules.now) c.loop-number.number m
    (module_there c.args.modules.now c.loop-number.number c.index-modules-number.result (omega arith) c.index-modules-number.is) c.loop-number.invariant)
    c.in_err-check_module_lines.ensures)

pub check_module_lines-requires-clause-wired : goal.check_module_lines-requires-clause-wired
check_module_lines-requires-clause-wired c =
    let i = c.loop-number.number in
    let w = c.index-wired-number.result in
    let many : length c.args.wired.now ≡ length c.args.modules.now = c.requires.wired.many ∙ length-map c.args.modules.now module_of in
    let at : slice_get c.args.wired.now i ≡ Some w = slice_get_read c.args.wired.now (length c.args.wired.now) i w refl (omega (arith, many)) c.index-wired-number.is in
    c.requires.wired.each i w (module_of c.index-modules-number.result) at (module_there c.args.modules.now i c.index-modules-number.result (omega arith) c.index-modules-number.is)

pub check_module_lines-requires-clause-few : goal.check_module_lines-requires-clause-few
check_module_lines-requires-clause-few c =
    (sound_at c.args.modules.now c.loop-number.number c.index-modules-number.result (omega arith) c.index-modules-number.is c.requires.sound).few_boxes

pub returns : goal.returns
returns c =
    goes_on_end (lines_there c.args.declared.now.rows.now) (modules_of c.args.modules.now) c.loop-number.number (omega (arith, length-map c.args.modules.now module_of)) c.loop-number.invariant
