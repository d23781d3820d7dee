use Rattle.std.proofs.Common.{◌≡◌, length, slice_get, Some, refl, sym, arith, subst}
use Rattle.std.proofs.lemmas.Option.{slice_get_read, slice_get_within, get_or_from_slice_get}
use Rattle.std.proofs.lemmas.Result.{err_from_is_err_and}
use Rattle.two_d.specs.Programs.{module_at, module_of, no_module}
use Rattle.two_d.specs.Reading.{each_from}
use Rattle.two_d.specs.Sound.{IsKeptOrder, IsSound}
use Rattle.two_d.proofs.TableLemmas.{goes_on_next, stops_at, goes_on_end, refuses_through}
use Rattle.type_sheet.specs.Sheets.{fault_of}
use Rattle.type_sheet.specs.Fits.{module_fits}
use Rattle.type_sheet.proofs.fitting.check_rules.Goals as goal

pub loop-number-preserved : goal.loop-number-preserved
loop-number-preserved c =
    goes_on_next (module_fits c.args.declared.now.rows.now) c.args.program.now c.loop-number.number (module_of c.module_at.result.now)
    c.module_at.ensures c.in_ok-check_module.ensures c.loop-number.invariant

pub returns-in_err-check_module : goal.returns-in_err-check_module
returns-in_err-check_module c =
    let p = err_from_is_err_and c.from_residual.result c.from_residual.ensures.1 in
    let m = module_of c.module_at.result.now in
    rw (p.1, p.2) (refuses_through (fault_of c.in_err-check_module.field-0.0) (module_fits c.args.declared.now.rows.now c.loop-number.number m)
    (each_from (module_fits c.args.declared.now.rows.now) 0 c.args.program.now)
    (stops_at (module_fits c.args.declared.now.rows.now) c.args.program.now c.loop-number.number m c.module_at.ensures c.loop-number.invariant)
    c.in_err-check_module.ensures)

pub check_module-requires-clause-wired : goal.check_module-requires-clause-wired
check_module-requires-clause-wired c =
    let i = c.loop-number.number in
    let w = c.index-wired-number.result in
    let at : slice_get c.args.wired.now i ≡ Some w = slice_get_read c.args.wired.now (length c.args.wired.now) i w refl (omega (arith, c.requires.wired.many, c.module_count-number-end.ensures.count)) c.index-wired-number.is in
    c.requires.wired.each i w (module_of c.module_at.result.now) at c.module_at.ensures

pub returns : goal.returns
returns c =
    goes_on_end (module_fits c.args.declared.now.rows.now) c.args.program.now c.loop-number.number (omega (arith, c.module_count-number-end.ensures.count)) c.loop-number.invariant

pub check_module-requires-clause-few : goal.check_module-requires-clause-few
check_module-requires-clause-few c =
    (subst IsSound (get_or_from_slice_get c.args.program.now c.loop-number.number (module_of c.module_at.result.now) (module_of c.module_at.result.now) c.module_at.ensures)
    (c.module_count-number-end.ensures.good.sound c.loop-number.number (module_of c.module_at.result.now)
    (slice_get_within c.args.program.now c.loop-number.number (module_of c.module_at.result.now) c.module_at.ensures))).few_boxes

pub check_module-requires-clause-kept : goal.check_module-requires-clause-kept
check_module-requires-clause-kept c =
    let same = get_or_from_slice_get c.args.program.now c.loop-number.number (module_of c.module_at.result.now) no_module c.module_at.ensures in
    subst (λ m. IsKeptOrder m c.deref.result.now) same (subst (λ order. IsKeptOrder (module_at c.args.program.now c.loop-number.number) order) (sym c.deref.ensures.value) c.order.ensures)
