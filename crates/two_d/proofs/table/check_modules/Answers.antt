-- Modules are well until one isn't.
use Rattle.std.proofs.Common.{arith, sym, subst, ap, ◌∙◌}
use Rattle.std.proofs.lemmas.List.{length-map}
use Rattle.std.proofs.lemmas.Result.{err_from_is_err_and}
use Rattle.std.specs.Prelude.{map, Ok}
use Rattle.two_d.specs.Programs.{modules_of, module_of, box_of}
use Rattle.two_d.specs.Reading.{Refuses}
use Rattle.two_d.specs.inner.TableParts.{boxes_of, all_boxes_of}
use Rattle.two_d.specs.inner.TableFaults.{wrong_of}
use Rattle.two_d.proofs.TableLemmas.{module_there, goes_on_first, goes_on_next, stops_at, goes_on_end, refuses_through}
use Rattle.two_d.proofs.table.check_modules.Goals as goal

pub loop-number-init : goal.loop-number-init
loop-number-init c = goes_on_first (λ m one. boxes_of (modules_of c.args.modules.now) m one.boxes) (modules_of c.args.modules.now)

pub loop-number-preserved : goal.loop-number-preserved
loop-number-preserved c =
    let P = modules_of c.args.modules.now in
    goes_on_next (λ m one. boxes_of P m one.boxes) P c.loop-number.number (module_of c.index-modules-number.result)
    (module_there c.args.modules.now c.loop-number.number c.index-modules-number.result (omega arith) c.index-modules-number.is)
    (subst (λ rows. boxes_of P c.loop-number.number (map box_of rows) (Ok tt)) (c.deref.ensures.value ∙ ap (λ x. x.boxes.items) (sym c.index-modules-number.is)) c.in_ok-check_boxes.ensures) c.loop-number.invariant

pub returns-in_err-check_boxes : goal.returns-in_err-check_boxes
returns-in_err-check_boxes c =
    let P = modules_of c.args.modules.now in
    let p = err_from_is_err_and c.from_residual.result c.from_residual.ensures.1 in
    rw (p.1, p.2) (refuses_through (wrong_of c.in_err-check_boxes.field-0.0)
    (boxes_of P c.loop-number.number (module_of c.index-modules-number.result).boxes) (all_boxes_of P)
    (stops_at (λ m one. boxes_of P m one.boxes) P c.loop-number.number (module_of c.index-modules-number.result)
    (module_there c.args.modules.now c.loop-number.number c.index-modules-number.result (omega arith) c.index-modules-number.is) c.loop-number.invariant)
    (subst (λ rows. Refuses (boxes_of P c.loop-number.number (map box_of rows)) (wrong_of c.in_err-check_boxes.field-0.0)) (c.deref.ensures.value ∙ ap (λ x. x.boxes.items) (sym c.index-modules-number.is)) c.in_err-check_boxes.ensures))

pub returns : goal.returns
returns c =
    goes_on_end (λ m one. boxes_of (modules_of c.args.modules.now) m one.boxes) (modules_of c.args.modules.now) c.loop-number.number (omega (arith, length-map c.args.modules.now module_of)) c.loop-number.invariant
