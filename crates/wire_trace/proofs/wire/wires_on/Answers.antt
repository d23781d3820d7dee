use Rattle.std.proofs.Common.{sym, subst}
use Rattle.std.specs.Prelude.{⊤}
use Rattle.std.proofs.lemmas.Result.{err_from_is_err_and}
use Rattle.umix_base.specs.declared.place.Place.{Place}
use Rattle.wire_trace.specs.Answers.{wire_fault_of}
use Rattle.wire_trace.specs.inner.Sheets.{drawing_in}
use Rattle.wire_trace.specs.inner.Starts.{HasStarts}
use Rattle.wire_trace.proofs.WiresRead.{port_refused, wire_refused, stray_refused_in, wires_read}
use Rattle.wire_trace.proofs.wire.wires_on.Goals as goal

pub returns-in_err-one_port_a_side : goal.returns-in_err-one_port_a_side
returns-in_err-one_port_a_side c =
    let p = err_from_is_err_and c.from_residual.result c.from_residual.ensures.1 in
    rw (p.1, p.2) (port_refused (drawing_in c.args.sheet.now) (wire_fault_of c.in_err-one_port_a_side.field-0.0) c.in_err-one_port_a_side.ensures)

pub returns-in_err-wires : goal.returns-in_err-wires
returns-in_err-wires c =
    let p = err_from_is_err_and c.from_residual-in_err-wires.result c.from_residual-in_err-wires.ensures.1 in
    let has = subst (HasStarts (drawing_in c.args.sheet.now) (λ (_ : Place). ⊤)) (sym c.deref.ensures.value) c.in_ok-starts.ensures in
    rw (p.1, p.2) (wire_refused (drawing_in c.args.sheet.now) c.deref.result.now (wire_fault_of c.in_err-wires.field-0.0) c.in_ok-one_port_a_side.ensures has c.in_err-wires.ensures.answers)

pub returns-in_err-no_stray : goal.returns-in_err-no_stray
returns-in_err-no_stray c =
    let p = err_from_is_err_and c.from_residual-in_err-no_stray.result c.from_residual-in_err-no_stray.ensures.1 in
    let has = subst (HasStarts (drawing_in c.args.sheet.now) (λ (_ : Place). ⊤)) (sym c.deref.ensures.value) c.in_ok-starts.ensures in
    rw (p.1, p.2) (stray_refused_in (drawing_in c.args.sheet.now) c.deref.result.now c.trace_all.new.marks c.in_ok-wires.wires (wire_fault_of c.in_err-no_stray.field-0.0) c.in_ok-one_port_a_side.ensures has c.in_ok-wires.ensures.answers c.in_err-no_stray.ensures)

pub returns : goal.returns
returns c =
    let has = subst (HasStarts (drawing_in c.args.sheet.now) (λ (_ : Place). ⊤)) (sym c.deref.ensures.value) c.in_ok-starts.ensures in
    wires_read (drawing_in c.args.sheet.now) c.deref.result.now c.trace_all.new.marks c.in_ok-wires.wires c.in_ok-one_port_a_side.ensures has c.in_ok-wires.ensures.answers c.in_ok-no_stray.ensures
