use Rattle.std.specs.Prelude.{is_some, not}
use Rattle.std.proofs.Common.{◌≡◌, true, false, List, ◌∙◌, ap, subst}
use Rattle.two_d.specs.Programs.{module_of, box_of}
use Rattle.two_d.specs.Reading.{stops, each_from, Gives}
use Rattle.two_d.specs.declared.module.BoxRow.{BoxRow}
use Rattle.type_sheet.specs.declared.fault.At.TheVariants.{Module as in_module, Bx}
use Rattle.type_sheet.specs.declared.fault.SheetFault.TheVariants.{NoLine}
use Rattle.type_sheet.specs.Said.{module_line}
use Rattle.type_sheet.specs.Sheets.{fault_of}
use Rattle.type_sheet.specs.Fits.{has_lines, want}
use Rattle.type_sheet.specs.inner.Subjects.{types_read}
use Rattle.type_sheet.proofs.Wanting.{wanted-ok, wanted-err, gives-through, gives-behind, each-map, some-read}
use Rattle.type_sheet.proofs.fitting.check_module_lines.Goals as goal

pub returns-then-is_none : goal.returns-then-is_none
returns-then-is_none c =
    let rows = c.args.declared.now.rows.now in
    let line = c.module.ensures ∙ ap (module_line rows) c.bytes.ensures.bytes in
    let none : is_some c.module.result ≡ false = c.is_none.ensures ∙ ap not c.if-is_none.true in
    stops (NoLine (in_module c.args.number)) (wanted-err (NoLine (in_module c.args.number)) (is_some (module_line rows c.args.module.now.name))
    (some-read types_read c.module.result (module_line rows c.args.module.now.name) false line none))

pub returns : goal.returns
returns c =
    let rows = c.args.declared.now.rows.now in
    let m = module_of c.args.module.now in
    let line = c.module.ensures ∙ ap (module_line rows) c.bytes.ensures.bytes in
    let some : is_some c.module.result ≡ true = c.is_none.ensures ∙ ap not c.if-is_none.false in
    let boxes = subst (λ (boxes : List BoxRow). Gives (λ _. tt) fault_of c.check_box_lines.result (each_from (λ b _. want (NoLine (Bx c.args.number b)) (has_lines rows m b)) 0 boxes))
    c.deref.ensures.value c.check_box_lines.ensures in
    gives-behind c.check_box_lines.result (want (NoLine (in_module c.args.number)) (is_some (module_line rows m.name)))
    (each_from (λ b _. want (NoLine (Bx c.args.number b)) (has_lines rows m b)) 0 m.boxes)
    (wanted-ok (NoLine (in_module c.args.number)) (is_some (module_line rows m.name)) (some-read types_read c.module.result (module_line rows m.name) true line some))
    (gives-through c.check_box_lines.result (each_from (λ b _. want (NoLine (Bx c.args.number b)) (has_lines rows m b)) 0 c.args.module.now.boxes.items)
    (each_from (λ b _. want (NoLine (Bx c.args.number b)) (has_lines rows m b)) 0 m.boxes)
    (λ r h. each-map box_of (λ b. want (NoLine (Bx c.args.number b)) (has_lines rows m b)) 0 c.args.module.now.boxes.items r h) boxes)
