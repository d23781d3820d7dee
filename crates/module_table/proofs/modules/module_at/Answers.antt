-- Name, boxes, commands, wires, and the module that they make.
use Rattle.std.specs.Prelude.{◌≡◌, length, Ok, Err}
use Rattle.std.proofs.Common.{refl, ap, subst}
use Rattle.std.proofs.lemmas.Result.{err_from_is_err_and}
use Rattle.grid_reader.specs.Boxes.{box_rects}
use Rattle.grid_reader.specs.Faults.{fault_of}
use Rattle.grid_reader.specs.Frames.{rect_of}
use Rattle.two_d.specs.Boxes.{boxes_of}
use Rattle.two_d.specs.Clean.{wires_of}
use Rattle.two_d.specs.Faults.{number_and_place}
use Rattle.two_d.specs.Frames.{name_of}
use Rattle.two_d.specs.Program.{CommandOf, module_in}
use Rattle.two_d.specs.Programs.{module_of}
use Rattle.two_d.specs.Reading.{goes_on, stops, each}
use Rattle.wire_trace.specs.Answers.{drawing_of, forms_of, wire_fault_of}
use Rattle.module_table.specs.Answers.{answer_of}
use Rattle.module_table.proofs.ModuleAt.{part_refused, roomy_boxes, text_boxes, ends_of_module, module_gave}
use Rattle.module_table.proofs.Telling.{refuses_whole}
use Rattle.module_table.proofs.modules.module_at.Goals as goal

pub returns-in_err-name : goal.returns-in_err-name
returns-in_err-name c =
    let p = err_from_is_err_and c.from_residual.result c.from_residual.ensures.1 in
    let f = rect_of c.args.frame.now in
    rw p.1 (part_refused (fault_of c.in_err-name.field-0.0) (answer_of p.0) (name_of c.args.grid.now f) (module_in c.args.grid.now f) (λ fault h. stops fault h) p.2 c.in_err-name.ensures)

pub returns-in_err-boxes : goal.returns-in_err-boxes
returns-in_err-boxes c =
    let p = err_from_is_err_and c.from_residual-in_err-boxes.result c.from_residual-in_err-boxes.ensures.1 in
    let f = rect_of c.args.frame.now in
    rw p.1 (part_refused (fault_of c.in_err-boxes.field-0.0) (answer_of p.0) (boxes_of c.args.grid.now f) (module_in c.args.grid.now f) (λ fault h. goes_on c.in_ok-name.name c.in_ok-name.ensures (stops fault h)) p.2 c.in_err-boxes.ensures.read)

pub rows_of-requires : goal.rows_of-requires
rows_of-requires c = roomy_boxes c.args.grid.now (rect_of c.args.frame.now) c.in_ok-boxes.boxes.items c.in_ok-boxes.ensures.shown

pub returns-in_err-rows : goal.returns-in_err-rows
returns-in_err-rows c =
    let p = err_from_is_err_and c.from_residual-in_err-rows.result c.from_residual-in_err-rows.ensures.1 in
    let f = rect_of c.args.frame.now in
    rw (p.1, p.2) (refuses_whole number_and_place (answer_of c.in_err-rows.field-0.0) (each (CommandOf c.args.grid.now) (box_rects c.in_ok-boxes.boxes)) (module_in c.args.grid.now f)
    (λ fault h. goes_on c.in_ok-name.name c.in_ok-name.ensures (goes_on (box_rects c.in_ok-boxes.boxes) c.in_ok-boxes.ensures.read (stops fault h)))
    (c.in_err-rows.ensures c.args.grid.now (text_boxes c.args.grid.now f c.in_ok-boxes.boxes.items c.in_ok-boxes.ensures.shown)))

pub returns-in_err-wires : goal.returns-in_err-wires
returns-in_err-wires c =
    let p = err_from_is_err_and c.from_residual-in_err-wires.result c.from_residual-in_err-wires.ensures.1 in
    let f = rect_of c.args.frame.now in
    let name = c.in_ok-name.name in
    let boxes = c.in_ok-boxes.boxes in
    let long : length c.bytes.result.now ≡ length name = ap length c.bytes.ensures.bytes in
    let (commands, told, bares) = c.in_ok-rows.ensures c.args.grid.now (text_boxes c.args.grid.now (rect_of c.args.frame.now) boxes.items c.in_ok-boxes.ensures.shown) in
    rw p.1 (part_refused (wire_fault_of c.in_err-wires.field-0.0) (answer_of p.0) (wires_of (drawing_of c.args.grid.now c.args.frame.now (length c.bytes.result.now) boxes)) (module_in c.args.grid.now f)
    (λ fault h. goes_on name c.in_ok-name.ensures (goes_on (box_rects boxes) c.in_ok-boxes.ensures.read (goes_on commands told
    (stops fault (subst (λ n. wires_of (drawing_of c.args.grid.now c.args.frame.now n boxes) (Err fault)) long h))))) p.2 c.in_err-wires.ensures)

pub module_from-requires-clause-bare : goal.module_from-requires-clause-bare
module_from-requires-clause-bare c =
    let (commands, told, bares) = c.in_ok-rows.ensures c.args.grid.now (text_boxes c.args.grid.now (rect_of c.args.frame.now) c.in_ok-boxes.boxes.items c.in_ok-boxes.ensures.shown) in
    (commands, bares)

pub module_from-requires-clause-ends : goal.module_from-requires-clause-ends
module_from-requires-clause-ends c =
    let name = c.in_ok-name.name in
    let boxes = c.in_ok-boxes.boxes in
    let long : length c.bytes.result.now ≡ length name = ap length c.bytes.ensures.bytes in
    let (commands, told, bares) = c.in_ok-rows.ensures c.args.grid.now (text_boxes c.args.grid.now (rect_of c.args.frame.now) boxes.items c.in_ok-boxes.ensures.shown) in
    ends_of_module c.args.grid.now c.args.frame.now c.requires.shown name (box_rects boxes) c.in_ok-boxes.ensures.read commands told c.in_ok-rows.rows.items bares (forms_of c.in_ok-wires.wires)
    (subst (λ n. wires_of (drawing_of c.args.grid.now c.args.frame.now n boxes) (Ok (forms_of c.in_ok-wires.wires))) long c.in_ok-wires.ensures)

pub returns : goal.returns
returns c =
    let name = c.in_ok-name.name in
    let boxes = c.in_ok-boxes.boxes in
    let m = module_of c.in_ok-module.module in
    let long : length c.bytes.result.now ≡ length name = ap length c.bytes.ensures.bytes in
    let (commands, told, bares) = c.in_ok-rows.ensures c.args.grid.now (text_boxes c.args.grid.now (rect_of c.args.frame.now) boxes.items c.in_ok-boxes.ensures.shown) in (
      record { shape = m; frame = rect_of c.args.frame.now; boxes = box_rects boxes },
      module_gave c.args.grid.now c.args.frame.now c.requires.shown name (box_rects boxes) c.in_ok-boxes.ensures.read commands told c.in_ok-rows.rows.items bares (forms_of c.in_ok-wires.wires)
          (subst (λ n. wires_of (drawing_of c.args.grid.now c.args.frame.now n boxes) (Ok (forms_of c.in_ok-wires.wires))) long c.in_ok-wires.ensures) c.in_ok-name.ensures m c.in_ok-module.ensures,
      record { shape = refl; frame = c.in_ok-corners.ensures.frame; boxes = c.in_ok-corners.ensures.boxes },
    )
