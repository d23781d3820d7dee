-- Wire by wire an origin is written.
use Rattle.std.specs.Prelude.{◌≡◌, ◌<◌, map, length, Some, None}
use Rattle.std.proofs.Common.{arith, refl, sym, ◌∙◌}
use Rattle.std.proofs.lemmas.List.{length-map}
use Rattle.std.proofs.lemmas.Option.{slice_get_within, get_or_from_slice_get}
use Rattle.two_d.specs.Programs.{BoxForm, box_of}
use Rattle.wire_trace.specs.Answers.{forms_of}
use Rattle.wire_trace.specs.declared.wire.Wire.{Wire}
use Rattle.module_table.proofs.Building.{connected_none, connected_more, built_whole, there_same, as_many_boxes}
use Rattle.module_table.proofs.Telling.{mapped_there}
use Rattle.module_table.proofs.shape.module_from.Goals as goal

pub wires-init : goal.wires-init
wires-init c =
    let (commands, same) = c.requires.bare in
    connected_none (forms_of c.args.wires.now) commands (map box_of c.args.rows.items) c.resize.new.self.items (length c.args.frame.now.exits.items) same
    (let long = c.in_ok-resize.ensures.len in omega arith)
    (λ i o at_i. let lt = slice_get_within c.resize.new.self.items i (Some o) at_i in let none = c.in_ok-resize.ensures.by_index.1 i None refl (omega arith) (let long = c.in_ok-resize.ensures.len in omega arith) in
    let some = get_or_from_slice_get c.resize.new.self.items i (Some o) None at_i in cc)

pub connect-requires : goal.connect-requires
connect-requires c =
    let items = c.args.wires.now.items in
    let n = c.wires.number in
    let w = c.index.result.now in
    let lt : n < length items = omega arith in
    let there = c.requires.ends.there n (record { from = w.from; to = w.to }) (mapped_there (λ (w : Wire). record { from = w.from; to = w.to }) items n w lt c.index.ensures) in
    there_same (length c.args.rows.items) (length c.args.frame.now.exits.items) (length c.wires.boxes.items) (length c.wires.exits.items) w.to
    (sym (length-map c.args.rows.items box_of) ∙ (as_many_boxes (map box_of c.args.rows.items) (map box_of c.wires.boxes.items) (sym c.wires.invariant.commands_are) ∙ length-map c.wires.boxes.items box_of))
    (sym c.wires.invariant.as_many) there

pub wires-preserved : goal.wires-preserved
wires-preserved c =
    let items = c.args.wires.now.items in
    let n = c.wires.number in
    let w = c.index.result.now in
    let lt : n < length items = omega arith in
    connected_more (forms_of c.args.wires.now) (map (λ (row : BoxForm). row.command) (map box_of c.args.rows.items)) (length c.args.frame.now.exits.items) n
    (map box_of c.wires.boxes.items) (map box_of c.connect.new.boxes.items) c.wires.exits.items c.connect.new.exits.items (record { from = w.from; to = w.to }) (length c.args.rows.items) (length c.args.frame.now.exits.items)
    c.requires.ends (mapped_there (λ (w : Wire). record { from = w.from; to = w.to }) items n w lt c.index.ensures) c.wires.invariant c.connect.ensures

pub returns : goal.returns
returns c =
    let long : length (forms_of c.args.wires.now) ≡ length c.args.wires.now.items = length-map c.args.wires.now.items (λ (w : Wire). record { from = w.from; to = w.to }) in
    built_whole c.args.frame.now c.args.name (map box_of c.args.rows.items) (forms_of c.args.wires.now) c.wires.number _ (omega arith) c.wires.invariant refl c.is_some.ensures c.is_some-2.ensures
