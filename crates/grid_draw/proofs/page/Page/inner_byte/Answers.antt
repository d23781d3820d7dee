use Rattle.std.proofs.Common.{◌≡◌, ℕ, ◌-◌, ◌/◌, ◌%◌, ◌≤◌, length, ◌∙◌, ap, sym, arith}
use Rattle.grid_draw.specs.inner.Pages.{module_on}
use Rattle.grid_draw.proofs.LayoutNumbers.{counts}
use Rattle.grid_draw.proofs.PageBytes.{inner_at_box, inner_past_boxes, wires_are}
use Rattle.grid_draw.proofs.page.Page.inner_byte.Goals as goal

pub returns-then-b-len : goal.returns-then-b-len
returns-then-b-len c =
    let n = counts c.args.self.now.layout.now c.requires.page.layout.layout in
    let wires = wires_are c.args.self.now c.requires.page c.args.row c.args.col c.byte-wires.result c.requires.row c.requires.col c.byte-wires.ensures in
    inner_at_box (module_on c.args.self.now) c.args.row c.args.col c.byte-wires.result c.box_byte.result wires c.if-row-lt3.false
    (omega (arith, n.boxes, c.if-b-len.true, c.len.ensures, c.args.self.now.layout.now.module.now.boxes.ok)) c.box_byte.ensures

pub returns-else-b-len : goal.returns-else-b-len
returns-else-b-len c =
    let n = counts c.args.self.now.layout.now c.requires.page.layout.layout in
    let wires = wires_are c.args.self.now c.requires.page c.args.row c.args.col c.byte-wires.result c.requires.row c.requires.col c.byte-wires.ensures in
    inner_past_boxes (module_on c.args.self.now) c.args.row c.args.col c.byte-wires.result wires c.if-row-lt3.false
    (omega (arith, n.boxes, c.if-b-len.false, c.len.ensures, c.args.self.now.layout.now.module.now.boxes.ok))
