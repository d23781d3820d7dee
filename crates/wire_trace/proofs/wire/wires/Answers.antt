use Rattle.std.proofs.Common.{Ok, map, subst, sym}
use Rattle.two_d.specs.Boxes.{boxes_of}
use Rattle.grid_reader.specs.Boxes.{box_rect}
use Rattle.grid_reader.specs.Frames.{rect_of}
use Rattle.wire_trace.proofs.SheetLemmas.{is_sheet}
use Rattle.wire_trace.proofs.wire.wires.Goals as goal

pub wires_on-requires : goal.wires_on-requires
wires_on-requires c =
    is_sheet _ c.cell.ensures.small c.requires.frame c.requires.entries
    (subst (λ boxes. boxes_of c.args.grid.now (rect_of c.args.frame.now) (Ok (map box_rect boxes))) (sym c.deref.ensures.value) c.requires.boxes)
