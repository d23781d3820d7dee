-- The wires so far are written at their ends.
use Rattle.std.specs.Prelude.{map, length}
use Rattle.two_d.specs.Programs.{box_of}
use Rattle.wire_trace.specs.Answers.{forms_of}
use Rattle.module_table.proofs.Building.{AreConnected}
use Rattle.module_table.proofs.shape.module_from.Given as goal

abbrev pub invariant-wires : goal.invariant-wires
invariant-wires l =
    AreConnected (forms_of l.wires) (map (λ row. row.command) (map box_of l.fn.rows.items)) (length l.frame.exits.items) l.number (map box_of l.boxes.items) l.exits.items
