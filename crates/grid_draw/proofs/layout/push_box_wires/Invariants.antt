use Rattle.std.proofs.Common.{◌≡◌, ◌++◌, map, drop}
use Rattle.two_d.specs.Programs.{box_of}
use Rattle.grid_draw.specs.Layout.{box_wires}
use Rattle.grid_draw.specs.inner.Layouts.{wire_of}
use Rattle.grid_draw.proofs.layout.push_box_wires.Given as goal

abbrev pub invariant-loop-b : goal.invariant-loop-b
invariant-loop-b l =
    map wire_of l.wires.items ++ box_wires l.b (map box_of (drop l.b l.boxes))
    ≡ map wire_of l.initial.wires.items ++ box_wires 0 (map box_of l.boxes)
