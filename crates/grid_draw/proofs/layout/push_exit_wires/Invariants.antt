use Rattle.std.proofs.Common.{◌≡◌, ◌++◌, map, drop}
use Rattle.grid_draw.specs.Layout.{exit_wires}
use Rattle.grid_draw.specs.inner.Layouts.{wire_of}
use Rattle.grid_draw.proofs.layout.push_exit_wires.Given as goal

abbrev pub invariant-loop-i : goal.invariant-loop-i
invariant-loop-i l =
    map wire_of l.wires.items ++ exit_wires l.i (drop l.i l.exits) ≡ map wire_of l.initial.wires.items ++ exit_wires 0 l.exits
