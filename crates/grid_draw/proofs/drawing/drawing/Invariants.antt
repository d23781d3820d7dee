use Rattle.std.proofs.Common.{◌≡◌, ◌++◌, drop}
use Rattle.two_d.specs.Programs.{modules_of}
use Rattle.grid_draw.specs.Layout.{drawing_of}
use Rattle.grid_draw.proofs.drawing.drawing.Given as goal

abbrev pub invariant-loop-one : goal.invariant-loop-one
invariant-loop-one l =
    l.text.items ++ drawing_of (modules_of (drop l.one-index l.modules)) ≡ drawing_of (modules_of l.modules)
