-- The corners of the boxes so far.
use Rattle.std.specs.Prelude.{◌≡◌, map, take}
use Rattle.two_d.specs.Places.{corner_of}
use Rattle.grid_reader.specs.Boxes.{box_rect}
use Rattle.module_table.proofs.corners.corners_of.Given as goal

abbrev pub invariant-boxes : goal.invariant-boxes
invariant-boxes l = l.corners.items ≡ map corner_of (map box_rect (take l.number l.boxes.items))
