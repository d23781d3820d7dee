use Rattle.std.proofs.Common.{◌≡◌, ℕ, ◌<◌, ◌≤◌, true, false}
use Rattle.grid_reader.specs.Boxes.{box_rect}
use Rattle.wire_trace.specs.inner.Sheets.{drawing_in}
use Rattle.wire_trace.specs.inner.Sides.{IsPort, side_cell}
use Rattle.wire_trace.proofs.sides.second_port.Given as goal

abbrev pub invariant-cells : goal.invariant-cells
invariant-cells l = record {
  from : 1 ≤ l.step;
  one : l.has_one ≡ true → (k : ℕ) × (0 < k) × (k < l.step) × IsPort (drawing_in l.sheet) (box_rect l.figure) l.side (side_cell (box_rect l.figure) l.side k);
  only : (j k : ℕ) → 0 < j → j < k → k < l.step → IsPort (drawing_in l.sheet) (box_rect l.figure) l.side (side_cell (box_rect l.figure) l.side j) → IsPort (drawing_in l.sheet) (box_rect l.figure) l.side (side_cell (box_rect l.figure) l.side k) → ⊥;
  none : l.has_one ≡ false → (k : ℕ) → 0 < k → k < l.step → IsPort (drawing_in l.sheet) (box_rect l.figure) l.side (side_cell (box_rect l.figure) l.side k) → ⊥;
}
