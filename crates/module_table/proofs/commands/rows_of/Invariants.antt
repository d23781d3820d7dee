-- The commands so far were read.
use Rattle.std.specs.Prelude.{List, take, Ok, All}
use Rattle.grid_reader.specs.Boxes.{box_rects, HasTextOf}
use Rattle.two_d.specs.Cells.{Grid}
use Rattle.two_d.specs.Program.{CommandOf}
use Rattle.two_d.specs.Reading.{each}
use Rattle.two_d.specs.Trees.{Form}
use Rattle.module_table.specs.inner.Drawings.{AreBare}
use Rattle.module_table.proofs.commands.rows_of.Given as goal

abbrev pub invariant-boxes : goal.invariant-boxes
invariant-boxes l = (grid : Grid) → All (HasTextOf grid) l.boxes.items → (commands : List Form) × each (CommandOf grid) (take l.number (box_rects l.boxes)) (Ok commands) × AreBare l.rows.items commands
