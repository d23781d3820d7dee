-- The modules so far were read.
use Rattle.std.specs.Prelude.{List, take, Ok}
use Rattle.grid_reader.specs.Frames.{rects_of}
use Rattle.two_d.specs.Program.{Drawn, module_in}
use Rattle.two_d.specs.Reading.{each}
use Rattle.module_table.specs.Drawn.{AreModulesRead}
use Rattle.module_table.proofs.modules.modules_in.Given as goal

abbrev pub invariant-frames : goal.invariant-frames
invariant-frames l = (ds : List Drawn) × each (module_in l.grid) (take l.number (rects_of l.frames)) (Ok ds) × AreModulesRead (record { modules = l.modules; corners = l.corners }) ds
