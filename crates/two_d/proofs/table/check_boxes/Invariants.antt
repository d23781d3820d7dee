-- The boxes so far are well.
use Rattle.std.specs.Prelude.{map}
use Rattle.two_d.specs.Programs.{modules_of, box_of}
use Rattle.two_d.specs.Table.{box_faults}
use Rattle.two_d.proofs.TableLemmas.{GoesOnAt}
use Rattle.two_d.proofs.table.check_boxes.Given as goal

abbrev pub invariant-loop-bx : goal.invariant-loop-bx
invariant-loop-bx l = GoesOnAt (box_faults (modules_of l.modules) l.number) (map box_of l.boxes) l.bx
