-- The commands so far can be written.
use Rattle.std.specs.Prelude.{All, take}
use Rattle.two_d.specs.Trees.{IsWithin, form_of}
use Rattle.two_d.proofs.soundness.are_within.Given as goal

abbrev pub invariant-loop-row : goal.invariant-loop-row
invariant-loop-row l = All (λ row. IsWithin (form_of row.command)) (take l.row-index l.boxes)
