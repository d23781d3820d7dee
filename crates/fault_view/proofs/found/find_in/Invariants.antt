-- No box of the module so far has the corner.
use Rattle.std.specs.Prelude.{◌<◌, ℕ, List}
use Rattle.two_d.specs.Program.{Drawn}
use Rattle.module_table.specs.Drawn.{AreModulesRead}
use Rattle.fault_view.specs.Subjects.{IsBoxAt}
use Rattle.fault_view.proofs.found.find_in.Given as goal

abbrev pub invariant-loop-bx : goal.invariant-loop-bx
invariant-loop-bx l =
    (ds : List Drawn) → AreModulesRead l.drawn ds → (b : ℕ) → b < l.bx → IsBoxAt ds l.corner (l.number, b) → ⊥
