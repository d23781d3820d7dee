-- No box of the modules so far has the corner.
use Rattle.std.specs.Prelude.{◌<◌, ℕ, List}
use Rattle.two_d.specs.Program.{Drawn}
use Rattle.module_table.specs.Drawn.{AreModulesRead}
use Rattle.fault_view.specs.Subjects.{IsBoxAt}
use Rattle.fault_view.proofs.found.find_box.Given as goal

abbrev pub invariant-loop-number : goal.invariant-loop-number
invariant-loop-number l =
    (ds : List Drawn) → AreModulesRead l.drawn ds → (b : ℕ × ℕ) → b.0 < l.number → IsBoxAt ds l.corner b → ⊥
