-- No module so far has the corner.
use Rattle.std.specs.Prelude.{◌<◌, ℕ, List}
use Rattle.two_d.specs.Program.{Drawn}
use Rattle.module_table.specs.Drawn.{AreModulesRead}
use Rattle.fault_view.specs.Subjects.{IsModuleAt}
use Rattle.fault_view.proofs.found.find_module.Given as goal

abbrev pub invariant-loop-number : goal.invariant-loop-number
invariant-loop-number l =
    (ds : List Drawn) → AreModulesRead l.drawn ds → (i : ℕ) → i < l.number → IsModuleAt ds l.corner i → ⊥
