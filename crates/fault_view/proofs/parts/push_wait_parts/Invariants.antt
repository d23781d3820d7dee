-- Those so far have been added.
use Rattle.std.specs.Prelude.{◌≡◌, ◌++◌, List, take}
use Rattle.std.specs.List.{flat_map}
use Rattle.two_d.specs.Program.{Drawn}
use Rattle.module_table.specs.Drawn.{AreModulesRead}
use Rattle.fault_view.specs.Subjects.{wait_part}
use Rattle.fault_view.proofs.parts.push_wait_parts.Given as goal

abbrev pub invariant-loop-bx : goal.invariant-loop-bx
invariant-loop-bx l =
    (ds : List Drawn) → AreModulesRead l.drawn ds →
    l.page.items ≡ l.initial.page.items ++ flat_map (wait_part l.text ds l.number) (take l.bx-index l.waits)
