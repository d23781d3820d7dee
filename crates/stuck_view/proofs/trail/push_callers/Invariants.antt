use Rattle.std.proofs.Common.{◌≡◌, ◌++◌, List, take}
use Rattle.std.specs.List.{flat_map}
use Rattle.std.specs.Prelude.{reverse}
use Rattle.two_d.specs.Program.{Drawn}
use Rattle.module_table.specs.Drawn.{AreCorners}
use Rattle.stuck_view.specs.Pages.{caller_part}
use Rattle.stuck_view.proofs.trail.push_callers.Given as goal

abbrev pub invariant-loop-k : goal.invariant-loop-k
invariant-loop-k l =
    (ds : List Drawn) → AreCorners l.corners ds →
    l.page.items ≡ l.initial.page.items ++ flat_map (caller_part l.text ds l.program) (take l.k (reverse l.callers))
