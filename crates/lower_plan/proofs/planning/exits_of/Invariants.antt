-- The exits so far have their slots.
use Rattle.std.proofs.Common.{◌≡◌, map}
use Rattle.std.specs.Prelude.{take}
use Rattle.two_d.specs.Programs.{module_of}
use Rattle.lower_plan.specs.Plans.{slot_at}
use Rattle.lower_plan.proofs.planning.exits_of.Given as goal

abbrev pub invariant-loop-exit : goal.invariant-loop-exit
invariant-loop-exit l = l.exits.items ≡ map (slot_at (module_of l.owner)) (take l.exit-index (module_of l.owner).exits)
