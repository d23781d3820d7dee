-- The wires to the boxes or exits so far have their slots.
use Rattle.std.proofs.Common.{length, ◌+◌, ◌*◌}
use Rattle.std.specs.Prelude.{take}
use Rattle.two_d.specs.Programs.{module_of}
use Rattle.lower_plan.specs.Plans.{these, origins_named}
use Rattle.lower_plan.specs.inner.Numbers.{Numbers}
use Rattle.lower_plan.proofs.slots.slots_of.Given as goal

abbrev pub invariant-loop-row : goal.invariant-loop-row
invariant-loop-row l = Numbers (length (module_of l.owner).boxes) l.slots (these (take (2 * l.row-index) (origins_named (module_of l.owner))))

abbrev pub invariant-loop-exit : goal.invariant-loop-exit
invariant-loop-exit l = Numbers (length (module_of l.owner).boxes) l.slots (these (take (2 * length (module_of l.owner).boxes + l.exit-index) (origins_named (module_of l.owner))))
