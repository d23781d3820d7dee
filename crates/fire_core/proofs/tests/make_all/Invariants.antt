-- It is a core of the program after each event.
use Rattle.fire_core.specs.Cores.{IsCoreOf}
use Rattle.fire_core.proofs.tests.make_all.Given as goal

abbrev pub invariant-loop-k : goal.invariant-loop-k
invariant-loop-k l = IsCoreOf l.program l.core
