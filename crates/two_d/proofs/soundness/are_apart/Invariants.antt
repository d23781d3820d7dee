-- No wire to an end so far begins where one to an earlier end does.
use Rattle.std.proofs.Common.{ℕ, ◌<◌}
use Rattle.two_d.specs.Programs.{module_of}
use Rattle.two_d.specs.inner.Ends.{AreApartFrom}
use Rattle.two_d.proofs.soundness.are_apart.Given as goal

abbrev pub invariant-loop-end : goal.invariant-loop-end
invariant-loop-end l = (k : ℕ) → k < l.end → AreApartFrom (module_of l.module) k k
