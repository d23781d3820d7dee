-- Wires to the ends so far begin where something is.
use Rattle.two_d.specs.Programs.{module_of}
use Rattle.two_d.specs.inner.Ends.{AreKnown}
use Rattle.two_d.proofs.soundness.are_known.Given as goal

abbrev pub invariant-loop-end : goal.invariant-loop-end
invariant-loop-end l = AreKnown (module_of l.module) l.end
