-- No wire to an earlier end so far begins there.
use Rattle.two_d.specs.Programs.{module_of}
use Rattle.two_d.specs.inner.Ends.{AreApartFrom}
use Rattle.two_d.proofs.soundness.is_apart.Given as goal

abbrev pub invariant-loop-earlier : goal.invariant-loop-earlier
invariant-loop-earlier l = AreApartFrom (module_of l.module) l.fn.end l.earlier
