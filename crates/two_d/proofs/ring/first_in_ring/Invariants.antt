-- No box so far reaches itself.
use Rattle.std.specs.Prelude.{ℕ, ◌<◌}
use Rattle.two_d.specs.Programs.{module_of}
use Rattle.two_d.specs.Sound.{Reaches}
use Rattle.two_d.proofs.ring.first_in_ring.Given as goal

abbrev pub invariant-loop-number : goal.invariant-loop-number
invariant-loop-number l = (b : ℕ) → b < l.number → Reaches (module_of l.module) b b → ⊥
