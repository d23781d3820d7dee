-- The boxes so far were tried.
use Rattle.std.specs.Prelude.{ℕ, ◌<◌, ◌↔◌}
use Rattle.two_d.specs.inner.Orders.{Has, AreFed}
use Rattle.two_d.specs.Programs.{module_of}
use Rattle.two_d.proofs.order.first_ready.Given as goal

abbrev pub invariant-loop-number : goal.invariant-loop-number
invariant-loop-number l = (q : ℕ) → Has l.ready q ↔ ((q < l.number) × AreFed (module_of l.module) l.placed q)
