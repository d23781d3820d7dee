use Rattle.std.proofs.Common.{ℕ, ◌≤◌, ◌<◌}
use Rattle.std.specs.Prelude.{MatchOption}
use Rattle.grid_reader.specs.inner.Found.{lowest}
use Rattle.grid_reader.proofs.found.Found.has_low.Given as goal

abbrev pub invariant-loop-col : goal.invariant-loop-col
invariant-loop-col l =
    (k : ℕ) → l.figure.left ≤ k → k < l.col → MatchOption (lowest l.self k) ⊥ (λ g. l.figure.top ≤ g.bottom) → ⊥
