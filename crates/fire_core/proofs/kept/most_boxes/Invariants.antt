-- No module so far has more boxes.
use Rattle.std.specs.Prelude.{ℕ, ◌<◌, ◌≤◌, ◌^◌}
use Rattle.two_d.specs.Programs.{box_count}
use Rattle.fire_core.proofs.kept.most_boxes.Given as goal

abbrev pub invariant-loop-kind : goal.invariant-loop-kind
invariant-loop-kind l = record {
  all : (m : ℕ) → m < l.kind → box_count l.program m ≤ l.most;
  few : l.most < 2 ^ 32;
}
