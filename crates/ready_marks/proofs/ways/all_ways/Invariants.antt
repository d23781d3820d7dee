use Rattle.std.specs.Prelude.{◌≡◌, ◌<◌, ℕ, length, slice_index_or}
use Rattle.two_d.specs.Programs.{module_of}
use Rattle.two_d.specs.declared.module.Module.{Module}
use Rattle.ready_marks.specs.Ways.{AreWaysOf, ways_form}
use Rattle.ready_marks.specs.declared.ways.Ways.{Ways}
use Rattle.ready_marks.proofs.ways.all_ways.Given as goal

abbrev pub invariant-loop-m : goal.invariant-loop-m
invariant-loop-m l = record {
  sized : length l.all.items ≡ l.m;
  each : (k : ℕ) (d : Module) (w : Ways) → k < l.m → AreWaysOf (module_of (slice_index_or l.modules k d)) (ways_form (slice_index_or l.all.items k w));
}
