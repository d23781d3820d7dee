-- None of those before goes to the side.
use Rattle.std.specs.Prelude.{◌≡◌, drop}
use Rattle.codex_values.specs.Store.{values_of}
use Rattle.two_d.specs.Meaning as mean
use Rattle.two_d.specs.Trees.{outs_of}
use Rattle.fire_core.specs.inner.Look.{inputs_at}
use Rattle.fire_core.proofs.act.sent.Given as goal

abbrev pub invariant-loop-out : goal.invariant-loop-out
invariant-loop-out l = record {
  same : l.values ≡ l.initial.values;
  left : mean.sent l.side (outs_of (drop l.out-index l.outs)) (inputs_at (values_of l.initial.values) l.inputs)
      ≡ mean.sent l.side (outs_of l.outs) (inputs_at (values_of l.initial.values) l.inputs);
}
