-- The exits so far are read.
use Rattle.std.specs.Prelude.{take}
use Rattle.lower_emit.specs.inner.Codes.{AddsOps, layout_in}
use Rattle.lower_emit.specs.Blocks.{read_exits}
use Rattle.lower_emit.proofs.ends.exits.Given as goal

abbrev pub invariant-loop-wire : goal.invariant-loop-wire
invariant-loop-wire l = AddsOps l.fn.code l.code (read_exits (layout_in l.places) (take l.wire-index l.wires.items))
