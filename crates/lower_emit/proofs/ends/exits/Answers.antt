-- One exit more.
use Rattle.lower_emit.specs.inner.Codes.{layout_in}
use Rattle.lower_emit.proofs.Adding.{adds_exit}
use Rattle.lower_emit.proofs.ends.exits.Goals as goal

pub loop-wire-preserved : goal.loop-wire-preserved
loop-wire-preserved c =
    adds_exit c.args.code.now c.loop-wire.code c.exit.new.code (layout_in c.args.places.now) c.args.wires.now.items c.deref-wire-items.result.now c.loop-wire.wire-index
    c.deref-wire-items.ensures.value c.loop-wire-test.true c.loop-wire.invariant c.in_ok-exit.ensures
