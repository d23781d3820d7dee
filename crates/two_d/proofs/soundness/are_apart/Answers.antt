-- One more end has a wire that begins where none of an earlier end does.
use Rattle.std.proofs.Common.{below_more}
use Rattle.two_d.proofs.soundness.are_apart.Goals as goal

pub loop-end-preserved : goal.loop-end-preserved
loop-end-preserved c = below_more _ _ c.loop-end.invariant (c.is_apart.ensures.0 c.if-not-is_apart.false)
