-- The outs so far are sent.
use Rattle.std.specs.Prelude.{map, take}
use Rattle.two_d.specs.Trees.{outs_of}
use Rattle.lower_emit.specs.Layouts.{input_slot}
use Rattle.lower_emit.specs.Boxes.{sent_code}
use Rattle.lower_emit.specs.Plans.{out_sent}
use Rattle.lower_emit.specs.inner.Codes.{AddsOps, layout_in}
use Rattle.lower_emit.proofs.bodies.send.Given as goal

abbrev pub invariant-loop-out : goal.invariant-loop-out
invariant-loop-out l =
    AddsOps l.fn.code l.code (sent_code (layout_in l.owner.places) (input_slot l.step.n) (input_slot l.step.w) (map (out_sent l.step) (outs_of (take l.out-index l.outs.items))))
