use Rattle.std.proofs.Common.{◌<◌, length, arith}
use Rattle.text_picture.proofs.Added.{next_taken}
use Rattle.fault_view.specs.Subjects.{wait_part}
use Rattle.fault_view.proofs.parts.push_wait_parts.Goals as goal

pub loop-bx-preserved : goal.loop-bx-preserved
loop-bx-preserved c ds are =
    next_taken (wait_part c.args.text.now ds c.args.number) c.args.page.now.items c.loop-bx.page.items c.push_wait_part.new.page.items c.args.waits.now c.loop-bx.bx-index _
    (omega (arith, c.loop-bx-test.true, c.loop-bx.auto.bx-index-end)) (c.loop-bx.invariant ds are) (c.in_ok-push_wait_part.ensures ds are)
