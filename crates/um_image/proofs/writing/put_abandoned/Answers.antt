use Rattle.std.proofs.Common.{arith}
use Rattle.um_image.proofs.Put.{put_next, item_at}
use Rattle.um_image.proofs.writing.put_abandoned.Goals as goal

pub loop-k-preserved : goal.loop-k-preserved
loop-k-preserved c =
    let ids = c.args.machine.now.identifiers.abandoned in
    let lt = c.loop-k-test.true in
    let many = c.requires in
    put_next c.args.bytes.now.items c.loop-k.bytes.items c.put.new.bytes.items ids c.loop-k.k c.in-Some.id (omega (arith, lt, many))
    (item_at ids c.loop-k.k c.in-Some.id c.in-Some.ensures) c.loop-k.invariant c.in_ok-put.ensures
