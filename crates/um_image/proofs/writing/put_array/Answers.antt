use Rattle.std.proofs.Common.{arith}
use Rattle.um_word.specs.State.{array_at}
use Rattle.um_image.proofs.Put.{put_next, item_at, size_is}
use Rattle.um_image.proofs.writing.put_array.Goals as goal

pub loop-at-preserved : goal.loop-at-preserved
loop-at-preserved c =
    let words = array_at c.args.machine.now.arrays c.args.id in
    let lt = c.loop-at-test.true in
    let size = size_is c.args.machine.now.arrays c.args.id c.in-Some.size c.requires.there c.in-Some.ensures in
    put_next c.put.new.bytes.items c.loop-at.bytes.items c.put-in-loop-at.new.bytes.items words c.loop-at.at c.in-Some-word.word (omega (arith, lt, size))
    (item_at words c.loop-at.at c.in-Some-word.word c.in-Some-word.ensures.value) c.loop-at.invariant c.in_ok-put-2.ensures
