use Rattle.std.proofs.Common.{sym, arith}
use Rattle.um_image.proofs.Put.{put_next}
use Rattle.um_image.proofs.writing.put_registers.Goals as goal

pub loop-k-preserved : goal.loop-k-preserved
loop-k-preserved c =
    let lt = c.loop-k-test.true in
    let eight = c.requires in
    put_next c.args.bytes.now.items c.loop-k.bytes.items c.put.new.bytes.items c.args.machine.now.registers c.loop-k.k c.register.result (omega (arith, lt, eight))
    (sym c.register.ensures) c.loop-k.invariant c.in_ok-put.ensures
