-- One byte more.
use Rattle.std.proofs.Common.{refl, sym}
use Rattle.lower_link.proofs.Adding.{adds_as, adds_then, writes_more}
use Rattle.lower_link.proofs.draft.Draft.write.Goals as goal

pub loop-byte-preserved : goal.loop-byte-preserved
loop-byte-preserved c =
    adds_as _ (sym (writes_more c.args.bytes.now c.loop-byte.byte-index _ c.loop-byte-test.true refl)) (adds_then c.loop-byte.invariant c.in_ok-write_byte.ensures)
