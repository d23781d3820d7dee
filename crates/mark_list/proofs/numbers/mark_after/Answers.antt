-- So many are left of those that are set.
use Rattle.std.specs.Prelude.{length}
use Rattle.std.proofs.Common.{arith}
use Rattle.mark_list.proofs.Below.{count_before-next, count_before-more}
use Rattle.mark_list.proofs.numbers.mark_after.Goals as goal

pub loop-place-preserved : goal.loop-place-preserved
loop-place-preserved c = omega (arith, count_before-next c.args.marks.now c.loop-place.place)

pub unreachable-requires : goal.unreachable-requires
unreachable-requires c = omega (arith, count_before-more c.args.marks.now (length c.args.marks.now) c.loop-place.place (omega arith))
