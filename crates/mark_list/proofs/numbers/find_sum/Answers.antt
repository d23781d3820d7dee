-- What is left is less than the numbers that are left.
use Rattle.std.specs.Prelude.{length}
use Rattle.std.proofs.Common.{arith}
use Rattle.mark_list.proofs.Below.{sum_before-next, sum_before-more}
use Rattle.mark_list.proofs.numbers.find_sum.Goals as goal

pub loop-place-preserved : goal.loop-place-preserved
loop-place-preserved c = omega (arith, sum_before-next c.args.numbers.now c.loop-place.place)

pub unreachable-requires : goal.unreachable-requires
unreachable-requires c = omega (arith, sum_before-more c.args.numbers.now (length c.args.numbers.now) c.loop-place.place (omega arith))
