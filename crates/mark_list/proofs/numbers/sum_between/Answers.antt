-- The sum is that of the first numbers.
use Rattle.std.specs.Prelude.{◌+◌}
use Rattle.std.proofs.Common.{arith}
use Rattle.mark_list.proofs.Below.{sum_before-next, sum_before-more}
use Rattle.mark_list.proofs.numbers.sum_between.Goals as goal

pub overflow_add-sum : goal.overflow_add-sum
overflow_add-sum c =
    omega (arith, sum_before-next c.args.numbers.now c.loop-place.place, sum_before-more c.args.numbers.now (c.loop-place.place + 1) c.args.to (omega arith))

pub loop-place-preserved : goal.loop-place-preserved
loop-place-preserved c = omega (arith, sum_before-next c.args.numbers.now c.loop-place.place)
