-- The count is that of the first marks.
use Rattle.std.specs.Prelude.{◌+◌}
use Rattle.std.proofs.Common.{arith}
use Rattle.mark_list.proofs.Below.{count_before-next, count_before-few}
use Rattle.mark_list.proofs.numbers.count_between.Goals as goal

pub overflow_add-count : goal.overflow_add-count
overflow_add-count c =
    omega (arith, count_before-next c.args.marks.now c.loop-place.place, count_before-few c.args.marks.now (c.loop-place.place + 1))

pub loop-place-preserved : goal.loop-place-preserved
loop-place-preserved c = omega (arith, count_before-next c.args.marks.now c.loop-place.place)
