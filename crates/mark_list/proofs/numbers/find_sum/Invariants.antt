use Rattle.std.specs.Prelude.{◌≡◌, ◌+◌}
use Rattle.mark_list.specs.Marks.{sum_before}
use Rattle.mark_list.proofs.numbers.find_sum.Given as goal

abbrev pub invariant-loop-place : goal.invariant-loop-place
invariant-loop-place l = sum_before l.numbers l.place + l.left ≡ sum_before l.numbers l.from + l.much
