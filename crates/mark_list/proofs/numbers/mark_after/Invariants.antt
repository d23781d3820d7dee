use Rattle.std.specs.Prelude.{◌≡◌, ◌+◌}
use Rattle.mark_list.specs.Marks.{count_before}
use Rattle.mark_list.proofs.numbers.mark_after.Given as goal

abbrev pub invariant-loop-place : goal.invariant-loop-place
invariant-loop-place l = count_before l.marks l.place + l.left ≡ count_before l.marks l.from + l.many
