-- None of the marks so far is set.
use Rattle.std.specs.Prelude.{◌≡◌}
use Rattle.mark_list.specs.Marks.{count_before}
use Rattle.mark_list.proofs.numbers.none_between.Given as goal

abbrev pub invariant-loop-place : goal.invariant-loop-place
invariant-loop-place l = count_before l.marks l.from ≡ count_before l.marks l.place
