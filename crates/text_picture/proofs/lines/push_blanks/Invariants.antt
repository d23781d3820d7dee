use Rattle.std.proofs.Common.{◌≡◌, ◌++◌, map}
use Rattle.std.specs.List.{range_with_len}
use Rattle.text_picture.proofs.lines.push_blanks.Given as goal

abbrev pub invariant-loop : goal.invariant-loop
invariant-loop l = l.page.items ≡ l.initial.page.items ++ map (λ _. 32) (range_with_len l.first l.counter)
