use Rattle.std.proofs.Common.{◌≡◌, ◌++◌, map}
use Rattle.std.specs.List.{range_with_len}
use Rattle.text_picture.specs.Pictures.{ruler_sign}
use Rattle.text_picture.proofs.lines.push_signs.Given as goal

abbrev pub invariant-loop-k : goal.invariant-loop-k
invariant-loop-k l = l.page.items ≡ l.initial.page.items ++ map ruler_sign (range_with_len l.first l.k)
