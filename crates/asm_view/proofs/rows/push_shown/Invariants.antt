use Rattle.std.proofs.Common.{◌≡◌, ◌++◌, map, take}
use Rattle.text_picture.specs.Rows.{shown}
use Rattle.asm_view.proofs.rows.push_shown.Given as goal

abbrev pub invariant-loop-k : goal.invariant-loop-k
invariant-loop-k l = l.page.items ≡ l.initial.page.items ++ map shown (take l.k l.bytes)
