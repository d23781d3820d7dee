use Rattle.std.proofs.Common.{◌≡◌, ◌++◌, take}
use Rattle.text_picture.specs.Pictures.{lined}
use Rattle.asm_view.proofs.Listed.{rows_of}
use Rattle.asm_view.proofs.listing.push_rows.Given as goal

abbrev pub invariant-loop-line : goal.invariant-loop-line
invariant-loop-line l = l.page.items ≡ l.initial.page.items ++ lined (rows_of l.words (take l.line-index l.lines))
