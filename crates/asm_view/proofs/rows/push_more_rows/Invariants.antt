-- The words so far have been added.
use Rattle.std.proofs.Common.{◌≡◌, ◌+◌, ◌-◌, ◌<◌, ◌≤◌, ◌++◌, map}
use Rattle.std.specs.List.{range_with_len}
use Rattle.text_picture.specs.Pictures.{lined}
use Rattle.asm_view.specs.Rows.{more_row}
use Rattle.asm_view.proofs.rows.push_more_rows.Given as goal

abbrev pub invariant-loop-at : goal.invariant-loop-at
invariant-loop-at l = record {
  low : l.initial.at ≤ l.at;
  none : l.end < l.initial.at → l.at ≡ l.initial.at;
  added : l.page.items ≡ l.initial.page.items ++ lined (map (more_row l.words l.line.base) (range_with_len l.initial.at (l.at - l.initial.at)));
}
