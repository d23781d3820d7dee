use Rattle.std.proofs.Common.{◌+◌, ◌≤◌, length}
use Rattle.std.specs.Str.Lines.{lines}
use Rattle.type_sheet.proofs.RowsRead.{ReadsOn}
use Rattle.type_sheet.proofs.sheet.rows_of.Given as goal

-- what the rest of the text gives is what the text gives behind the rows so far
abbrev pub invariant-loop-line : goal.invariant-loop-line
invariant-loop-line l = record {
  read : ReadsOn (lines l.text) l.rows.items l.number (lines l.rest);
  number : l.number + length l.rest ≤ length l.text + 1;
}

abbrev pub decreases-loop-line : goal.decreases-loop-line
decreases-loop-line l = length l.rest
