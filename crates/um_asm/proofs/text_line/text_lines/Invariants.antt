use Rattle.std.proofs.Common.{◌≡◌, ◌+◌, ◌≤◌, ◌++◌, length, map}
use Rattle.std.specs.Str.Lines.{lines}
use Rattle.um_asm.specs.Scopes.{standing}
use Rattle.um_asm.specs.Assembly.{said_by}
use Rattle.um_asm.specs.TextLines.{text_lines, with_bytes}
use Rattle.um_asm.specs.inner.Parts.{block_read_at}
use Rattle.um_asm.specs.inner.TextParts.{text_line_read}
use Rattle.um_asm.proofs.text_line.text_lines.Given as goal

-- the lines found so far and those of what is left are the lines of the text
abbrev pub invariant-loop-bytes : goal.invariant-loop-bytes
invariant-loop-bytes l =
    record {
      found : map text_line_read l.found.items ++ with_bytes (standing l.position.number (block_read_at l.position) l.position.place (said_by l.rest)) (lines l.rest) ≡ text_lines l.text;
      number : l.position.number + length l.rest ≤ length l.text + 1;
      place : l.position.place + length l.rest ≤ length l.text;
    }

abbrev pub decreases-loop-bytes : goal.decreases-loop-bytes
decreases-loop-bytes l = length l.rest
