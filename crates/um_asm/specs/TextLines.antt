-- The lines of a text as a listing shows them.
use Rattle.std.specs.Prelude.{ℕ, if◌then◌else◌, List, [], ◌∷◌, Option, Some, None}
use Rattle.std.specs.List.{list_all}
use Rattle.std.specs.Str.Lines.{lines}
use Rattle.um_asm.specs.declared.position.Block.{Block}
use Rattle.um_asm.specs.declared.text_line.Head.{Head}
use Rattle.um_asm.specs.declared.text_line.Head.TheVariants.{Unprintable, BadLabel, Word}
use Rattle.um_asm.specs.declared.text_line.TextLine.{TextLine}
use Rattle.um_asm.specs.Tokens.{before, behind_byte, trimmed_start, trimmed, is_printable, is_label}
use Rattle.um_asm.specs.Lines.{size_of}
use Rattle.um_asm.specs.Scopes.{PlacedLine, all_standing}
use Rattle.um_asm.specs.Assembly.{said_by}

-- how many words come before the first of a block; none before a line outside blocks
abbrev pub base_of : Option (Block (List ℕ)) → ℕ
base_of None = 0
base_of (Some block) = block.first

-- how a line begins whose comment is gone, with what stands behind its colon
abbrev pub head_behind : List ℕ → Option (List ℕ) → Head (List ℕ)
head_behind text None = Word (before 32 (trimmed text))
head_behind text (Some rest) =
    if is_label (trimmed_start (before 58 text)) then Word (before 32 (trimmed rest)) else BadLabel

-- how a line begins
abbrev pub head_of : List ℕ → Head (List ℕ)
head_of line =
    if list_all is_printable line then head_behind (before 59 line) (behind_byte 58 (before 59 line))
    else Unprintable

-- a line where it stands, with its bytes
abbrev pub text_line : PlacedLine → List ℕ → TextLine (List ℕ)
text_line s bytes = record {
  number = s.number;
  base = base_of s.block;
  place = s.place;
  count = size_of s.line;
  bytes = bytes;
  head = head_of bytes;
}

-- each line where it stands, with its bytes
abbrev pub with_bytes : List PlacedLine → List (List ℕ) → List (TextLine (List ℕ))
with_bytes (s ∷ standing_lines) (bytes ∷ more) = text_line s bytes ∷ with_bytes standing_lines more
with_bytes _ _ = []

-- the lines of a text
abbrev pub text_lines : List ℕ → List (TextLine (List ℕ))
text_lines text = with_bytes (all_standing (said_by text)) (lines text)
