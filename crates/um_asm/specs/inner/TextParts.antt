-- Lines of a text whose bytes are parts of it, read as texts of their own.
use Rattle.std.specs.Prelude.{ℕ, List}
use Rattle.um_asm.specs.declared.text_line.Head.{Head}
use Rattle.um_asm.specs.declared.text_line.Head.TheVariants.{Unprintable, BadLabel, Word}
use Rattle.um_asm.specs.declared.text_line.TextLine.{TextLine}
use Rattle.um_asm.specs.inner.Parts.{Part}

abbrev pub head_read : Head Part → Head (List ℕ)
head_read Unprintable = Unprintable
head_read BadLabel = BadLabel
head_read (Word word) = Word word.now

abbrev pub text_line_read : TextLine Part → TextLine (List ℕ)
text_line_read l = record {
  number = l.number;
  base = l.base;
  place = l.place;
  count = l.count;
  bytes = l.bytes.now;
  head = head_read l.head;
}
