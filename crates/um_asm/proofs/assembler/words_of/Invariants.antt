use Rattle.std.proofs.Common.{◌≡◌, ◌+◌, ◌≤◌, length}
use Rattle.um_asm.specs.Scopes.{standing, all_standing}
use Rattle.um_asm.specs.Assembly.{lines_words, said_by}
use Rattle.um_asm.specs.inner.Parts.{block_read_at, unended_from}
use Rattle.um_asm.specs.inner.Definitions.{meaning_in}
use Rattle.um_asm.proofs.Walking.{prepended}
use Rattle.um_asm.proofs.assembler.words_of.Given as goal

-- the words so far and those of what is left are the words of the text
abbrev pub invariant-loop-line : goal.invariant-loop-line
invariant-loop-line l =
    let block = block_read_at l.position in
    let meaning = meaning_in l.labels.definitions in
    record {
      words : prepended l.words.items (lines_words meaning (standing l.position.number block l.position.place (said_by l.rest))) ≡ lines_words meaning (all_standing (said_by l.text));
      unended : l.labels.unended ≡ unended_from l.position.number block l.position.place (said_by l.rest);
      number : l.position.number + length l.rest ≤ length l.text + 1;
      place : l.position.place + length l.rest ≤ length l.text;
    }

abbrev pub decreases-loop-line : goal.decreases-loop-line
decreases-loop-line l = length l.rest
