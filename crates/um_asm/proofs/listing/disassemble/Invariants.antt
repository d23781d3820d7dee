use Rattle.std.proofs.Common.{◌≡◌, take}
use Rattle.um_asm.specs.Listing.{listing}
use Rattle.um_asm.proofs.listing.disassemble.Given as goal

abbrev pub invariant-loop-word : goal.invariant-loop-word
invariant-loop-word l = l.text.items ≡ listing (take l.word-index l.words)
