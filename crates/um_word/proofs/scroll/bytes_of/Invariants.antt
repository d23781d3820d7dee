use Rattle.std.proofs.Common.{◌≡◌, take}
use Rattle.um_word.specs.Scroll.{scroll}
use Rattle.um_word.proofs.scroll.bytes_of.Given as goal

abbrev pub invariant-loop-word : goal.invariant-loop-word
invariant-loop-word l = l.bytes.items ≡ scroll (take l.word-index l.words)
