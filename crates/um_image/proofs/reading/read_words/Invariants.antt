use Rattle.std.proofs.Common.{◌≡◌, ◌+◌, ◌*◌, ◌++◌, length, take}
use Rattle.um_word.specs.Scroll.{scroll}
use Rattle.um_image.specs.inner.Head.{AreWords}
use Rattle.um_image.proofs.reading.read_words.Given as goal

abbrev pub invariant-loop-k : goal.invariant-loop-k
invariant-loop-k l = record {
  count : length l.words.items ≡ l.k;
  each : AreWords l.words.items;
  read : take (l.start + 4 * l.k) l.bytes ≡ take l.start l.bytes ++ scroll l.words.items;
}
