-- The blocks so far have their places.
use Rattle.std.specs.Prelude.{◌≡◌, ◌+◌, take, length}
use Rattle.lower_link.specs.inner.Linking.{spans, words_of_blocks}
use Rattle.lower_link.proofs.linking.spans_of.Given as goal

abbrev pub invariant-loop-block : goal.invariant-loop-block
invariant-loop-block l = record {
  places : l.places.items ≡ spans l.first (take l.block-index l.block-items);
  place : l.place ≡ l.first + length (words_of_blocks (take l.block-index l.block-items));
}
