-- The blocks so far stand behind the boot.
use Rattle.std.specs.Prelude.{◌≡◌, ◌++◌, take}
use Rattle.lower_link.specs.inner.Linking.{words_of_blocks}
use Rattle.lower_link.proofs.linking.link.Given as goal

abbrev pub invariant-loop-block : goal.invariant-loop-block
invariant-loop-block l = l.draft.words.items ≡ l.initial.draft.words.items ++ words_of_blocks (take l.block-index l.block-items)
