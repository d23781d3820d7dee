use Rattle.std.proofs.Common.{rules}
use Rattle.std.proofs.lemmas.List.{take_more}
use Rattle.um_word.proofs.Scrolls.{scroll-more}
use Rattle.um_word.proofs.scroll.bytes_of.Goals as goal

pub loop-word-preserved : goal.loop-word-preserved
loop-word-preserved c = rw (take_more c.args.words.now c.loop-word.word-index 0 c.loop-word-test.true, scroll-more) (search rules)
