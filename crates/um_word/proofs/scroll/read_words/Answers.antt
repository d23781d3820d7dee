use Rattle.std.proofs.Common.{arith}
use Rattle.std.proofs.lemmas.List.{take-append-drop}
use Rattle.um_word.proofs.Scrolls.{read-more}
use Rattle.um_word.proofs.scroll.read_words.Goals as goal

pub loop-rest-preserved : goal.loop-rest-preserved
loop-rest-preserved c = record {
  read = rw c.in_ok-push.ensures.items (read-more c.loop-rest.words.items _ c.loop-rest.rest.now c.args.bytes.now _ c.split_at.result.1.now c.word_from.ensures
      (rw (c.split_at.ensures.front, c.split_at.ensures.back) (take-append-drop 4 c.loop-rest.rest.now)) c.loop-rest.invariant.read);
  whole = omega (arith, c.split_at.ensures.back_len, c.loop-rest.invariant.whole);
}
