use Rattle.std.proofs.Common.{◌≡◌, ◌≤◌, ◌++◌, map}
use Rattle.um_debug.specs.Replies.{spaced, shown_word, words_from}
use Rattle.um_debug.proofs.replies.push_words.Given as goal

abbrev pub invariant-loop-k : goal.invariant-loop-k
invariant-loop-k l = record {
  text : l.reply.items ≡ l.fn.reply.items ++ spaced (map shown_word (words_from l.machine.arrays l.place.id l.place.offset l.k));
  some : 1 ≤ l.k;
}
