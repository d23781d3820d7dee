use Rattle.std.proofs.Common.{◌≡◌, ◌+◌, ◌≤◌, ℕ, List, [], ◌∷◌, ◌++◌, length, map, Option, sym, ap, ◌∙◌, arith}
use Rattle.std.specs.Prelude.{slice_get}
use Rattle.std.proofs.lemmas.List.{length-map}
use Rattle.um_word.specs.State.{array_at}
use Rattle.um_debug.specs.Replies.{spaced, shown_word, words_from}
use Rattle.um_debug.proofs.Spacing.{reply_more, map_words_more, words_many}
use Rattle.um_debug.proofs.replies.push_words.Goals as goal

pub loop-k-init : goal.loop-k-init
loop-k-init c = record {
  text = c.in_ok-push_word.ensures ∙ ap (λ (word : Option ℕ). c.args.reply.now.items ++ shown_word word) c.word.ensures.value;
  some = omega arith;
}

pub loop-k-preserved : goal.loop-k-preserved
loop-k-preserved c =
    let words : List (Option ℕ) = words_from c.args.machine.now.arrays c.args.place.id c.args.place.offset c.loop-k.k in
    let some : 1 ≤ length (map shown_word words) =
    omega (arith, length-map words shown_word, words_many c.args.machine.now.arrays c.args.place.id c.args.place.offset c.loop-k.k, c.loop-k.invariant.some) in
    record {
      text = c.in_ok-push_word-2.ensures
          ∙ ap (λ (bytes : List ℕ). bytes ++ shown_word c.word-in-loop-k.result)
          (c.in_ok-push.ensures.items ∙ ap (λ (bytes : List ℕ). bytes ++ 32 ∷ []) c.loop-k.invariant.text)
          ∙ ap (λ (word : Option ℕ). c.args.reply.now.items ++ spaced (map shown_word words) ++ 32 ∷ [] ++ shown_word word) c.word-in-loop-k.ensures.value
          ∙ reply_more c.args.reply.now.items (map shown_word words) (shown_word (slice_get (array_at c.args.machine.now.arrays c.args.place.id) (c.args.place.offset + c.loop-k.k))) some
          ∙ ap (λ (all : List (List ℕ)). c.args.reply.now.items ++ spaced all) (sym (map_words_more c.args.machine.now.arrays c.args.place.id c.args.place.offset c.loop-k.k));
      some = omega arith;
    }

pub returns : goal.returns
returns c =
    let all : c.loop-k.k ≡ c.args.count = omega (arith, c.requires.0, c.loop-k-test.false, c.loop-k.auto.k-end) in
    c.loop-k.invariant.text ∙ ap (λ (n : ℕ). c.args.reply.now.items ++ spaced (map shown_word (words_from c.args.machine.now.arrays c.args.place.id c.args.place.offset n))) all
