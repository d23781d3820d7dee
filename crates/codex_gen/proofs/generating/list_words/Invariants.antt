use Rattle.std.proofs.Common.{◌≡◌, ◌-◌, ◌++◌}
use Rattle.codex_gen.specs.Generated.{generator, module_count, words_after, next_words, after_words}
use Rattle.rand_pcg.specs.Pcg.{pcg32}
use Rattle.codex_gen.proofs.generating.list_words.Given as goal

abbrev pub invariant-loop : goal.invariant-loop
invariant-loop l = record {
  counted : l.count ≡ module_count l.number;
  passed : after_words l.words (l.count - l.counter) ≡ after_words (pcg32 (generator l.number)).1 (module_count l.number);
}

abbrev pub invariant-loop-2 : goal.invariant-loop-2
invariant-loop-2 l = l.list.items ++ next_words l.words (16 - l.counter) ≡ words_after l.number
