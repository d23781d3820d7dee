-- Each round takes one word.
use Rattle.std.proofs.Common.{◌≡◌, ◌+◌, ◌-◌, ◌++◌, ◌∷◌, [], arith, sym, ap, subst, ◌∙◌}
use Rattle.rand_pcg.specs.Pcg.{pcg32}
use Rattle.codex_gen.specs.Generated.{generator, module_count, next_words, after_words}
use Rattle.codex_gen.proofs.WordLemmas.{after_one, after_none, words_one, words_none}
use Rattle.codex_gen.proofs.generating.list_words.Goals as goal

pub loop-preserved : goal.loop-preserved
loop-preserved c = record {
  counted = c.loop.invariant.counted;
  passed =
      subst (λ g. after_words g (c.module_count-count.result - (c.loop.counter + 1)) ≡ after_words (pcg32 (generator c.args.number)).1 (module_count c.args.number)) (ap (λ p. p.1) (sym c.next_word-in-loop.ensures))
      (after_one c.loop.words c.module_count-count.result c.loop.counter (omega (arith, c.loop-test.true)) ∙ c.loop.invariant.passed);
}

pub loop-2-init : goal.loop-2-init
loop-2-init c =
    ap (λ l. l ++ next_words c.loop.words 16) c.new-list.ensures.items
    ∙ ap (λ g. next_words g 16) (sym (after_none c.loop.words c.module_count-count.result c.loop.counter (omega (arith, c.loop-test.false, c.loop.auto.counter-end))) ∙ c.loop.invariant.passed)

pub loop-2-preserved : goal.loop-2-preserved
loop-2-preserved c =
    ap (λ l. l ++ next_words c.next_word-in-loop-2.new.self (16 - (c.loop-2.counter + 1))) c.in_ok-push.ensures.items
    ∙ (ap (λ p. (c.loop-2.list.items ++ p.0 ∷ []) ++ next_words p.1 (16 - (c.loop-2.counter + 1))) c.next_word-in-loop-2.ensures
    ∙ (words_one c.loop-2.list.items c.loop-2.words 16 c.loop-2.counter (omega (arith, c.loop-2-test.true)) ∙ c.loop-2.invariant))

pub returns : goal.returns
returns c = words_none c.loop-2.list.items c.loop-2.words 16 c.loop-2.counter (omega (arith, c.loop-2-test.false, c.loop-2.auto.counter-end)) ∙ c.loop-2.invariant
