use Rattle.std.proofs.Common.{◌≡◌, List, ℕ, arith, sym, subst}
use Rattle.codex_gen.specs.Answers.{IsGenerated}
use Rattle.codex_gen.specs.Generated.{grid_of_number, value_of_number}
use Rattle.codex_gen.proofs.GeneratedLaws.{generated}
use Rattle.codex_gen.proofs.Modules.{no_module, one_module}
use Rattle.codex_gen.proofs.generating.generate.Goals as goal

pub loop-i-preserved : goal.loop-i-preserved
loop-i-preserved c = record {
  counted = c.loop-i.invariant.counted;
  goes_on =
      one_module c.loop-i.words c.next_word-form.new.self c.next_word-form.result
      c.module_count-count.result c.loop-i.i c.loop-i.text.items c.push_module.new.text.items _
      c.loop-i-test.true c.next_word-form.ensures c.in_ok-push_module.ensures
      c.loop-i.invariant.goes_on;
}

text_is : (number : ℕ) (text : List ℕ) → text ≡ grid_of_number number → IsGenerated text (value_of_number number)
text_is number text is = subst (λ t. IsGenerated t (value_of_number number)) (sym is) (generated number)

pub returns-clause-grid : goal.returns-clause-grid
returns-clause-grid c =
    no_module c.loop-i.words c.module_count-count.result c.loop-i.i c.loop-i.text.items _
    (omega (arith, c.loop-i-test.false, c.loop-i.auto.i-end)) c.loop-i.invariant.goes_on

pub returns-clause-program : goal.returns-clause-program
returns-clause-program c =
    text_is c.args.number c.loop-i.text.items
    (no_module c.loop-i.words c.module_count-count.result c.loop-i.i c.loop-i.text.items _
    (omega (arith, c.loop-i-test.false, c.loop-i.auto.i-end)) c.loop-i.invariant.goes_on)
