-- The machine says what the text is.
use Rattle.std.specs.Prelude.{◌≡◌, length}
use Rattle.std.proofs.Common.{subst, ◌∙◌, arith}
use Rattle.codex_values.specs.Reading.{IsBadAt}
use Rattle.codex_values.proofs.StoreLemmas.{keeps-keeps}
use Rattle.codex_values.proofs.Bytes.{after-next, bad_at, reads_at_end, bad_at_end}
use Rattle.codex_values.proofs.store.ValueStore.read_value.Goals as goal

pub returns-in-None-clause-bad : goal.returns-in-None-clause-bad
returns-in-None-clause-bad c = λ k is.
    let same : c.loop-at.at ≡ k = cc in
    subst (λ j. IsBadAt c.args.text.now j) same
    (bad_at c.args.text.now c.loop-at.at c.sign_of.result _ (omega arith) c.sign_of.ensures c.loop-at.invariant.stands (rw c.in-None.is at c.in_ok-next.ensures.next))

pub loop-at-preserved : goal.loop-at-preserved
loop-at-preserved c =
    let next = rw c.in-Some.is at c.in_ok-next.ensures.next in
    record {
      stands = after-next c.args.text.now c.loop-at.at c.sign_of.result _ (omega arith) c.sign_of.ensures c.loop-at.invariant.stands ∙ next.0;
      state = next.1;
      levels = next.2;
      keeps = keeps-keeps _ _ _ c.loop-at.invariant.keeps c.in_ok-next.ensures.keeps;
    }

pub returns-in-Some-2-clause-value : goal.returns-in-Some-2-clause-value
returns-in-Some-2-clause-value c =
    let whole = rw c.in-Some-2.is at c.in_ok-at.ensures.whole in
    reads_at_end c.args.text.now c.loop-at.at _ _ (omega arith) c.loop-at.invariant.stands whole.0

pub returns-clause-bad : goal.returns-clause-bad
returns-clause-bad c = λ k is.
    let whole = rw c.in-None-2.is at c.in_ok-at.ensures.whole in
    let same : length c.args.text.now ≡ k = cc in
    subst (λ j. IsBadAt c.args.text.now j) same (bad_at_end c.args.text.now c.loop-at.at _ (omega arith) c.loop-at.invariant.stands whole)
