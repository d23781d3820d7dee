-- What is open where the text ends.
use Rattle.std.proofs.Common.{refl, ◌∙◌}
use Rattle.codex_values.specs.declared.read.Level.TheVariants.{Inl, Inr}
use Rattle.codex_values.specs.inner.ReaderStates.{whole}
use Rattle.codex_values.proofs.StoreLemmas.{keeps-keeps}
use Rattle.codex_values.proofs.ReaderLemmas.{popped, done_inl, done_inr, whole-open, AreLevelsIn-kept}
use Rattle.codex_values.proofs.store.ValueStore.finish.Goals as goal

pub loop-level-preserved-in-Inl : goal.loop-level-preserved-in-Inl
loop-level-preserved-in-Inl c =
    let old = c.loop-level.self in
    let pop = popped old _ _ _ Inl c.in-Some.ensures.items c.in-Inl.is c.loop-level.invariant.levels in
    record {
      same = c.loop-level.invariant.same
          ∙ done_inl whole old _ _ _ _ _ (λ a frames. refl) pop c.in_ok-at-in-Inl.ensures.keeps c.in_ok-at-in-Inl.ensures.value;
      place = c.in_ok-at-in-Inl.ensures.inside;
      levels = AreLevelsIn-kept old _ _ c.in_ok-at-in-Inl.ensures.keeps pop.places;
      keeps = keeps-keeps _ _ _ c.loop-level.invariant.keeps c.in_ok-at-in-Inl.ensures.keeps;
    }

pub loop-level-preserved : goal.loop-level-preserved
loop-level-preserved c =
    let old = c.loop-level.self in
    let pop = popped old _ _ _ Inr c.in-Some.ensures.items c.in-Inr.is c.loop-level.invariant.levels in
    record {
      same = c.loop-level.invariant.same
          ∙ done_inr whole old _ _ _ _ _ (λ a frames. refl) pop c.in_ok-at-in-Inr.ensures.keeps c.in_ok-at-in-Inr.ensures.value;
      place = c.in_ok-at-in-Inr.ensures.inside;
      levels = AreLevelsIn-kept old _ _ c.in_ok-at-in-Inr.ensures.keeps pop.places;
      keeps = keeps-keeps _ _ _ c.loop-level.invariant.keeps c.in_ok-at-in-Inr.ensures.keeps;
    }

pub returns-in-Parens-clause-whole : goal.returns-in-Parens-clause-whole
returns-in-Parens-clause-whole c =
    rw c.in-Got.is (c.loop-level.invariant.same
    ∙ whole-open c.loop-level.self _ _ c.loop-level.at _ c.in-Some.ensures.items c.loop-level.invariant.levels c.in-Parens.is)
