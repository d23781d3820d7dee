-- What is open when a sign comes behind an expression.
use Rattle.std.proofs.Common.{refl, ◌∙◌}
use Rattle.codex_values.specs.declared.read.Level.TheVariants.{Inl, Inr, Parens, Pair}
use Rattle.codex_values.specs.inner.ReaderStates.{got}
use Rattle.codex_values.proofs.StoreLemmas.{keeps-keeps}
use Rattle.codex_values.proofs.ReaderLemmas.{popped, done_inl, done_inr, closes_parens, goes_on_with_pair, stuck_in_parens, closes_pair, stuck_in_pair, AreLevelsIn-push, AreLevelsIn-kept}
use Rattle.codex_values.proofs.store.ValueStore.behind.Goals as goal

pub loop-level-preserved-in-Inl : goal.loop-level-preserved-in-Inl
loop-level-preserved-in-Inl c =
    let old = c.loop-level.self in
    let pop = popped old _ _ _ Inl c.in-Some.ensures.items c.in-Inl.is c.loop-level.invariant.levels in
    record {
      same = c.loop-level.invariant.same
          ∙ done_inl (λ a frames. got a frames c.args.sign) old _ _ _ _ _ (λ a frames. refl) pop c.in_ok-at-in-Inl.ensures.keeps c.in_ok-at-in-Inl.ensures.value;
      place = c.in_ok-at-in-Inl.ensures.inside;
      levels = AreLevelsIn-kept old _ _ c.in_ok-at-in-Inl.ensures.keeps pop.places;
      keeps = keeps-keeps _ _ _ c.loop-level.invariant.keeps c.in_ok-at-in-Inl.ensures.keeps;
    }

pub loop-level-preserved : goal.loop-level-preserved
loop-level-preserved c =
    let old = c.loop-level.self in
    let pop = popped old _ _ _ Inr c.in-Some.ensures.items c.in-Inr.is c.loop-level.invariant.levels in
    record {
      same = c.loop-level.invariant.same
          ∙ done_inr (λ a frames. got a frames c.args.sign) old _ _ _ _ _ (λ a frames. refl) pop c.in_ok-at-in-Inr.ensures.keeps c.in_ok-at-in-Inr.ensures.value;
      place = c.in_ok-at-in-Inr.ensures.inside;
      levels = AreLevelsIn-kept old _ _ c.in_ok-at-in-Inr.ensures.keeps pop.places;
      keeps = keeps-keeps _ _ _ c.loop-level.invariant.keeps c.in_ok-at-in-Inr.ensures.keeps;
    }

pub returns-in-Close-clause-next : goal.returns-in-Close-clause-next
returns-in-Close-clause-next c =
    let pop = popped c.loop-level.self _ _ _ Parens c.in-Some.ensures.items c.in-Parens.is c.loop-level.invariant.levels in
    (c.loop-level.invariant.same ∙ closes_parens _ _ _ _ _ pop c.in-Close.is, c.loop-level.invariant.place, pop.places)

pub returns-in_ok-push-in-Comma-clause-next : goal.returns-in_ok-push-in-Comma-clause-next
returns-in_ok-push-in-Comma-clause-next c =
    let pop = popped c.loop-level.self _ _ _ Parens c.in-Some.ensures.items c.in-Parens.is c.loop-level.invariant.levels in (
      c.loop-level.invariant.same ∙ goes_on_with_pair _ _ _ c.loop-level.at _ pop _ c.in-Comma.is c.in_ok-push-in-Comma.ensures.items,
      tt,
      rw c.in_ok-push-in-Comma.ensures.items (AreLevelsIn-push _ _ (Pair c.loop-level.at) pop.places c.loop-level.invariant.place),
    )

pub returns-in_default-sign : goal.returns-in_default-sign
returns-in_default-sign c =
    let pop = popped c.loop-level.self _ _ _ Parens c.in-Some.ensures.items c.in-Parens.is c.loop-level.invariant.levels in
    record {
      next = c.loop-level.invariant.same ∙ stuck_in_parens _ _ _ c.loop-level.at _ pop c.in_default-sign.not-Close c.in_default-sign.not-Comma;
      keeps = c.loop-level.invariant.keeps;
    }

pub add-requires-in-Close-sign : goal.add-requires-in-Close-sign
add-requires-in-Close-sign c =
    let pop = popped c.loop-level.self _ _ _ (Pair c.in-Pair.first) c.in-Some.ensures.items c.in-Pair.is c.loop-level.invariant.levels in
    (pop.place, c.loop-level.invariant.place)

pub returns-in_ok-add-in-Close-sign-clause-next : goal.returns-in_ok-add-in-Close-sign-clause-next
returns-in_ok-add-in-Close-sign-clause-next c =
    let added = c.in_ok-add-in-Close-sign.ensures in
    let pop = popped c.loop-level.self _ _ _ (Pair c.in-Pair.first) c.in-Some.ensures.items c.in-Pair.is c.loop-level.invariant.levels in (
      c.loop-level.invariant.same ∙ closes_pair c.loop-level.self _ _ c.in-Pair.first c.loop-level.at _ pop _ _ c.in-Close-sign.is added.keeps added.value,
      added.inside,
      AreLevelsIn-kept c.loop-level.self _ _ added.keeps pop.places,
    )

pub returns-in_default-sign-2 : goal.returns-in_default-sign-2
returns-in_default-sign-2 c =
    let pop = popped c.loop-level.self _ _ _ (Pair c.in-Pair.first) c.in-Some.ensures.items c.in-Pair.is c.loop-level.invariant.levels in
    record {
      next = c.loop-level.invariant.same ∙ stuck_in_pair _ _ _ c.in-Pair.first c.loop-level.at _ pop c.in_default-sign-2.not-Close;
      keeps = c.loop-level.invariant.keeps;
    }
