-- Each plan has its block, and the scroll is made of these.
use Rattle.std.specs.Prelude.{◌≡◌, ℕ, ◌<◌, ◌∷◌, [], length}
use Rattle.std.proofs.Common.{refl, sym, ap, subst, arith, length-append}
use Rattle.std.proofs.lemmas.List.{length-map}
use Rattle.std.proofs.lemmas.Option.{slice_get_read, get_or_from_slice_get}
use Rattle.two_d.specs.Programs.{module_of}
use Rattle.lower_plan.specs.Plans.{ArePlans}
use Rattle.lower_emit.specs.KnownOutcomes.{first_text}
use Rattle.lower_link.specs.inner.Linking.{words_of_block}
use Rattle.lower_link.specs.inner.Scrolls.{IsBlockOf}
use Rattle.lower_link.proofs.Compiling.{block_is, blocks_next, some, short, all_realise, all_follow}
use Rattle.lower_link.proofs.compiler.compile.Goals as goal

pub emit_with-requires-clause-plan : goal.emit_with-requires-clause-plan
emit_with-requires-clause-plan c =
    let P = c.args.program.now in
    let plans = c.deref-plan-items.result.now in
    let i = c.loop-plan.plan-index in
    let are = subst (ArePlans P) (sym c.deref-plan-items.ensures.value) c.in_ok-plans.ensures in
    (are.each i c.plan-item.result (slice_get_read plans (length plans) i c.plan-item.result refl c.loop-plan-test.true c.plan-item.is)).1

pub emit_with-requires-clause-table : goal.emit_with-requires-clause-table
emit_with-requires-clause-table c =
    let P = c.args.program.now in
    let sites = c.in_ok-first_texts.field-0.items in
    let firsts = c.in_ok-first_texts.ensures in
    record {
      printer = omega (arith, c.len.ensures, c.modules.result.now.ok.0, ap length c.modules.ensures.modules, length-map c.modules.result.now.items module_of);
      one_each = firsts.one_each;
      first = λ m lt. get_or_from_slice_get sites m (first_text P m) 0 (firsts.are m lt);
    }

pub loop-plan-preserved : goal.loop-plan-preserved
loop-plan-preserved c =
    let P = c.args.program.now in
    let plans = c.deref-plan-items.result.now in
    let i = c.loop-plan.plan-index in
    let plan = c.plan-item.result in
    let blocks = c.loop-plan.blocks.items in
    let block = c.in_ok-emit_with.field-0 in
    let are = subst (ArePlans P) (sym c.deref-plan-items.ensures.value) c.in_ok-plans.ensures in
    let here = block_is P c.modules.ensures.good plans are i plan block.items (slice_get_read plans (length plans) i plan refl c.loop-plan-test.true c.plan-item.is) c.in_ok-emit_with.ensures.code c.in_ok-emit_with.ensures.length in
    record {
      one_each = omega (arith, ap length c.in_ok-push.ensures.items, length-append blocks (block ∷ []), c.loop-plan.invariant.one_each);
      are = blocks_next P plans blocks c.push.new.self.items i block c.loop-plan.invariant.one_each c.loop-plan.invariant.are here c.in_ok-push.ensures.items;
    }

pub scroll_of-requires-clause-some : goal.scroll_of-requires-clause-some
scroll_of-requires-clause-some c =
    let P = c.args.program.now in
    let plans = c.deref-plan-items.result.now in
    let are = subst (ArePlans P) (sym c.deref-plan-items.ensures.value) c.in_ok-plans.ensures in
    let end : c.loop-plan.plan-index ≡ length P = omega (arith, c.loop-plan-test.false, c.loop-plan.auto.plan-index-end, are.one_each) in
    some P c.modules.ensures.good plans are c.loop-plan.blocks.items (omega (arith, c.loop-plan.invariant.one_each, end)) (λ m lt. c.loop-plan.invariant.are m (omega (arith, lt, end)))

pub scroll_of-requires-clause-short : goal.scroll_of-requires-clause-short
scroll_of-requires-clause-short c =
    let P = c.args.program.now in
    let plans = c.deref-plan-items.result.now in
    let are = subst (ArePlans P) (sym c.deref-plan-items.ensures.value) c.in_ok-plans.ensures in
    let end : c.loop-plan.plan-index ≡ length P = omega (arith, c.loop-plan-test.false, c.loop-plan.auto.plan-index-end, are.one_each) in
    short P c.modules.ensures.good plans are c.loop-plan.blocks.items (omega (arith, c.loop-plan.invariant.one_each, end)) (λ m lt. c.loop-plan.invariant.are m (omega (arith, lt, end)))

pub returns : goal.returns
returns c =
    let P = c.args.program.now in
    let plans = c.deref-plan-items.result.now in
    let are = subst (ArePlans P) (sym c.deref-plan-items.ensures.value) c.in_ok-plans.ensures in
    let end : c.loop-plan.plan-index ≡ length P = omega (arith, c.loop-plan-test.false, c.loop-plan.auto.plan-index-end, are.one_each) in
    let blocks = c.loop-plan.blocks.items in
    let count : length blocks ≡ length P = omega (arith, c.loop-plan.invariant.one_each, end) in
    let each : (m : ℕ) → m < length P → IsBlockOf P plans m (words_of_block blocks m) = λ m lt. c.loop-plan.invariant.are m (omega (arith, lt, end)) in
    record {
      realises = all_realise P c.modules.ensures.good plans are blocks count each c.scroll_of.result c.scroll_of.ensures;
      follows = all_follow P c.modules.ensures.good plans are blocks count each c.scroll_of.result c.scroll_of.ensures;
    }
