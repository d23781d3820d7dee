use Rattle.std.proofs.Common.{◌≡◌, ◌-◌, set, length-set, sym, ap, subst, ◌∙◌, arith}
use Rattle.std.specs.FinMap as map
use Rattle.um_word.specs.State.{array_at, live_words}
use Rattle.um_word.proofs.Live.{live_words-insert_old}
use Rattle.array_store.specs.StoreView.{IsStore, HasArray}
use Rattle.array_store.specs.inner.Slots.{arrays_of, store_view}
use Rattle.array_store.proofs.HeldLemmas.{held-amend, word_there}
use Rattle.array_store.proofs.SlotLemmas.{same_length}
use Rattle.array_store.proofs.store.Store.amend.Goals as goal

pub returns-clause-there : goal.returns-clause-there
returns-clause-there c =
    word_there c.args.self.now c.args.id c.args.at c.in_ok-index.field-0 c.in_ok-index.ensures.ok

pub returns-clause-held : goal.returns-clause-held
returns-clause-held c =
    let h = store_view c.self.inside in
    let there : HasArray h c.args.id = subst (λ h. HasArray h c.args.id) (sym c.self.view_is) c.in_ok-index.ensures.ok.0 in
    let size = same_length c.write_word.new.slots c.self.inside.slots (c.write_word.ensures.len ∙ c.part.ensures.len) in
    let arrays : arrays_of c.write_word.new.zero.items c.part.new.named c.write_word.new.slots.items
    ≡ map.insert h.arrays c.args.id (set (array_at h.arrays c.args.id) c.args.at c.args.word) =
    c.write_word.ensures.arrays
    ∙ (λ i. map.insert (c.part.ensures.arrays i) c.args.id (set (array_at (c.part.ensures.arrays i) c.args.id) c.args.at c.args.word)) in
    let held : IsStore (record h { arrays = map.insert h.arrays c.args.id (set (array_at h.arrays c.args.id) c.args.at c.args.word) }) =
    held-amend h c.args.id c.args.at c.args.word c.self.invariant.held there c.ranges.word.fits in
    subst IsStore (λ i. record {
      arrays = sym arrays i;
      identifiers = record { made = sym size i - 1; abandoned = c.self.inside.free.items };
      limits = c.self.inside.limits;
    }) held

pub invariant_of-self-2 : goal.invariant_of-self-2
invariant_of-self-2 c =
    let h = store_view c.self.inside in
    let there : HasArray h c.args.id = subst (λ h. HasArray h c.args.id) (sym c.self.view_is) c.in_ok-index.ensures.ok.0 in
    let size = same_length c.write_word.new.slots c.self.inside.slots (c.write_word.ensures.len ∙ c.part.ensures.len) in
    let arrays : arrays_of c.write_word.new.zero.items c.part.new.named c.write_word.new.slots.items
    ≡ map.insert h.arrays c.args.id (set (array_at h.arrays c.args.id) c.args.at c.args.word) =
    c.write_word.ensures.arrays
    ∙ (λ i. map.insert (c.part.ensures.arrays i) c.args.id (set (array_at (c.part.ensures.arrays i) c.args.id) c.args.at c.args.word)) in
    let old = array_at h.arrays c.args.id in
    let live = live_words-insert_old h.arrays c.args.id old (set old c.args.at c.args.word) there in
    let as_long = length-set old c.args.at c.args.word in
    let words = ap live_words arrays in
    let counted = c.self.invariant.words in
    let room = c.self.invariant.room in
    let place = c.part.ensures.named in
    let long = same_length c.write_word.new.slots c.part.new.slots c.write_word.ensures.len in
    let parts = c.part.new.slots.ok.0 in
    record {
      held = returns-clause-held c;
      named = omega (arith, place, long, parts);
      lent = c.write_word.ensures.lent (c.part.ensures.lent c.self.invariant.lent);
      words = omega (arith, live, as_long, words, counted);
      room = omega (arith, room, size);
    }
