use Rattle.std.proofs.Common.{inl, inr, ◌<◌, length, ◌≡◌, ◌-◌, ◌≤◌, Some, sym, ap, subst, ◌∙◌, arith}
use Rattle.std.proofs.lemmas.Bool.{cases_eq}
use Rattle.std.specs.FinMap as map
use Rattle.um_word.specs.State.{live_words}
use Rattle.um_word.specs.Rule.{handed_back}
use Rattle.um_word.proofs.Live.{live_words-remove, length_within_live}
use Rattle.um_word.proofs.Orderly.{some_live}
use Rattle.array_store.specs.StoreView.{StoreView, IsStore}
use Rattle.array_store.specs.inner.Slots.{arrays_of, identifiers_of, store_view}
use Rattle.array_store.proofs.HeldLemmas.{held-abandon, there_as}
use Rattle.array_store.proofs.SlotLemmas.{same_length, at_other, slot_of_array}
use Rattle.array_store.proofs.store.Store.abandon.Goals as goal

pub overflow_sub-self : goal.overflow_sub-self
overflow_sub-self c =
    let arrays = arrays_of c.self.inside.zero.items c.self.inside.named c.self.inside.slots.items in
    let found : map.get arrays c.args.id ≡ Some c.in-Some.words.now =
    (λ i. map.get (arrays_of (sym c.deref.ensures.value i) c.self.inside.named (sym c.deref-2.ensures.value i)) c.args.id) ∙ sym c.in-Some.ensures in
    let within = length_within_live arrays c.args.id c.in-Some.words.now found in
    let counted = c.self.invariant.words in
    omega (arith, within, counted)

pub push_reserved-requires : goal.push_reserved-requires
push_reserved-requires c =
    let arrays = arrays_of c.self.inside.zero.items c.self.inside.named c.self.inside.slots.items in
    let found : map.get arrays c.args.id ≡ Some c.in-Some.words.now =
    (λ i. map.get (arrays_of (sym c.deref.ensures.value i) c.self.inside.named (sym c.deref-2.ensures.value i)) c.args.id) ∙ sym c.in-Some.ensures in
    let positive : 1 ≤ c.args.id = omega (arith, c.if-id-eq0.false) in
    let h = store_view c.self.inside in
    let live = some_live h.limits h.identifiers arrays c.self.invariant.held.orderly c.args.id c.in-Some.words.now positive found in
    let counted = c.self.invariant.held.orderly.counted in
    let room = c.self.invariant.room in
    let size = c.self.inside.free.ok.0 in
    omega (arith, live, counted, room, size)

pub returns-clause-held : goal.returns-clause-held
returns-clause-held c =
    let h = store_view c.self.inside in
    let arrays = arrays_of c.self.inside.zero.items c.self.inside.named c.self.inside.slots.items in
    let found : map.get arrays c.args.id ≡ Some c.in-Some.words.now =
    (λ i. map.get (arrays_of (sym c.deref.ensures.value i) c.self.inside.named (sym c.deref-2.ensures.value i)) c.args.id) ∙ sym c.in-Some.ensures in
    let positive : 1 ≤ c.args.id = omega (arith, c.if-id-eq0.false) in
    let size = same_length c.forget.new.slots c.self.inside.slots c.forget.ensures.len in
    let new : StoreView = record h { arrays = map.remove arrays c.args.id; identifiers = handed_back h.identifiers c.args.id } in
    let held : IsStore new = held-abandon h c.args.id c.self.invariant.held positive (there_as _ c.in-Some.words.now found) in
    let removed = c.forget.ensures.arrays c.self.inside.zero.items in
    subst IsStore (λ i. record {
      arrays = sym removed i;
      identifiers = record { made = sym size i - 1; abandoned = sym c.push_reserved.ensures.items i };
      limits = c.self.inside.limits;
    }) held

pub invariant_of-self : goal.invariant_of-self
invariant_of-self c =
    let arrays = arrays_of c.self.inside.zero.items c.self.inside.named c.self.inside.slots.items in
    let found : map.get arrays c.args.id ≡ Some c.in-Some.words.now =
    (λ i. map.get (arrays_of (sym c.deref.ensures.value i) c.self.inside.named (sym c.deref-2.ensures.value i)) c.args.id) ∙ sym c.in-Some.ensures in
    let size = same_length c.forget.new.slots c.self.inside.slots c.forget.ensures.len in
    let live = live_words-remove arrays c.args.id c.in-Some.words.now found in
    let positive : 1 ≤ c.args.id = omega (arith, c.if-id-eq0.false) in
    let words : live_words (arrays_of c.self.inside.zero.items c.forget.new.named c.forget.new.slots.items) ≡ live_words (map.remove arrays c.args.id) =
    ap live_words (c.forget.ensures.arrays c.self.inside.zero.items) in
    let counted = c.self.invariant.words in
    let room = c.self.invariant.room in
    let capacity = c.push_reserved.ensures.capacity in
    record {
      held = returns-clause-held c;
      named = (let place = c.forget.ensures.named in let long = c.forget.new.slots.ok.0 in omega (arith, place, long));
      lent = c.forget.ensures.lent;
      words = omega (arith, live, words, counted);
      room = omega (arith, room, size, capacity);
    }

pub returns-clause-ok : goal.returns-clause-ok
returns-clause-ok c =
    let positive : 1 ≤ c.args.id = omega (arith, c.if-id-eq0.false) in
    let removed = c.forget.ensures.arrays c.self.inside.zero.items in
    let size = same_length c.forget.new.slots c.self.inside.slots c.forget.ensures.len in
    let without : StoreView → StoreView = λ h. record h { arrays = map.remove h.arrays c.args.id; identifiers = handed_back h.identifiers c.args.id } in
    let step : record {
      arrays = arrays_of c.self.inside.zero.items c.forget.new.named c.forget.new.slots.items;
      identifiers = identifiers_of c.forget.new.slots.items c.push_reserved.new.self.items;
      limits = c.self.inside.limits;
    } ≡ without (store_view c.self.inside) = λ i. record {
      arrays = removed i;
      identifiers = record { made = size i - 1; abandoned = c.push_reserved.ensures.items i };
      limits = c.self.inside.limits;
    } in
    step ∙ ap without c.self.view_is

pub forget-requires-clause-within : goal.forget-requires-clause-within
forget-requires-clause-within c =
    let arrays = arrays_of c.self.inside.zero.items c.self.inside.named c.self.inside.slots.items in
    let slots = c.self.inside.slots.items in
    let found : map.get arrays c.args.id ≡ Some c.in-Some.words.now =
    (λ i. map.get (arrays_of (sym c.deref.ensures.value i) c.self.inside.named (sym c.deref-2.ensures.value i)) c.args.id) ∙ sym c.in-Some.ensures in
    let positive : 1 ≤ c.args.id = omega (arith, c.if-id-eq0.false) in
    let within : c.args.id < length slots = elim (cases_eq c.args.id c.self.inside.named) as (λ _. c.args.id < length slots) [
      | inl e ↦ let place = c.self.invariant.named in omega (arith, place, e)
      | inr ne ↦ slot_of_array slots c.args.id c.in-Some.words.now (sym (at_other c.self.inside.zero.items c.self.inside.named slots c.args.id positive ne) ∙ found)
    ] in
    let size = c.self.inside.slots.ok.0 in
    omega (arith, within, size)
