use Rattle.std.proofs.Common.{◌≡◌, ◌+◌, ◌-◌, ◌<◌, ◌≤◌, ℕ, [], length, None, Some, refl, sym, ap, subst, ◌∙◌, arith}
use Rattle.std.specs.Prelude.{vec_len, unwrap_or}
use Rattle.std.specs.Ordering.{nat_cmp}
use Rattle.std.specs.FinMap as finite
use Rattle.um_word.specs.State.{array_at, live_words, words_in}
use Rattle.um_word.proofs.Arrays.{get-insert_same}
use Rattle.array_store.specs.StoreView.{StoreView, IsStore, most_live_arrays, most_live_words}
use Rattle.array_store.specs.Parts.{listed, parts_by, store_of_parts}
use Rattle.umix_base.specs.declared.limits.Limits.{Limits}
use Rattle.array_store.specs.inner.Slots.{slot_arrays, arrays_of, arrays_put, store_view}
use Rattle.array_store.specs.declared.store.Store.TheInside.{Inside}
use Rattle.std.proofs.lemmas.List.Elements.{All-weaker}
use Rattle.array_store.proofs.HeldLemmas.{Fit, AllFit, fit_none, fit-insert, held_from, there_as}
use Rattle.array_store.proofs.SlotLemmas.{unnamed}
use Rattle.array_store.proofs.PartLemmas.{identifiers_within, arrays_put-entries, parts_are_orderly, words_of_parts}
use Rattle.array_store.proofs.store.Store.restore.Goals as goal

pub fill_slots-requires-clause-within : goal.fill_slots-requires-clause-within
fill_slots-requires-clause-within c =
    let size = c.in_ok-slots.ensures.len in
    All-weaker (λ a. a.0 ≤ c.args.made) (λ a. a.0 < vec_len c.in_ok-slots.slots) (λ a h. omega (arith, h, size)) c.args.arrays.items
    (identifiers_within c.args.abandoned.items c.args.made c.args.arrays.items c.requires.parts.active)

pub returns-clause-store : goal.returns-clause-store
returns-clause-store c =
    let zero = c.args.zero.items in
    let slots : slot_arrays c.fill_slots.new.slots.items ≡ finite.from_entries (listed c.args.arrays.items) =
    c.fill_slots.ensures.arrays ∙ ap (arrays_put (listed c.args.arrays.items)) c.in_ok-slots.ensures.empty ∙ arrays_put-entries (listed c.args.arrays.items) in
    let arrays : arrays_of zero 0 c.fill_slots.new.slots.items ≡ finite.insert (finite.from_entries (listed c.args.arrays.items)) 0 zero =
    unnamed zero c.fill_slots.new.slots.items ∙ ap (λ m. finite.insert m 0 zero) slots in
    let made : length c.fill_slots.new.slots.items - 1 ≡ c.args.made =
    (let a = c.fill_slots.ensures.len in let b = c.in_ok-slots.ensures.len in let d = c.fill_slots.new.slots.ok.0 in omega (arith, a, b, d)) in
    λ i. record {
      arrays = arrays i;
      identifiers = record { made = made i; abandoned = c.in_ok-reserve.ensures.items i };
      limits = c.args.limits;
    }

pub returns-clause-held : goal.returns-clause-held
returns-clause-held c =
    let p = parts_by c.args.made c.args.abandoned.items c.args.zero.items c.args.arrays.items in
    let slots : slot_arrays c.fill_slots.new.slots.items ≡ finite.from_entries p.arrays =
    c.fill_slots.ensures.arrays ∙ ap (arrays_put p.arrays) c.in_ok-slots.ensures.empty ∙ arrays_put-entries p.arrays in
    let nothing : AllFit (slot_arrays c.in_ok-slots.slots.items) =
    subst AllFit (sym c.in_ok-slots.ensures.empty) (λ id. subst Fit (sym (ap (λ o. unwrap_or o []) (finite.get-empty nat_cmp id))) fit_none) in
    let others : AllFit (finite.from_entries p.arrays) = subst AllFit slots (c.fill_slots.ensures.fit nothing) in
    let zero : Fit p.zero = subst Fit c.deref.ensures.value c.words_fit.ensures in
    let most_arrays : c.args.limits.arrays ≡ most_live_arrays = ap (λ (l : Limits). l.arrays) c.requires.limits in
    let most_words : c.args.limits.words ≡ most_live_words = ap (λ (l : Limits). l.words) c.requires.limits in
    let arrays : c.args.limits.arrays ≤ most_live_arrays = omega (arith, most_arrays) in
    let words : c.args.limits.words ≤ most_live_words = omega (arith, most_words) in
    subst IsStore (sym (returns-clause-store c))
    (held_from (store_of_parts p c.args.limits) (there_as _ p.zero (get-insert_same (finite.from_entries p.arrays) 0 p.zero))
    (parts_are_orderly p c.args.limits c.requires.parts most_arrays most_words) arrays words
    (fit-insert (finite.from_entries p.arrays) 0 p.zero others zero))

pub invariant_of-result : goal.invariant_of-result
invariant_of-result c =
    let p = parts_by c.args.made c.args.abandoned.items c.args.zero.items c.args.arrays.items in
    let live : live_words (arrays_of p.zero 0 c.fill_slots.new.slots.items) ≡ length p.zero + words_in p.arrays =
    ap (λ (h : StoreView). live_words h.arrays) (returns-clause-store c) ∙ words_of_parts p c.requires.parts in
    let size = c.fill_slots.new.slots.ok.0 in
    let len = c.fill_slots.ensures.len in
    let all = c.in_ok-slots.ensures.len in
    record {
      held = returns-clause-held c;
      named = omega (arith, size, len, all);
      lent = λ positive. absurd (omega (arith, positive));
      words = (let a = c.len-2.ensures in let b = c.fill_slots.ensures.words in omega (arith, a, b, live));
      room = (let a = c.in_ok-reserve.ensures.ok in let l = c.in_ok-reserve.ensures.len in let n = c.len.ensures in let b = c.requires.parts.fewer in let d = c.args.abandoned.ok.0 in omega (arith, a, b, d, size, len, all));
    }
