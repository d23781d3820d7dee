use Rattle.std.proofs.Common.{◌≡◌, ◌≢◌, None, Some, ℕ, List, Option, ◌+◌, ◌-◌, ◌<◌, ◌≤◌, replicate, sym, ap, subst, ◌∙◌, arith}
use Rattle.std.specs.Prelude.{vec_len}
use Rattle.std.specs.Global.{Vec}
use Rattle.std.specs.FinMap as map
use Rattle.um_word.specs.State.{live_words}
use Rattle.um_word.specs.Rule.{next_identifier, taken}
use Rattle.um_word.proofs.Live.{live_words-insert_new}
use Rattle.um_word.proofs.Orderly.{takes}
use Rattle.array_store.specs.StoreView.{StoreView, IsStore}
use Rattle.array_store.specs.Refusals.{FitsAllocation, arrays_with, words_with}
use Rattle.array_store.specs.inner.Slots.{slot_arrays, arrays_of, identifiers_of, store_view, IsSoundInside}
use Rattle.array_store.specs.declared.store.Store.TheInside.{Inside}
use Rattle.array_store.proofs.HeldLemmas.{held-allocate}
use Rattle.array_store.proofs.SlotLemmas.{other_put, at_named}
use Rattle.um_word.proofs.Arrays.{get-insert_other}
use Rattle.array_store.proofs.store.Store.allocate.Goals as goal

-- there is a slot for array 0
some_slot : (s : Inside) → IsSoundInside s → 1 ≤ vec_len s.slots
some_slot s sound = let first = sound.named in let size = s.slots.ok.0 in omega (arith, first, size)

-- the next identifier is not that of the array that array 0 names
not_named : (s : Inside) → IsSoundInside s → next_identifier (store_view s).identifiers ≢ s.named
not_named s sound e =
    let h = store_view s in
    let next = takes h.limits h.identifiers h.arrays sound.held.orderly in
    let clash : None ≡ Some s.zero.items = sym next.fresh ∙ ap (map.get h.arrays) e ∙ at_named s.zero.items s.named s.slots.items in
    cc

-- what the arrays are once the next identifier's slot was filled
allocated : (s : Inside) → IsSoundInside s → (words : List ℕ) (new : List (Option (Vec ℕ))) →
    slot_arrays new ≡ map.insert (slot_arrays s.slots.items) (next_identifier (store_view s).identifiers) words →
    arrays_of s.zero.items s.named new ≡ map.insert (arrays_of s.zero.items s.named s.slots.items) (next_identifier (store_view s).identifiers) words
allocated s sound words new e =
    let h = store_view s in
    let next = takes h.limits h.identifiers h.arrays sound.held.orderly in
    other_put s.zero.items words s.named s.slots.items new (next_identifier h.identifiers) next.positive (not_named s sound) e

-- what the code counts
arrays_are : (s : Inside) → IsSoundInside s → (n m : ℕ) → n ≡ vec_len s.slots → m ≡ vec_len s.free → n - m ≡ arrays_with (store_view s)
arrays_are s sound n m slots free =
    let some = some_slot s sound in
    let counted = sound.held.orderly.counted in
    let a = s.slots.ok.0 in
    let b = s.free.ok.0 in
    omega (arith, some, counted, a, b, slots, free)

words_are : (s : Inside) → IsSoundInside s → (size : ℕ) → s.words + size ≡ words_with (store_view s) size
words_are s sound size = ap (λ n. n + size) sound.words

fits_both : (s : Inside) → IsSoundInside s → (n m size : ℕ) → n ≡ vec_len s.slots → m ≡ vec_len s.free →
    n - m ≤ s.limits.arrays → s.words + size ≤ s.limits.words → FitsAllocation (store_view s) size
fits_both s sound n m size slots free arrays words =
    ((let e = arrays_are s sound n m slots free in omega (arith, e, arrays)), (let e = words_are s sound size in omega (arith, e, words)))

pub returns-then-words-self-clause-err : goal.returns-then-words-self-clause-err
returns-then-words-self-clause-err c =
    let s = c.self.inside in
    let P : StoreView → Type 0 = λ h. (arrays_with h ≤ h.limits.arrays) × (s.words + c.args.size ≡ words_with h c.args.size) × (h.limits.words < s.words + c.args.size) in
    let arrays = arrays_are s c.self.invariant c.len.result c.len-2.result c.len.ensures c.len-2.ensures in
    subst P c.self.view_is
    (omega (arith, arrays, c.if-arrays-self.false), words_are s c.self.invariant c.args.size, c.if-words-self.true)

pub returns-in_default-clause-err : goal.returns-in_default-clause-err
returns-in_default-clause-err c =
    subst (λ h. FitsAllocation h c.args.size) c.self.view_is
    (fits_both c.self.inside c.self.invariant c.len.result c.len-2.result c.args.size c.len.ensures c.len-2.ensures c.if-arrays-self.false c.if-words-self.false)

pub put_next-requires-clause-some : goal.put_next-requires-clause-some
put_next-requires-clause-some c = some_slot c.self.inside c.self.invariant

pub returns-in_default-put_next-clause-err : goal.returns-in_default-put_next-clause-err
returns-in_default-put_next-clause-err c =
    subst (λ h. FitsAllocation h c.args.size) c.self.view_is
    (fits_both c.self.inside c.self.invariant c.len.result c.len-2.result c.args.size c.len.ensures c.len-2.ensures c.if-arrays-self.false c.if-words-self.false)

pub returns-clause-fits : goal.returns-clause-fits
returns-clause-fits c =
    subst (λ h. FitsAllocation h c.args.size) c.self.view_is
    (fits_both c.self.inside c.self.invariant c.len.result c.len-2.result c.args.size c.len.ensures c.len-2.ensures c.if-arrays-self.false c.if-words-self.false)

pub returns-clause-held : goal.returns-clause-held
returns-clause-held c =
    let h = store_view c.self.inside in
    let id = next_identifier h.identifiers in
    let fits = fits_both c.self.inside c.self.invariant c.len.result c.len-2.result c.args.size c.len.ensures c.len-2.ensures c.if-arrays-self.false c.if-words-self.false in
    let zeros : c.in-Ok.zeros.items ≡ replicate c.args.size 0 = c.in-Ok.ensures.items_if_clones_equal (λ y e. e) in
    let arrays : arrays_of c.self.inside.zero.items c.self.inside.named c.put_next.new.slots.items ≡ map.insert h.arrays id (replicate c.args.size 0) =
    allocated c.self.inside c.self.invariant c.in-Ok.zeros.items c.put_next.new.slots.items c.in-Ok-put_next.ensures.arrays ∙ ap (map.insert h.arrays id) zeros in
    let new : StoreView = record h { arrays = map.insert h.arrays id (replicate c.args.size 0); identifiers = taken h.identifiers } in
    let held : IsStore new = held-allocate h c.args.size c.self.invariant.held fits in
    subst IsStore (λ i. record {
      arrays = sym arrays i;
      identifiers = sym c.in-Ok-put_next.ensures.identifiers i;
      limits = c.self.inside.limits;
    }) held

pub invariant_of-self-2 : goal.invariant_of-self-2
invariant_of-self-2 c =
    let h = store_view c.self.inside in
    let id = next_identifier h.identifiers in
    let next = takes h.limits h.identifiers h.arrays c.self.invariant.held.orderly in
    let live = live_words-insert_new h.arrays id c.in-Ok.zeros.items next.fresh in
    let words : live_words (arrays_of c.self.inside.zero.items c.self.inside.named c.put_next.new.slots.items) ≡ live_words (map.insert h.arrays id c.in-Ok.zeros.items) =
    ap live_words (allocated c.self.inside c.self.invariant c.in-Ok.zeros.items c.put_next.new.slots.items c.in-Ok-put_next.ensures.arrays) in
    let counted = c.self.invariant.words in
    let long = c.in-Ok.ensures.len in
    let size = c.in-Ok.zeros.ok.0 in
    record {
      held = returns-clause-held c;
      named = (let place = c.self.invariant.named in let more = c.in-Ok-put_next.ensures.some in omega (arith, place, more));
      lent = λ positive.
          ap (λ arrays. map.get arrays c.self.inside.named) c.in-Ok-put_next.ensures.arrays
          ∙ get-insert_other (slot_arrays c.self.inside.slots.items) id c.in-Ok.zeros.items c.self.inside.named (λ e. not_named c.self.inside c.self.invariant (sym e))
          ∙ c.self.invariant.lent positive;
      words = omega (arith, live, words, counted, long, size);
      room = c.in-Ok-put_next.ensures.room;
    }

pub returns-clause-made : goal.returns-clause-made
returns-clause-made c =
    let zeros : c.in-Ok.zeros.items ≡ replicate c.args.size 0 = c.in-Ok.ensures.items_if_clones_equal (λ y e. e) in
    let h = store_view c.self.inside in
    let arrays : arrays_of c.self.inside.zero.items c.self.inside.named c.put_next.new.slots.items ≡ map.insert h.arrays (next_identifier h.identifiers) (replicate c.args.size 0) =
    allocated c.self.inside c.self.invariant c.in-Ok.zeros.items c.put_next.new.slots.items c.in-Ok-put_next.ensures.arrays
    ∙ ap (map.insert h.arrays (next_identifier h.identifiers)) zeros in
    let with : StoreView → StoreView = λ h. record h { arrays = map.insert h.arrays (next_identifier h.identifiers) (replicate c.args.size 0); identifiers = taken h.identifiers } in
    let step : record {
      arrays = arrays_of c.self.inside.zero.items c.self.inside.named c.put_next.new.slots.items;
      identifiers = identifiers_of c.put_next.new.slots.items c.put_next.new.free.items;
      limits = c.self.inside.limits;
    } ≡ with h = λ i. record {
      arrays = arrays i;
      identifiers = c.in-Ok-put_next.ensures.identifiers i;
      limits = c.self.inside.limits;
    } in
    step ∙ ap with c.self.view_is
