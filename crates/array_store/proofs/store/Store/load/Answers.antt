use Rattle.std.proofs.Common.{◌≡◌, ℕ, List, ◌+◌, ◌-◌, ◌<◌, ◌≤◌, [], Some, length, sym, ap, subst, ◌∙◌, arith}
use Rattle.std.specs.Prelude.{unwrap_or, vec_len}
use Rattle.std.specs.FinMap as map
use Rattle.um_word.specs.State.{array_at, live_words}
use Rattle.um_word.proofs.Live.{live_words-insert_old, insert_same}
use Rattle.array_store.specs.StoreView.{StoreView, IsStore, HasArray}
use Rattle.array_store.specs.Refusals.{words_loaded}
use Rattle.array_store.specs.inner.Slots.{arrays_of, identifiers_of, store_view, IsSoundInside}
use Rattle.array_store.specs.declared.store.Store.TheInside.{Inside}
use Rattle.array_store.proofs.HeldLemmas.{held-load, at_most_live, there_as}
use Rattle.array_store.proofs.SlotLemmas.{at_zero, at_named, at_other, words_at_zero, words_at_other, same_length}
use Rattle.array_store.proofs.store.Store.load.Goals.{then-id-eq0-via-then-id-eq0, then-id-eq0-via-else-id-eq0+then-id-self}
use Rattle.array_store.proofs.store.Store.load.Goals as goal

-- the words of array 0, and of the array that it names
loads_itself : (s : Inside) (id : ℕ) → map.get (store_view s).arrays id ≡ Some s.zero.items → array_at (store_view s).arrays id ≡ s.zero.items
loads_itself s id e = ap (λ o. unwrap_or o []) e

pub returns-then-id-eq0-clause-fits : goal.returns-then-id-eq0-clause-fits
returns-then-id-eq0-clause-fits c =
    let s = c.self.inside in
    let itself : map.get (store_view s).arrays c.args.id ≡ Some s.zero.items = elim c.then-id-eq0.branch as (λ _. map.get (store_view s).arrays c.args.id ≡ Some s.zero.items) [
      | then-id-eq0-via-then-id-eq0 w ↦ ap (map.get (store_view s).arrays) w.if-id-eq0.true ∙ at_zero s.zero.items s.named s.slots.items
      | then-id-eq0-via-else-id-eq0+then-id-self w ↦ ap (map.get (store_view s).arrays) w.if-id-self.true ∙ at_named s.zero.items s.named s.slots.items
    ] in
    let same : length (array_at (store_view s).arrays c.args.id) ≡ length s.zero.items = ap length (loads_itself s c.args.id itself) in
    let none : length (array_at (store_view s).arrays 0) ≡ length s.zero.items = ap length (words_at_zero s.zero.items s.named s.slots.items) in
    let most = at_most_live (store_view s).arrays 0 in
    let kept = c.self.invariant.held.orderly.words in
    subst (λ h. words_loaded h c.args.id ≤ h.limits.words) c.self.view_is (omega (arith, same, none, most, kept))

pub returns-then-id-eq0-clause-ok : goal.returns-then-id-eq0-clause-ok
returns-then-id-eq0-clause-ok c positive =
    let s = c.self.inside in
    let itself : map.get (store_view s).arrays c.args.id ≡ Some s.zero.items = elim c.then-id-eq0.branch as (λ _. map.get (store_view s).arrays c.args.id ≡ Some s.zero.items) [
      | then-id-eq0-via-then-id-eq0 w ↦ ap (map.get (store_view s).arrays) w.if-id-eq0.true ∙ at_zero s.zero.items s.named s.slots.items
      | then-id-eq0-via-else-id-eq0+then-id-self w ↦ ap (map.get (store_view s).arrays) w.if-id-self.true ∙ at_named s.zero.items s.named s.slots.items
    ] in
    let h = store_view s in
    let words = array_at h.arrays c.args.id in
    let same = insert_same h.arrays 0 words (at_zero s.zero.items s.named s.slots.items ∙ ap Some (sym (loads_itself s c.args.id itself))) in
    let P : StoreView → Type 0 = λ h. h ≡ record h { arrays = map.insert h.arrays 0 (array_at h.arrays c.args.id) } in
    subst P c.self.view_is (λ i. record { arrays = sym same i; identifiers = h.identifiers; limits = h.limits })

-- the words that the code counts
loaded : (s : Inside) → IsSoundInside s → (id len : ℕ) (source : List ℕ) → map.get (store_view s).arrays id ≡ Some source →
    len ≡ vec_len s.zero → s.words - len + length source ≡ words_loaded (store_view s) id
loaded s sound id len source found is =
    let long : length (array_at (store_view s).arrays id) ≡ length source = ap (λ o. length (unwrap_or o [])) found in
    let none : length (array_at (store_view s).arrays 0) ≡ length s.zero.items = ap length (words_at_zero s.zero.items s.named s.slots.items) in
    let size = s.zero.ok.0 in
    let counted = sound.words in
    omega (arith, long, none, size, counted, is)

within : (s : Inside) → IsSoundInside s → (len : ℕ) → len ≡ vec_len s.zero → len ≤ s.words
within s sound len is =
    let none : length (array_at (store_view s).arrays 0) ≡ length s.zero.items = ap length (words_at_zero s.zero.items s.named s.slots.items) in
    let most = at_most_live (store_view s).arrays 0 in
    let size = s.zero.ok.0 in
    let counted = sound.words in
    omega (arith, none, most, size, counted, is)

pub overflow_sub-words : goal.overflow_sub-words
overflow_sub-words c = within c.self.inside c.self.invariant c.len.result c.len.ensures

pub returns-then-words-self-clause-err : goal.returns-then-words-self-clause-err
returns-then-words-self-clause-err c =
    let s = c.self.inside in
    let found : map.get (store_view s).arrays c.args.id ≡ Some c.in-Some.source.now = (λ i. map.get (arrays_of (sym c.deref.ensures.value i) c.self.inside.named (sym c.deref-2.ensures.value i)) c.args.id) ∙ sym c.in-Some.ensures in
    let total = s.words - c.len.result + length c.in-Some.source.now in
    let P : StoreView → Type 0 = λ h. (1 ≤ c.args.id) × HasArray h c.args.id × (total ≡ words_loaded h c.args.id) × (h.limits.words < total) in
    subst P c.self.view_is
    (omega (arith, c.if-id-eq0.false), there_as _ c.in-Some.source.now found, loaded s c.self.invariant c.args.id c.len.result c.in-Some.source.now found c.len.ensures, c.if-words-self.true)

pub lend-requires-clause-there : goal.lend-requires-clause-there
lend-requires-clause-there c =
    let s = c.self.inside in
    let found : map.get (store_view s).arrays c.args.id ≡ Some c.in-Some.source.now = (λ i. map.get (arrays_of (sym c.deref.ensures.value i) c.self.inside.named (sym c.deref-2.ensures.value i)) c.args.id) ∙ sym c.in-Some.ensures in
    there_as _ c.in-Some.source.now (sym (at_other s.zero.items s.named s.slots.items c.args.id (omega (arith, c.if-id-eq0.false)) c.if-id-self.false) ∙ found)

pub returns-clause-fits : goal.returns-clause-fits
returns-clause-fits c =
    let s = c.self.inside in
    let found : map.get (store_view s).arrays c.args.id ≡ Some c.in-Some.source.now = (λ i. map.get (arrays_of (sym c.deref.ensures.value i) c.self.inside.named (sym c.deref-2.ensures.value i)) c.args.id) ∙ sym c.in-Some.ensures in
    let is = loaded s c.self.invariant c.args.id c.len.result c.in-Some.source.now found c.len.ensures in
    subst (λ h. words_loaded h c.args.id ≤ h.limits.words) c.self.view_is (omega (arith, is, c.if-words-self.false))

pub returns-clause-ok : goal.returns-clause-ok
returns-clause-ok c positive =
    let s = c.self.inside in
    let other = words_at_other s.zero.items s.named s.slots.items c.args.id (omega (arith, c.if-id-eq0.false)) c.if-id-self.false in
    let arrays : arrays_of c.lend.new.zero.items c.lend.new.named c.lend.new.slots.items ≡ map.insert (store_view s).arrays 0 (array_at (store_view s).arrays c.args.id) =
    c.lend.ensures.arrays ∙ ap (map.insert (store_view s).arrays 0) (sym other) in
    let size = same_length c.lend.new.slots s.slots c.lend.ensures.len in
    let with : StoreView → StoreView = λ h. record h { arrays = map.insert h.arrays 0 (array_at h.arrays c.args.id) } in
    let step : record {
      arrays = arrays_of c.lend.new.zero.items c.lend.new.named c.lend.new.slots.items;
      identifiers = identifiers_of c.lend.new.slots.items s.free.items;
      limits = s.limits;
    } ≡ with (store_view s) = λ i. record { arrays = arrays i; identifiers = record { made = size i - 1; abandoned = s.free.items }; limits = s.limits } in
    step ∙ ap with c.self.view_is

pub returns-clause-held : goal.returns-clause-held
returns-clause-held c =
    let s = c.self.inside in
    let found : map.get (store_view s).arrays c.args.id ≡ Some c.in-Some.source.now = (λ i. map.get (arrays_of (sym c.deref.ensures.value i) c.self.inside.named (sym c.deref-2.ensures.value i)) c.args.id) ∙ sym c.in-Some.ensures in
    let is = loaded s c.self.invariant c.args.id c.len.result c.in-Some.source.now found c.len.ensures in
    let other = words_at_other s.zero.items s.named s.slots.items c.args.id (omega (arith, c.if-id-eq0.false)) c.if-id-self.false in
    let arrays : arrays_of c.lend.new.zero.items c.lend.new.named c.lend.new.slots.items ≡ map.insert (store_view s).arrays 0 (array_at (store_view s).arrays c.args.id) =
    c.lend.ensures.arrays ∙ ap (map.insert (store_view s).arrays 0) (sym other) in
    let size = same_length c.lend.new.slots s.slots c.lend.ensures.len in
    let held : IsStore (record (store_view s) { arrays = map.insert (store_view s).arrays 0 (array_at (store_view s).arrays c.args.id) }) =
    held-load (store_view s) c.args.id c.self.invariant.held (omega (arith, is, c.if-words-self.false)) in
    subst IsStore (λ i. record { arrays = sym arrays i; identifiers = record { made = sym size i - 1; abandoned = s.free.items }; limits = s.limits }) held

pub invariant_of-self : goal.invariant_of-self
invariant_of-self c =
    let s = c.self.inside in
    let found : map.get (store_view s).arrays c.args.id ≡ Some c.in-Some.source.now = (λ i. map.get (arrays_of (sym c.deref.ensures.value i) c.self.inside.named (sym c.deref-2.ensures.value i)) c.args.id) ∙ sym c.in-Some.ensures in
    let other = words_at_other s.zero.items s.named s.slots.items c.args.id (omega (arith, c.if-id-eq0.false)) c.if-id-self.false in
    let arrays : arrays_of c.lend.new.zero.items c.lend.new.named c.lend.new.slots.items ≡ map.insert (store_view s).arrays 0 (array_at (store_view s).arrays c.args.id) =
    c.lend.ensures.arrays ∙ ap (map.insert (store_view s).arrays 0) (sym other) in
    let size = same_length c.lend.new.slots s.slots c.lend.ensures.len in
    let live = live_words-insert_old (store_view s).arrays 0 s.zero.items (array_at (store_view s).arrays c.args.id) (at_zero s.zero.items s.named s.slots.items) in
    let words = ap live_words arrays in
    let long : length (array_at (store_view s).arrays c.args.id) ≡ length c.in-Some.source.now = ap (λ o. length (unwrap_or o [])) found in
    let counted = c.self.invariant.words in
    let zeros = s.zero.ok.0 in
    let place = c.lend.ensures.named in
    let slots = c.lend.new.slots.ok.0 in
    let room = c.self.invariant.room in
    record {
      held = returns-clause-held c;
      named = omega (arith, place, slots);
      lent = c.lend.ensures.lent;
      words = omega (arith, live, words, long, counted, zeros, c.len.ensures, within s c.self.invariant c.len.result c.len.ensures);
      room = omega (arith, room, size);
    }
