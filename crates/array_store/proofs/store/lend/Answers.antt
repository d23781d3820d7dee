use Rattle.std.proofs.Common.{◌≡◌, sym, ap, ◌∙◌}
use Rattle.std.specs.FinMap as map
use Rattle.um_word.specs.State.{array_at}
use Rattle.um_word.proofs.Live.{get-remove_same}
use Rattle.um_word.proofs.Arrays.{get-insert_other}
use Rattle.array_store.specs.inner.Slots.{slot_arrays, arrays_of}
use Rattle.array_store.proofs.SlotLemmas.{lent_first, lent_next}
use Rattle.array_store.proofs.store.lend.Goals as goal

pub returns-then-other-eq0-clause-arrays : goal.returns-then-other-eq0-clause-arrays
returns-then-other-eq0-clause-arrays c =
    let z = c.args.zero.now.items in
    let old = c.args.slots.now.items in
    let new = c.take_array-words.new.slots.items in
    let words = array_at (slot_arrays old) c.args.id in
    let has : c.replace-before.new.dest.items ≡ words = ap (λ v. v.items) c.replace-before.ensures.after ∙ c.take_array-words.ensures.words in
    let none : c.args.named.now ≡ 0 = sym c.replace-other.ensures.value ∙ c.if-other-eq0.true in
    (λ i. arrays_of (has i) (c.replace-other.ensures.after i) new)
    ∙ lent_first z words c.args.id old new c.requires.there c.take_array-words.ensures.arrays
    ∙ ap (λ n. map.insert (arrays_of z n old) 0 words) (sym none)

pub returns-then-other-eq0-clause-lent : goal.returns-then-other-eq0-clause-lent
returns-then-other-eq0-clause-lent c positive =
    (λ i. map.get (c.take_array-words.ensures.arrays i) (c.replace-other.ensures.after i)) ∙ get-remove_same (slot_arrays c.args.slots.now.items) c.args.id

pub returns-clause-arrays : goal.returns-clause-arrays
returns-clause-arrays c =
    let z = c.args.zero.now.items in
    let old = c.args.slots.now.items in
    let new = c.put_array.new.slots.items in
    let n = c.args.named.now in
    let words = array_at (slot_arrays old) c.args.id in
    let has : c.replace-before.new.dest.items ≡ words = ap (λ v. v.items) c.replace-before.ensures.after ∙ c.take_array-words.ensures.words in
    let put : slot_arrays new ≡ map.insert (map.remove (slot_arrays old) c.args.id) n z =
    c.put_array.ensures.arrays ∙ (λ i. map.insert (c.take_array-words.ensures.arrays i) (c.replace-other.ensures.value i) (ap (λ v. v.items) c.replace-before.ensures.value i)) in
    (λ i. arrays_of (has i) (c.replace-other.ensures.after i) new) ∙ lent_next z words n c.args.id old new c.requires.other c.requires.there put

pub returns-clause-lent : goal.returns-clause-lent
returns-clause-lent c positive =
    let old = c.args.slots.now.items in
    let n = c.args.named.now in
    let put : slot_arrays c.put_array.new.slots.items ≡ map.insert (map.remove (slot_arrays old) c.args.id) n c.args.zero.now.items =
    c.put_array.ensures.arrays ∙ (λ i. map.insert (c.take_array-words.ensures.arrays i) (c.replace-other.ensures.value i) (ap (λ v. v.items) c.replace-before.ensures.value i)) in
    (λ i. map.get (put i) (c.replace-other.ensures.after i))
    ∙ get-insert_other (map.remove (slot_arrays old) c.args.id) n c.args.zero.now.items c.args.id c.requires.other ∙ get-remove_same (slot_arrays old) c.args.id
