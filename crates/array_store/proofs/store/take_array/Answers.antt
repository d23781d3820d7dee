use Rattle.std.proofs.Common.{◌≡◌, None, Some, set, sym, ap, ◌∙◌, arith}
use Rattle.um_word.specs.State.{array_at}
use Rattle.array_store.specs.inner.Slots.{slot_arrays}
use Rattle.array_store.proofs.SlotLemmas.{get-slot_read, array-slot_read, arrays-set_none, slot_of_array, words_of}
use Rattle.array_store.proofs.store.take_array.Goals as goal

pub index_mut-requires : goal.index_mut-requires
index_mut-requires c =
    let within = slot_of_array c.args.slots.now.items c.args.id _ c.requires in let size = c.args.slots.now.ok.0 in omega (arith, within, size)

pub unreachable-requires : goal.unreachable-requires
unreachable-requires c =
    let slots = c.args.slots.now.items in
    let within = slot_of_array slots c.args.id _ c.requires in
    let gone = get-slot_read slots c.args.id c.index_mut.result.now within c.index_mut.ensures.value in
    let none = sym c.take.ensures.value ∙ c.in-None.is in
    let clash : None ≡ Some (array_at (slot_arrays slots) c.args.id) = sym (gone ∙ ap words_of none) ∙ c.requires in
    cc

pub returns-clause-words : goal.returns-clause-words
returns-clause-words c =
    let slots = c.args.slots.now.items in
    let within = slot_of_array slots c.args.id _ c.requires in
    sym (array-slot_read slots c.args.id c.index_mut.result.now c.in-Some.words within c.index_mut.ensures.value (sym c.take.ensures.value ∙ c.in-Some.is))

pub returns-clause-arrays : goal.returns-clause-arrays
returns-clause-arrays c =
    let slots = c.args.slots.now.items in
    let within = slot_of_array slots c.args.id _ c.requires in
    ap (λ slot. slot_arrays (set slots c.args.id slot)) c.take.ensures.after ∙ arrays-set_none slots c.args.id within

pub returns-clause-within : goal.returns-clause-within
returns-clause-within c =
    let within = slot_of_array c.args.slots.now.items c.args.id _ c.requires in let size = c.args.slots.now.ok.0 in omega (arith, within, size)
