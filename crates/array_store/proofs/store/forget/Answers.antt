use Rattle.std.proofs.Common.{◌≤◌, sym, ap, ◌∙◌, subst}
use Rattle.std.specs.FinMap as map
use Rattle.um_word.proofs.Live.{get-remove_other}
use Rattle.array_store.specs.inner.Slots.{slot_arrays, arrays_of}
use Rattle.array_store.proofs.SlotLemmas.{named_removed, other_removed}
use Rattle.array_store.proofs.store.forget.Goals as goal

pub returns-then-id-named-clause-arrays : goal.returns-then-id-named-clause-arrays
returns-then-id-named-clause-arrays c words =
    let n = c.args.named.now in
    let slots = c.args.slots.now.items in
    let positive : 1 ≤ n = subst (λ k. 1 ≤ k) c.if-id-named.true c.requires.positive in
    named_removed words n slots positive (c.requires.lent positive) ∙ ap (map.remove (arrays_of words n slots)) (sym c.if-id-named.true)

pub returns-clause-arrays : goal.returns-clause-arrays
returns-clause-arrays c words =
    other_removed words c.args.named.now c.args.slots.now.items c.empty_slot.new.slots.items c.args.id c.requires.positive c.if-id-named.false c.empty_slot.ensures.arrays

pub returns-clause-lent : goal.returns-clause-lent
returns-clause-lent c positive =
    ap (λ arrays. map.get arrays c.args.named.now) c.empty_slot.ensures.arrays
    ∙ get-remove_other (slot_arrays c.args.slots.now.items) c.args.id c.args.named.now (λ e. c.if-id-named.false (sym e)) ∙ c.requires.lent positive
