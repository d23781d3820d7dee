use Rattle.std.proofs.Common.{◌≡◌, ◌≤◌, Some, sym, ap, ◌∙◌, arith}
use Rattle.std.specs.FinMap as map
use Rattle.array_store.specs.inner.Slots.{arrays_of}
use Rattle.array_store.proofs.SlotLemmas.{get-slot_read, get-slot_past, words_of, at_zero, at_named, at_other}
use Rattle.array_store.proofs.store.array_of.Goals.{then-id-eq0-via-then-id-eq0, then-id-eq0-via-else-id-eq0+then-id-named}
use Rattle.array_store.proofs.store.array_of.Goals as goal

pub returns-then-id-eq0 : goal.returns-then-id-eq0
returns-then-id-eq0 c =
    let arrays = arrays_of c.args.zero.now c.args.named c.args.slots.now in
    elim c.then-id-eq0.branch as (λ _. Some c.args.zero.now ≡ map.get arrays c.args.id) [
      | then-id-eq0-via-then-id-eq0 w ↦ sym (ap (map.get arrays) w.if-id-eq0.true ∙ at_zero c.args.zero.now c.args.named c.args.slots.now)
      | then-id-eq0-via-else-id-eq0+then-id-named w ↦ sym (ap (map.get arrays) w.if-id-named.true ∙ at_named c.args.zero.now c.args.named c.args.slots.now)
    ]

pub returns-in_default : goal.returns-in_default
returns-in_default c =
    let positive : 1 ≤ c.args.id = omega (arith, c.if-id-eq0.false) in
    sym (at_other c.args.zero.now c.args.named c.args.slots.now c.args.id positive c.if-id-named.false ∙ get-slot_past c.args.slots.now c.args.id c.in_default.ensures.lookup.3)

pub returns-in-None : goal.returns-in-None
returns-in-None c =
    let positive : 1 ≤ c.args.id = omega (arith, c.if-id-eq0.false) in
    let read = c.in-Some.ensures.lookup.3 in
    sym (at_other c.args.zero.now c.args.named c.args.slots.now c.args.id positive c.if-id-named.false
    ∙ get-slot_read c.args.slots.now c.args.id c.in-Some.slot.now read.0 (read.1 _) ∙ ap words_of c.in-None.is)

pub returns-in-Some-slot : goal.returns-in-Some-slot
returns-in-Some-slot c =
    let positive : 1 ≤ c.args.id = omega (arith, c.if-id-eq0.false) in
    let read = c.in-Some.ensures.lookup.3 in
    ap Some c.as_slice.ensures.value
    ∙ sym (at_other c.args.zero.now c.args.named c.args.slots.now c.args.id positive c.if-id-named.false
    ∙ get-slot_read c.args.slots.now c.args.id c.in-Some.slot.now read.0 (read.1 _) ∙ ap words_of c.in-Some-slot.is)
