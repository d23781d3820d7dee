use Rattle.std.proofs.Common.{◌≡◌, None, length, ap, ◌∙◌, arith}
use Rattle.std.proofs.lemmas.List.{length_push}
use Rattle.array_store.specs.inner.Slots.{slot_arrays}
use Rattle.array_store.proofs.SlotLemmas.{arrays-push_none, slot_arrays-none}
use Rattle.array_store.proofs.store.empty_slots.Goals as goal

pub loop-init : goal.loop-init
loop-init c = record {
  empty = ap slot_arrays c.in_ok-slots.ensures.items ∙ slot_arrays-none;
  len = (let a = c.in_ok-slots.slots.ok.0 in let b = ap length c.in_ok-slots.ensures.items in omega (arith, a, b));
}

pub loop-preserved : goal.loop-preserved
loop-preserved c = record {
  empty = ap slot_arrays c.in_ok-push.ensures.items ∙ arrays-push_none c.loop.slots.items ∙ c.loop.invariant.empty;
  len = (let a = c.push.new.self.ok.0 in let b = ap length c.in_ok-push.ensures.items in let d = c.loop.slots.ok.0 in let e = length_push c.loop.slots.items None in let f = c.loop.invariant.len in omega (arith, a, b, d, e, f));
}
