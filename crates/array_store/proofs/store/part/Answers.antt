use Rattle.std.proofs.Common.{◌≡◌, ap, ◌∙◌}
use Rattle.std.specs.FinMap as map
use Rattle.array_store.specs.inner.Slots.{slot_arrays}
use Rattle.array_store.proofs.SlotLemmas.{parted}
use Rattle.array_store.proofs.store.part.Goals as goal

pub returns-clause-arrays : goal.returns-clause-arrays
returns-clause-arrays c =
    let z = c.args.zero.now.items in
    let old = c.args.slots.now.items in
    let copied : c.replace.new.dest.items ≡ z =
    ap (λ v. v.items) c.replace.ensures.after ∙ c.in_ok-copy.ensures.items ∙ c.deref.ensures.value in
    let put = c.put_array.ensures.arrays ∙ ap (λ v. map.insert (slot_arrays old) c.args.named.now v.items) c.replace.ensures.value in
    parted z c.replace.new.dest.items c.args.named.now old c.put_array.new.slots.items copied put
