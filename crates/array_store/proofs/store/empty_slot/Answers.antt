use Rattle.std.proofs.Common.{arith, ◌<◌, length}
use Rattle.array_store.proofs.SlotLemmas.{arrays-set_none}
use Rattle.array_store.proofs.store.empty_slot.Goals as goal

pub returns-clause-arrays : goal.returns-clause-arrays
returns-clause-arrays c =
    arrays-set_none c.args.slots.now.items c.args.id (let within : c.args.id < length c.args.slots.now.items = omega (arith, c.requires) in within)
