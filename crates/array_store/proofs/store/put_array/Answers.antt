use Rattle.std.proofs.Common.{arith, ◌<◌, length}
use Rattle.array_store.proofs.SlotLemmas.{arrays-set_some}
use Rattle.array_store.proofs.store.put_array.Goals as goal

pub returns-clause-arrays : goal.returns-clause-arrays
returns-clause-arrays c =
    arrays-set_some c.args.slots.now.items c.args.id c.args.words (let within : c.args.id < length c.args.slots.now.items = omega (arith, c.requires) in within)
