use Rattle.std.proofs.Common.{arith}
use Rattle.array_store.proofs.store.Store.live.Goals as goal

pub overflow_sub-result : goal.overflow_sub-result
overflow_sub-result c =
    let first = c.self.invariant.named in let size = c.self.inside.slots.ok.0 in omega (arith, first, size, c.len.ensures)
