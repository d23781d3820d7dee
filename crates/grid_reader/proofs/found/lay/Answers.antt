use Rattle.std.proofs.Common.{inl, inr, arith}
use Rattle.grid_reader.proofs.found.lay.Goals as goal

pub returns-clause-outside : goal.returns-clause-outside
returns-clause-outside c k (inl before) = c.columns.invariant.outside k (inl before)
returns-clause-outside c k (inr after) = c.columns.invariant.outside k (inr (omega arith))
