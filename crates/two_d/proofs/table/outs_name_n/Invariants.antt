-- No expression so far names the input.
use Rattle.std.specs.Prelude.{ℕ, ◌<◌, slice_index_or}
use Rattle.two_d.specs.Good.{NamesN}
use Rattle.two_d.specs.Trees.{tree_of}
use Rattle.two_d.specs.declared.command.Exp.{Exp}
use Rattle.two_d.specs.declared.command.Side.{Side}
use Rattle.two_d.proofs.table.outs_name_n.Given as goal

abbrev pub invariant-loop-out : goal.invariant-loop-out
invariant-loop-out l = (k : ℕ) → k < l.out-index → (d : Exp × Side) → NamesN (tree_of (slice_index_or l.outs k d).0) → ⊥
