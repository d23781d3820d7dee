-- The expressions so far have few levels.
use Rattle.std.specs.Prelude.{All, ◌≤◌, take}
use Rattle.two_d.specs.Trees.{depth, tree_of}
use Rattle.two_d.proofs.soundness.are_shallow.Given as goal

abbrev pub invariant-loop-out : goal.invariant-loop-out
invariant-loop-out l = All (λ out. depth (tree_of out.0) ≤ 64) (take l.out-index l.outs)
