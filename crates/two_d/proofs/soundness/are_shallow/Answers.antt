-- One more expression has few levels, and in the end all have.
use Rattle.std.specs.Prelude.{All, ◌≤◌}
use Rattle.std.proofs.Common.{arith, refl, subst}
use Rattle.std.proofs.lemmas.List.{take_all}
use Rattle.std.proofs.lemmas.List.Elements.{All-more}
use Rattle.two_d.specs.Trees.{depth, tree_of}
use Rattle.two_d.proofs.soundness.are_shallow.Goals as goal

pub loop-out-preserved : goal.loop-out-preserved
loop-out-preserved c =
    All-more (λ out. depth (tree_of out.0) ≤ 64) c.args.outs.now c.loop-out.out-index c.out-item.result (omega arith) c.loop-out.invariant
    (subst (λ out. depth (tree_of out.0) ≤ 64) c.out-item.is (c.is_shallow.ensures.0 c.if-not-is_shallow.false))

pub returns : goal.returns
returns c = (
  λ _. subst (All (λ out. depth (tree_of out.0) ≤ 64)) (take_all c.loop-out.out-index c.args.outs.now (omega arith)) c.loop-out.invariant,
  λ _. refl,
)
