-- What is sent can be written where each expression has few levels and the sides differ.
use Rattle.std.specs.Prelude.{◌≤◌, All}
use Rattle.std.proofs.Common.{subst, sym, ◌∙◌}
use Rattle.two_d.specs.Trees.{AreApart, outs_of, depth, tree_of}
use Rattle.two_d.proofs.Alls.{sent_within, shallow_outs}
use Rattle.two_d.proofs.soundness.is_within.Goals as goal

pub returns-then-are_shallow : goal.returns-then-are_shallow
returns-then-are_shallow c = rw c.in-Send.is (
  λ apart. sent_within c.in-Send.outs.items
      (subst (All (λ out. depth (tree_of out.0) ≤ 64)) c.deref.ensures.value (c.are_shallow.ensures.0 c.if-are_shallow.true))
      (subst (λ outs. AreApart (outs_of outs)) c.deref-then-are_shallow.ensures.value (c.are_sides_apart.ensures.0 apart)),
  λ within. c.are_sides_apart.ensures.1 (subst (λ outs. AreApart (outs_of outs)) (sym c.deref-then-are_shallow.ensures.value) within.1),
)

pub returns-else-are_shallow : goal.returns-else-are_shallow
returns-else-are_shallow c = rw c.in-Send.is (
  λ shallow. absurd (let e = sym c.if-are_shallow.false ∙ shallow in cc),
  λ within. c.are_shallow.ensures.1 (subst (All (λ out. depth (tree_of out.0) ≤ 64)) (sym c.deref.ensures.value) (shallow_outs c.in-Send.outs.items within.0)),
)
