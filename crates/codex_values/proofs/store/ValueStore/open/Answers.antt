-- Each piece opens to its text.
use Rattle.std.specs.Prelude.{◌<◌, length}
use Rattle.std.proofs.Common.{arith}
use Rattle.codex_values.specs.declared.shape.Shape.TheVariants.{Unit as UnitNode, Pair as PairNode, Inl as InlNode, Inr as InrNode}
use Rattle.codex_values.proofs.PieceLemmas.{value_is, opens_unit, opens_inl, opens_inr, opens_pair}
use Rattle.codex_values.proofs.store.ValueStore.open.Goals as goal

pub returns-in-Unit-clause-ok : goal.returns-in-Unit-clause-ok
returns-in-Unit-clause-ok c =
    let lt : c.in-Whole.at < length c.args.self.now = rw c.in-Whole.is at c.requires.piece in
    rw c.in-Whole.is (opens_unit c.args.self.now c.in-Whole.at c.args.stack.now.items c.requires.stack
    (value_is c.args.self.now c.in-Whole.at UnitNode lt c.in-Unit.ensures.node tt))

pub returns-in_ok-push-in-Inl-clause-ok : goal.returns-in_ok-push-in-Inl-clause-ok
returns-in_ok-push-in-Inl-clause-ok c =
    let lt : c.in-Whole.at < length c.args.self.now = rw c.in-Whole.is at c.requires.piece in
    rw c.in-Whole.is (opens_inl c.args.self.now c.in-Whole.at c.in-Inl.inner c.args.stack.now.items _ c.requires.stack (omega (arith, c.in-Inl.ensures.parts))
    (value_is c.args.self.now c.in-Whole.at (InlNode c.in-Inl.inner) lt c.in-Inl.ensures.node c.in-Inl.ensures.parts) c.in_ok-push-in-Inl.ensures.items)

pub returns-in_ok-push-in-Inr-clause-ok : goal.returns-in_ok-push-in-Inr-clause-ok
returns-in_ok-push-in-Inr-clause-ok c =
    let lt : c.in-Whole.at < length c.args.self.now = rw c.in-Whole.is at c.requires.piece in
    rw c.in-Whole.is (opens_inr c.args.self.now c.in-Whole.at c.in-Inr.inner c.args.stack.now.items _ c.requires.stack (omega (arith, c.in-Inr.ensures.parts))
    (value_is c.args.self.now c.in-Whole.at (InrNode c.in-Inr.inner) lt c.in-Inr.ensures.node c.in-Inr.ensures.parts) c.in_ok-push-in-Inr.ensures.items)

pub returns-in_ok-push-in-Pair-4-clause-ok : goal.returns-in_ok-push-in-Pair-4-clause-ok
returns-in_ok-push-in-Pair-4-clause-ok c =
    let lt : c.in-Whole.at < length c.args.self.now = rw c.in-Whole.is at c.requires.piece in
    rw c.in-Whole.is (opens_pair c.args.self.now c.in-Whole.at c.in-Pair.left c.in-Pair.right c.args.stack.now.items _ _ _ _ c.requires.stack
    (omega (arith, c.in-Pair.ensures.parts)) (omega (arith, c.in-Pair.ensures.parts))
    (value_is c.args.self.now c.in-Whole.at (PairNode c.in-Pair.left c.in-Pair.right) lt c.in-Pair.ensures.node c.in-Pair.ensures.parts)
    c.in_ok-push-in-Pair.ensures.items c.in_ok-push-in-Pair-2.ensures.items c.in_ok-push-in-Pair-3.ensures.items c.in_ok-push-in-Pair-4.ensures.items)
