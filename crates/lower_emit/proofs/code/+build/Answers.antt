-- The parts of an expression are built one after the other.
use Rattle.std.proofs.Common.{ap}
use Rattle.two_d.specs.Trees.{tree_of}
use Rattle.lower_emit.proofs.Adding.{adds_pair, adds_inl, adds_inr}
use Rattle.lower_emit.proofs.code.+build.Goals as goal

pub returns-in_ok-make_cell-in-Pair-clause-code : goal.returns-in_ok-make_cell-in-Pair-clause-code
returns-in_ok-make_cell-in-Pair-clause-code t c =
    adds_pair c.args.code.now c.build.new.code c.build-in-Pair.new.code c.make_cell-in-Pair.new.self (tree_of c.args.exp.now) (tree_of c.in-Pair.first.value) (tree_of c.in-Pair.second.value)
    (tree_of c.deref.result.now) (tree_of c.deref-in-Pair.result.now) c.args.north c.args.west c.args.free
    c.in_ok-first-in-Pair.first.slot c.in_ok-first-in-Pair.first.free c.in_ok-second-in-Pair.second.slot c.in_ok-second-in-Pair.second.free
    (ap tree_of c.in-Pair.is) (ap tree_of c.deref.ensures) (ap tree_of c.deref-in-Pair.ensures)
    c.in_ok-first-in-Pair.ensures.slot c.in_ok-first-in-Pair.ensures.free c.in_ok-second-in-Pair.ensures.slot c.in_ok-second-in-Pair.ensures.free
    c.in_ok-first-in-Pair.ensures.code c.in_ok-second-in-Pair.ensures.code c.in_ok-make_cell-in-Pair.ensures

pub returns-in_ok-make_cell-in-Inl-clause-code : goal.returns-in_ok-make_cell-in-Inl-clause-code
returns-in_ok-make_cell-in-Inl-clause-code t c =
    adds_inl c.args.code.now c.build-in-Inl.new.code c.make_cell-in-Inl.new.self (tree_of c.args.exp.now) (tree_of c.in-Inl.inner.value) (tree_of c.deref-in-Inl.result.now)
    c.args.north c.args.west c.args.free c.in_ok-inner-in-Inl.inner.slot c.in_ok-inner-in-Inl.inner.free (ap tree_of c.in-Inl.is) (ap tree_of c.deref-in-Inl.ensures)
    c.in_ok-inner-in-Inl.ensures.slot c.in_ok-inner-in-Inl.ensures.free c.in_ok-inner-in-Inl.ensures.code c.in_ok-make_cell-in-Inl.ensures

pub returns-in_ok-make_cell-in-Inr-clause-code : goal.returns-in_ok-make_cell-in-Inr-clause-code
returns-in_ok-make_cell-in-Inr-clause-code t c =
    adds_inr c.args.code.now c.build-in-Inr.new.code c.make_cell-in-Inr.new.self (tree_of c.args.exp.now) (tree_of c.in-Inr.inner.value) (tree_of c.deref-in-Inr.result.now)
    c.args.north c.args.west c.args.free c.in_ok-inner-in-Inr.inner.slot c.in_ok-inner-in-Inr.inner.free (ap tree_of c.in-Inr.is) (ap tree_of c.deref-in-Inr.ensures)
    c.in_ok-inner-in-Inr.ensures.slot c.in_ok-inner-in-Inr.ensures.free c.in_ok-inner-in-Inr.ensures.code c.in_ok-make_cell-in-Inr.ensures
