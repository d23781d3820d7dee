-- The value is what its node says.
use Rattle.std.proofs.Common.{◌∙◌, sym, ap}
use Rattle.codex_values.specs.Store.{values_of}
use Rattle.codex_values.specs.declared.shape.Shape.TheVariants.{Unit as UnitNode, Pair as PairNode, Inl as InlNode, Inr as InrNode}
use Rattle.codex_values.proofs.PieceLemmas.{value_is}
use Rattle.two_d.specs.Meaning as mean
use Rattle.two_d.specs.Trails.{trail_of, trails_of}
use Rattle.fire_core.specs.inner.Rows.{cell_in}
use Rattle.fire_core.proofs.ActLemmas.{IfOk-same}
use Rattle.fire_core.proofs.act.chosen.Goals as goal

pub returns-in-Inl-clause-cell : goal.returns-in-Inl-clause-cell
returns-in-Inl-clause-cell c =
    c.sent_to.ensures.cell (values_of c.args.values.now) (trails_of c.args.trails.now)
    ∙ sym (ap (mean.chosen c.args.left c.args.right (trail_of c.args.site)) (value_is c.args.values.now c.args.at (InlNode c.in-Inl.inner) c.requires c.in-Inl.ensures.node c.in-Inl.ensures.parts))

pub returns-in-Inr-clause-cell : goal.returns-in-Inr-clause-cell
returns-in-Inr-clause-cell c =
    c.sent_to-in-Inr.ensures.cell (values_of c.args.values.now) (trails_of c.args.trails.now)
    ∙ sym (ap (mean.chosen c.args.left c.args.right (trail_of c.args.site)) (value_is c.args.values.now c.args.at (InrNode c.in-Inr.inner) c.requires c.in-Inr.ensures.node c.in-Inr.ensures.parts))

pub returns-in-Unit-clause-cell : goal.returns-in-Unit-clause-cell
returns-in-Unit-clause-cell c =
    IfOk-same (cell_in (values_of c.args.values.now) (trails_of c.stuck_at.new.trails)) _ _ _ (c.stuck_at.ensures.cell (values_of c.args.values.now))
    (sym (ap (mean.chosen c.args.left c.args.right (trail_of c.args.site)) (value_is c.args.values.now c.args.at UnitNode c.requires c.in-Unit.ensures.node tt)))

pub returns-in-Pair-clause-cell : goal.returns-in-Pair-clause-cell
returns-in-Pair-clause-cell c =
    IfOk-same (cell_in (values_of c.args.values.now) (trails_of c.stuck_at-in-Pair.new.trails)) _ _ _ (c.stuck_at-in-Pair.ensures.cell (values_of c.args.values.now))
    (sym (ap (mean.chosen c.args.left c.args.right (trail_of c.args.site)) (value_is c.args.values.now c.args.at (PairNode c.in-Pair.field-0 c.in-Pair.field-1) c.requires c.in-Pair.ensures.node c.in-Pair.ensures.parts)))
