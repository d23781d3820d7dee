-- The box is there, its inputs are, and what it does is the table's.
use Rattle.std.proofs.Common.{sym, ◌∙◌, ap, subst, arith}
use Rattle.codex_values.specs.Store.{values_of}
use Rattle.two_d.specs.Steps.{instance_at, firing}
use Rattle.two_d.specs.Trails.{trails_of}
use Rattle.fire_core.specs.inner.Acts.{effect_in}
use Rattle.fire_core.specs.inner.Instances.{InstancesView}
use Rattle.fire_core.specs.inner.Rows.{RowFits, row_of}
use Rattle.fire_core.proofs.ActLemmas.{IfOk-some}
use Rattle.fire_core.proofs.FireLemmas.{can_go, go-module, go-box, go-firing, go-inputs}
use Rattle.fire_core.proofs.TableLemmas.{instance-at, table-kept, kept-kept}
use Rattle.fire_core.proofs.instances.Instances.effect.Goals as goal

pub row-row-requires : goal.row-row-requires
row-row-requires c =
    let go = can_go c.args.program.now c.self.inside.values c.self.inside.trails c.self.inside.rows _ c.args.number c.args.bx
    (ap (λ (h : InstancesView). h.table) c.self.view_is) c.modules-modules.ensures.good c.requires.state c.requires.ready in
    go.within

pub index-module-requires : goal.index-module-requires
index-module-requires c =
    let go = can_go c.args.program.now c.self.inside.values c.self.inside.trails c.self.inside.rows _ c.args.number c.args.bx
    (ap (λ (h : InstancesView). h.table) c.self.view_is) c.modules-modules.ensures.good c.requires.state c.requires.ready in
    omega (arith, go-module _ _ _ _ c.args.number c.args.bx go _ c.modules-modules.ensures.modules (row_of c.row-row.result.now) c.row-row.ensures)

pub index-form-requires : goal.index-form-requires
index-form-requires c =
    let go = can_go c.args.program.now c.self.inside.values c.self.inside.trails c.self.inside.rows _ c.args.number c.args.bx
    (ap (λ (h : InstancesView). h.table) c.self.view_is) c.modules-modules.ensures.good c.requires.state c.requires.ready in
    omega (arith, go-box _ _ _ _ c.args.number c.args.bx go _ c.modules-modules.ensures.modules (row_of c.row-row.result.now) c.row-row.ensures c.index-module.result.now c.index-module.ensures)

pub unreachable-requires : goal.unreachable-requires
unreachable-requires c =
    let go = can_go c.args.program.now c.self.inside.values c.self.inside.trails c.self.inside.rows _ c.args.number c.args.bx
    (ap (λ (h : InstancesView). h.table) c.self.view_is) c.modules-modules.ensures.good c.requires.state c.requires.ready in
    go-inputs _ _ _ _ c.args.number c.args.bx go _ c.modules-modules.ensures.modules (row_of c.row-row.result.now) c.row-row.ensures c.index-module.result.now c.index-form.result.now
    c.index-module.ensures c.index-form.ensures (c.in-None.ensures.value (values_of c.self.inside.values) (trails_of c.self.inside.trails))

pub act-requires : goal.act-requires
act-requires c =
    let go = can_go c.args.program.now c.self.inside.values c.self.inside.trails c.self.inside.rows _ c.args.number c.args.bx
    (ap (λ (h : InstancesView). h.table) c.self.view_is) c.modules-modules.ensures.good c.requires.state c.requires.ready in
    c.in-Some.ensures.places _ _ (subst (RowFits _ _) (sym c.row-row.ensures) (c.self.invariant.fit c.args.number go.within))

pub invariant_of-self : goal.invariant_of-self
invariant_of-self c = kept-kept _ _ _ _ c.act.ensures.keeps c.act.ensures.keeps_trails _ c.self.invariant

pub returns-clause-table : goal.returns-clause-table
returns-clause-table c = table-kept _ _ _ _ c.act.ensures.keeps c.act.ensures.keeps_trails _ c.self.invariant ∙ ap (λ (h : InstancesView). h.table) c.self.view_is

pub returns-clause-effect : goal.returns-clause-effect
returns-clause-effect c =
    let go = can_go c.args.program.now c.self.inside.values c.self.inside.trails c.self.inside.rows _ c.args.number c.args.bx
    (ap (λ (h : InstancesView). h.table) c.self.view_is) c.modules-modules.ensures.good c.requires.state c.requires.ready in
    IfOk-some (effect_in (values_of c.act.new.values) (trails_of c.act.new.trails)) c.act.result _ _ c.act.ensures.effect
    (go-firing _ _ _ _ c.args.number c.args.bx go _ c.modules-modules.ensures.modules (row_of c.row-row.result.now) c.row-row.ensures c.index-module.result.now c.index-form.result.now
    c.index-module.ensures c.index-form.ensures _ (c.in-Some.ensures.value (values_of c.self.inside.values) (trails_of c.self.inside.trails))
    ∙ (ap (λ x. firing c.args.program.now x c.args.bx) (sym (instance-at (values_of c.self.inside.values) (trails_of c.self.inside.trails) c.self.inside.rows c.args.number go.within))
    ∙ ap (λ (h : InstancesView). firing c.args.program.now (instance_at h.table c.args.number) c.args.bx) c.self.view_is))
