-- The instance is there, and its outcome is what its row says.
use Rattle.std.specs.Prelude.{◌≡◌, ◌<◌, length}
use Rattle.std.specs.Option.{option_map}
use Rattle.std.proofs.Common.{sym, ◌∙◌, ap, subst, arith}
use Rattle.std.proofs.lemmas.List.{length-map}
use Rattle.codex_values.specs.Store.{values_of}
use Rattle.codex_values.proofs.StoreLemmas.{keeps_itself}
use Rattle.two_d.specs.Programs.{box_count}
use Rattle.two_d.specs.Steps.{Table, Instance, instance_at, end_of}
use Rattle.two_d.specs.Texts.{outcome_in}
use Rattle.two_d.specs.Trails.{trails_of}
use Rattle.fire_core.specs.inner.Instances.{InstancesView}
use Rattle.fire_core.specs.inner.Rows.{RowFits, row_of, cell_in, instance_in, table_in}
use Rattle.fire_core.proofs.ActLemmas.{IfOk-same}
use Rattle.fire_core.proofs.EndLemmas.{can_end}
use Rattle.fire_core.proofs.FireLemmas.{module-within, module-is}
use Rattle.fire_core.proofs.TableLemmas.{length-table, instance-at, table-kept, kept-kept}
use Rattle.fire_core.proofs.instances.Instances.outcome.Goals as goal

pub row-row-requires : goal.row-row-requires
row-row-requires c =
    let table : table_in (values_of c.self.inside.values) (trails_of c.self.inside.trails) c.self.inside.rows ≡ c.args.self.now.table = ap (λ (h : InstancesView). h.table) c.self.view_is in
    let can = can_end c.args.program.now c.args.self.now.table c.args.number c.modules-modules.ensures.good c.requires.state c.requires.ready in
    let lt : c.args.number < length c.self.inside.rows =
    omega (arith, can.within, ap length table, length-table (values_of c.self.inside.values) (trails_of c.self.inside.trails) c.self.inside.rows) in
    lt

pub index-module-requires : goal.index-module-requires
index-module-requires c =
    let table : table_in (values_of c.self.inside.values) (trails_of c.self.inside.trails) c.self.inside.rows ≡ c.args.self.now.table = ap (λ (h : InstancesView). h.table) c.self.view_is in
    let can = can_end c.args.program.now c.args.self.now.table c.args.number c.modules-modules.ensures.good c.requires.state c.requires.ready in
    let lt : c.args.number < length c.self.inside.rows =
    omega (arith, can.within, ap length table, length-table (values_of c.self.inside.values) (trails_of c.self.inside.trails) c.self.inside.rows) in
    let here : instance_at c.args.self.now.table c.args.number ≡ instance_in (values_of c.self.inside.values) (trails_of c.self.inside.trails) (row_of c.row-row.result.now) =
    ap (λ (U : Table). instance_at U c.args.number) (sym table)
    ∙ (instance-at (values_of c.self.inside.values) (trails_of c.self.inside.trails) c.self.inside.rows c.args.number lt
    ∙ ap (instance_in (values_of c.self.inside.values) (trails_of c.self.inside.trails)) (sym c.row-row.ensures)) in
    let kind : c.row-row.result.now.kind < length c.args.program.now = subst (λ (x : Instance). x.kind < length c.args.program.now) here can.kind in
    omega (arith, module-within c.args.program.now c.modules-modules.result.now.items c.modules-modules.ensures.modules c.row-row.result.now.kind kind)

pub invariant_of-self : goal.invariant_of-self
invariant_of-self c = kept-kept _ _ _ _ (keeps_itself c.self.inside.values) c.outcome_of.ensures.keeps _ c.self.invariant

pub returns-clause-table : goal.returns-clause-table
returns-clause-table c = table-kept _ _ _ _ (keeps_itself c.self.inside.values) c.outcome_of.ensures.keeps _ c.self.invariant ∙ ap (λ (h : InstancesView). h.table) c.self.view_is

pub returns-clause-fits : goal.returns-clause-fits
returns-clause-fits c =
    let table : table_in (values_of c.self.inside.values) (trails_of c.self.inside.trails) c.self.inside.rows ≡ c.args.self.now.table = ap (λ (h : InstancesView). h.table) c.self.view_is in
    let can = can_end c.args.program.now c.args.self.now.table c.args.number c.modules-modules.ensures.good c.requires.state c.requires.ready in
    let lt : c.args.number < length c.self.inside.rows =
    omega (arith, can.within, ap length table, length-table (values_of c.self.inside.values) (trails_of c.self.inside.trails) c.self.inside.rows) in
    c.outcome_of.ensures.fits (length c.self.inside.values) (subst (RowFits _ _) (sym c.row-row.ensures) (c.self.invariant.fit c.args.number lt))

pub returns-clause-outcome : goal.returns-clause-outcome
returns-clause-outcome c =
    let table : table_in (values_of c.self.inside.values) (trails_of c.self.inside.trails) c.self.inside.rows ≡ c.args.self.now.table = ap (λ (h : InstancesView). h.table) c.self.view_is in
    let can = can_end c.args.program.now c.args.self.now.table c.args.number c.modules-modules.ensures.good c.requires.state c.requires.ready in
    let lt : c.args.number < length c.self.inside.rows =
    omega (arith, can.within, ap length table, length-table (values_of c.self.inside.values) (trails_of c.self.inside.trails) c.self.inside.rows) in
    let here : instance_at c.args.self.now.table c.args.number ≡ instance_in (values_of c.self.inside.values) (trails_of c.self.inside.trails) (row_of c.row-row.result.now) =
    ap (λ (U : Table). instance_at U c.args.number) (sym table)
    ∙ (instance-at (values_of c.self.inside.values) (trails_of c.self.inside.trails) c.self.inside.rows c.args.number lt
    ∙ ap (instance_in (values_of c.self.inside.values) (trails_of c.self.inside.trails)) (sym c.row-row.ensures)) in
    let kind : c.row-row.result.now.kind < length c.args.program.now = subst (λ (x : Instance). x.kind < length c.args.program.now) here can.kind in
    let sized : length c.row-row.result.now.cells.items ≡ box_count c.args.program.now c.row-row.result.now.kind =
    sym (length-map c.row-row.result.now.cells.items (option_map (cell_in (values_of c.self.inside.values) (trails_of c.self.inside.trails))))
    ∙ subst (λ (x : Instance). length x.cells ≡ box_count c.args.program.now x.kind) here can.sized in
    IfOk-same (outcome_in (values_of c.self.inside.values) (trails_of c.outcome_of.new.trails)) c.outcome_of.result _ _
    (c.outcome_of.ensures.outcome c.args.program.now (values_of c.self.inside.values)
    (module-is c.args.program.now c.modules-modules.result.now.items c.modules-modules.ensures.modules c.row-row.result.now.kind c.index-module.result.now kind c.index-module.ensures) sized)
    (ap (λ x. end_of c.args.program.now x) (sym here))
