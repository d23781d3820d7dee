use Rattle.std.specs.Prelude.{◌<◌, length}
use Rattle.std.proofs.Common.{sym, ◌∙◌, ap, arith}
use Rattle.codex_values.specs.Store.{values_of}
use Rattle.two_d.specs.Steps.{Instance, instance_at}
use Rattle.two_d.specs.Trails.{trails_of}
use Rattle.fire_core.specs.inner.Instances.{InstancesView}
use Rattle.fire_core.specs.inner.Rows.{RowForm}
use Rattle.fire_core.proofs.TableLemmas.{length-table, instance-at}
use Rattle.fire_core.proofs.instances.Instances.parent.Goals as goal

pub row-requires : goal.row-requires
row-requires c =
    omega (arith, c.requires, ap (λ (h : InstancesView). length h.table) c.self.view_is, length-table (values_of c.self.inside.values) (trails_of c.self.inside.trails) c.self.inside.rows)

pub returns : goal.returns
returns c =
    let lt : c.args.number < length c.self.inside.rows =
    omega (arith, c.requires, ap (λ (h : InstancesView). length h.table) c.self.view_is, length-table (values_of c.self.inside.values) (trails_of c.self.inside.trails) c.self.inside.rows) in
    ap (λ (row : RowForm). row.parent) c.row.ensures
    ∙ (ap (λ (x : Instance). x.parent) (sym (instance-at (values_of c.self.inside.values) (trails_of c.self.inside.trails) c.self.inside.rows c.args.number lt))
    ∙ ap (λ (h : InstancesView). (instance_at h.table c.args.number).parent) c.self.view_is)
