use Rattle.std.specs.Prelude.{◌<◌, length, slice_set, Some}
use Rattle.std.proofs.Common.{sym, ◌∙◌, ap, subst, arith}
use Rattle.codex_values.specs.Store.{values_of}
use Rattle.two_d.specs.Steps.{instance_at, ended}
use Rattle.two_d.specs.Texts.{outcome_in}
use Rattle.two_d.specs.Trails.{trails_of}
use Rattle.fire_core.specs.inner.Instances.{InstancesView, AreKept}
use Rattle.fire_core.specs.inner.Rows.{OutcomeFits, table_in}
use Rattle.fire_core.proofs.EndLemmas.{finished-kept, table-closed}
use Rattle.fire_core.proofs.TableLemmas.{length-table}
use Rattle.fire_core.proofs.instances.Instances.finish.Goals as goal

pub invariant_of-self : goal.invariant_of-self
invariant_of-self c =
    let lt : c.args.number < length c.self.inside.rows =
    omega (arith, c.requires.there, ap (λ (h : InstancesView). length h.table) c.self.view_is, length-table (values_of c.self.inside.values) (trails_of c.self.inside.trails) c.self.inside.rows) in
    subst (λ r. AreKept c.self.inside.values c.self.inside.trails r) (sym c.close.ensures)
    (finished-kept c.self.inside.values c.self.inside.trails c.self.inside.rows c.args.number c.args.outcome lt
    (ap (λ (h : InstancesView). (instance_at h.table c.args.number).parent) c.self.view_is ∙ c.requires.orphan)
    (subst (λ (h : InstancesView). OutcomeFits (length h.nodes) (length h.trails) (Some c.args.outcome)) (sym c.self.view_is) c.requires.fits) c.self.invariant)

pub returns-clause-table : goal.returns-clause-table
returns-clause-table c =
    let lt : c.args.number < length c.self.inside.rows =
    omega (arith, c.requires.there, ap (λ (h : InstancesView). length h.table) c.self.view_is, length-table (values_of c.self.inside.values) (trails_of c.self.inside.trails) c.self.inside.rows) in
    ap (λ r. table_in (values_of c.self.inside.values) (trails_of c.self.inside.trails) r) c.close.ensures
    ∙ (table-closed c.self.inside.values c.self.inside.trails c.self.inside.rows c.args.number c.args.outcome lt
    ∙ ap (λ (h : InstancesView). slice_set h.table c.args.number (ended (instance_at h.table c.args.number) (outcome_in (values_of h.nodes) (trails_of h.trails) c.args.outcome))) c.self.view_is)
