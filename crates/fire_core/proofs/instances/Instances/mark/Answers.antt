use Rattle.std.specs.Prelude.{◌≡◌, ◌<◌, Some, length}
use Rattle.std.specs.Option.{option_map}
use Rattle.std.proofs.Common.{sym, ◌∙◌, ap, subst, arith}
use Rattle.std.proofs.lemmas.List.{length-map}
use Rattle.codex_values.specs.Store.{values_of}
use Rattle.two_d.specs.Steps.{Table, Instance, instance_at, set_cell}
use Rattle.two_d.specs.Trails.{trails_of}
use Rattle.fire_core.specs.inner.Instances.{InstancesView, AreKept}
use Rattle.fire_core.specs.inner.Rows.{CellFits, row_at, cell_in, instance_in, table_in}
use Rattle.fire_core.proofs.TableLemmas.{length-table, instance-at, table-mark}
use Rattle.fire_core.proofs.MarkLemmas.{marked-kept}
use Rattle.fire_core.proofs.instances.Instances.mark.Goals as goal

pub mark-requires-clause-there : goal.mark-requires-clause-there
mark-requires-clause-there c =
    let table : table_in (values_of c.self.inside.values) (trails_of c.self.inside.trails) c.self.inside.rows ≡ c.args.self.now.table = ap (λ (h : InstancesView). h.table) c.self.view_is in
    let lt : c.args.number < length c.self.inside.rows =
    omega (arith, c.requires.there, ap length table, length-table (values_of c.self.inside.values) (trails_of c.self.inside.trails) c.self.inside.rows) in
    let here : instance_at c.args.self.now.table c.args.number ≡ instance_in (values_of c.self.inside.values) (trails_of c.self.inside.trails) (row_at c.self.inside.rows c.args.number) =
    ap (λ (U : Table). instance_at U c.args.number) (sym table) ∙ instance-at (values_of c.self.inside.values) (trails_of c.self.inside.trails) c.self.inside.rows c.args.number lt in
    let has : c.args.bx < length (row_at c.self.inside.rows c.args.number).cells =
    omega (arith, c.requires.has, ap (λ (x : Instance). length x.cells) here, length-map (row_at c.self.inside.rows c.args.number).cells (option_map (cell_in (values_of c.self.inside.values) (trails_of c.self.inside.trails)))) in
    lt

pub mark-requires-clause-has : goal.mark-requires-clause-has
mark-requires-clause-has c =
    let table : table_in (values_of c.self.inside.values) (trails_of c.self.inside.trails) c.self.inside.rows ≡ c.args.self.now.table = ap (λ (h : InstancesView). h.table) c.self.view_is in
    let lt : c.args.number < length c.self.inside.rows =
    omega (arith, c.requires.there, ap length table, length-table (values_of c.self.inside.values) (trails_of c.self.inside.trails) c.self.inside.rows) in
    let here : instance_at c.args.self.now.table c.args.number ≡ instance_in (values_of c.self.inside.values) (trails_of c.self.inside.trails) (row_at c.self.inside.rows c.args.number) =
    ap (λ (U : Table). instance_at U c.args.number) (sym table) ∙ instance-at (values_of c.self.inside.values) (trails_of c.self.inside.trails) c.self.inside.rows c.args.number lt in
    let has : c.args.bx < length (row_at c.self.inside.rows c.args.number).cells =
    omega (arith, c.requires.has, ap (λ (x : Instance). length x.cells) here, length-map (row_at c.self.inside.rows c.args.number).cells (option_map (cell_in (values_of c.self.inside.values) (trails_of c.self.inside.trails)))) in
    has

pub invariant_of-self : goal.invariant_of-self
invariant_of-self c =
    let table : table_in (values_of c.self.inside.values) (trails_of c.self.inside.trails) c.self.inside.rows ≡ c.args.self.now.table = ap (λ (h : InstancesView). h.table) c.self.view_is in
    let lt : c.args.number < length c.self.inside.rows =
    omega (arith, c.requires.there, ap length table, length-table (values_of c.self.inside.values) (trails_of c.self.inside.trails) c.self.inside.rows) in
    let here : instance_at c.args.self.now.table c.args.number ≡ instance_in (values_of c.self.inside.values) (trails_of c.self.inside.trails) (row_at c.self.inside.rows c.args.number) =
    ap (λ (U : Table). instance_at U c.args.number) (sym table) ∙ instance-at (values_of c.self.inside.values) (trails_of c.self.inside.trails) c.self.inside.rows c.args.number lt in
    let has : c.args.bx < length (row_at c.self.inside.rows c.args.number).cells =
    omega (arith, c.requires.has, ap (λ (x : Instance). length x.cells) here, length-map (row_at c.self.inside.rows c.args.number).cells (option_map (cell_in (values_of c.self.inside.values) (trails_of c.self.inside.trails)))) in
    subst (λ r. AreKept c.self.inside.values c.self.inside.trails r) (sym c.mark.ensures)
    (marked-kept c.self.inside.values c.self.inside.trails c.self.inside.rows c.args.number c.args.bx c.args.cell lt has
    (subst (λ (h : InstancesView). CellFits (length h.nodes) (length h.trails) (Some c.args.cell)) (sym c.self.view_is) c.requires.fits) c.self.invariant)

pub returns-clause-table : goal.returns-clause-table
returns-clause-table c =
    let table : table_in (values_of c.self.inside.values) (trails_of c.self.inside.trails) c.self.inside.rows ≡ c.args.self.now.table = ap (λ (h : InstancesView). h.table) c.self.view_is in
    let lt : c.args.number < length c.self.inside.rows =
    omega (arith, c.requires.there, ap length table, length-table (values_of c.self.inside.values) (trails_of c.self.inside.trails) c.self.inside.rows) in
    let here : instance_at c.args.self.now.table c.args.number ≡ instance_in (values_of c.self.inside.values) (trails_of c.self.inside.trails) (row_at c.self.inside.rows c.args.number) =
    ap (λ (U : Table). instance_at U c.args.number) (sym table) ∙ instance-at (values_of c.self.inside.values) (trails_of c.self.inside.trails) c.self.inside.rows c.args.number lt in
    let has : c.args.bx < length (row_at c.self.inside.rows c.args.number).cells =
    omega (arith, c.requires.has, ap (λ (x : Instance). length x.cells) here, length-map (row_at c.self.inside.rows c.args.number).cells (option_map (cell_in (values_of c.self.inside.values) (trails_of c.self.inside.trails)))) in
    ap (λ r. table_in (values_of c.self.inside.values) (trails_of c.self.inside.trails) r) c.mark.ensures
    ∙ (table-mark (values_of c.self.inside.values) (trails_of c.self.inside.trails) c.self.inside.rows c.args.number c.args.bx c.args.cell lt
    ∙ ap (λ (h : InstancesView). set_cell h.table c.args.number c.args.bx (cell_in (values_of h.nodes) (trails_of h.trails) c.args.cell)) c.self.view_is)
