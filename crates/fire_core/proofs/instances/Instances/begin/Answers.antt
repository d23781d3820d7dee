-- One row comes, and one is marked and counts it.
use Rattle.std.specs.Prelude.{◌≡◌, ◌<◌, [], ◌∷◌, ◌++◌, Some, length}
use Rattle.std.proofs.Common.{sym, ◌∙◌, ap, subst, arith}
use Rattle.codex_values.specs.Store.{values_of}
use Rattle.two_d.specs.Trails.{trails_of}
use Rattle.std.specs.Option.{option_map}
use Rattle.std.proofs.lemmas.List.{length-map}
use Rattle.two_d.specs.Meaning.{quiet}
use Rattle.two_d.specs.Programs.{ModuleForm, box_of, box_count}
use Rattle.two_d.specs.Steps.{Table, Instance, instance_at, set_cell, begun}
use Rattle.fire_core.specs.inner.Instances.{InstancesView, AreKept}
use Rattle.fire_core.specs.inner.Rows.{RowForm, row_at, cell_in, instance_in, table_in}
use Rattle.fire_core.proofs.BeginLemmas.{table-begun, begun-kept, begun_is, only_none}
use Rattle.fire_core.proofs.CountLemmas.{inner_count-le}
use Rattle.fire_core.proofs.TableLemmas.{length-table, instance-at}
use Rattle.fire_core.proofs.FireLemmas.{module-is}
use Rattle.fire_core.specs.inner.Look.{inputs_at, InputsFit}
use Rattle.fire_core.proofs.instances.Instances.begin.Goals as goal

pub overflow_add-inner : goal.overflow_add-inner
overflow_add-inner c =
    let table : table_in (values_of c.self.inside.values) (trails_of c.self.inside.trails) c.self.inside.rows ≡ c.args.self.now.table = ap (λ (h : InstancesView). h.table) c.self.view_is in
    let lt : c.args.number < length c.self.inside.rows =
    omega (arith, c.requires.there, ap length table, length-table (values_of c.self.inside.values) (trails_of c.self.inside.trails) c.self.inside.rows) in
    let counted = c.self.invariant.counted c.args.number lt in
    let same : c.row.result.now.inner ≡ (row_at c.self.inside.rows c.args.number).inner = ap (λ (row : RowForm). row.inner) c.row.ensures in
    let few = inner_count-le c.args.number (table_in (values_of c.self.inside.values) (trails_of c.self.inside.trails) c.self.inside.rows) in
    omega (arith, counted, same, few, c.requires.few, ap length table)

pub invariant_of-self-2 : goal.invariant_of-self-2
invariant_of-self-2 c =
    let table : table_in (values_of c.self.inside.values) (trails_of c.self.inside.trails) c.self.inside.rows ≡ c.args.self.now.table = ap (λ (h : InstancesView). h.table) c.self.view_is in
    let lt : c.args.number < length c.self.inside.rows =
    omega (arith, c.requires.there, ap length table, length-table (values_of c.self.inside.values) (trails_of c.self.inside.trails) c.self.inside.rows) in
    let size : c.len-boxes.result ≡ box_count c.args.program.now c.args.kind =
    omega (arith, c.len-boxes.ensures, ap (λ (m : ModuleForm). length m.boxes) (module-is c.args.program.now c.modules.result.now.items c.modules.ensures.modules c.args.kind c.index.result.now c.requires.kind c.index.ensures), length-map c.index.result.now.boxes.items box_of) in
    let rows = begun_is c.args.program.now c.self.inside.values c.self.inside.trails c.self.inside.rows c.args.number c.args.bx c.args.kind _ c.len-boxes.result c.args.inputs.north c.args.inputs.west
    c.in_ok-cells.cells.items _ _ _ (c.in_ok-cells.ensures.items_if_clones_equal (only_none _ (λ x e. e))) c.in_ok-push.ensures.ok c.mark.ensures c.count.ensures in
    let same : c.row.result.now.inner ≡ (row_at c.self.inside.rows c.args.number).inner = ap (λ (row : RowForm). row.inner) c.row.ensures in
    let here : instance_at c.args.self.now.table c.args.number ≡ instance_in (values_of c.self.inside.values) (trails_of c.self.inside.trails) (row_at c.self.inside.rows c.args.number) =
    ap (λ (U : Table). instance_at U c.args.number) (sym table) ∙ instance-at (values_of c.self.inside.values) (trails_of c.self.inside.trails) c.self.inside.rows c.args.number lt in
    let has : c.args.bx < length (row_at c.self.inside.rows c.args.number).cells =
    omega (arith, c.requires.has, ap (λ (x : Instance). length x.cells) here, length-map (row_at c.self.inside.rows c.args.number).cells (option_map (cell_in (values_of c.self.inside.values) (trails_of c.self.inside.trails)))) in
    let fits : InputsFit (length c.self.inside.values) (Some c.args.inputs) = subst (λ (h : InstancesView). InputsFit (length h.nodes) (Some c.args.inputs)) (sym c.self.view_is) c.requires.fits in
    subst (λ r. AreKept c.self.inside.values c.self.inside.trails r) rows
    (begun-kept c.args.program.now c.self.inside.values c.self.inside.trails c.self.inside.rows c.args.number c.args.bx c.args.kind _ c.len-boxes.result c.args.inputs.north c.args.inputs.west
    lt has size (omega (arith, same)) fits.0 fits.1 (rw table c.requires.childless) c.self.invariant)

pub returns-clause-ok : goal.returns-clause-ok
returns-clause-ok c =
    let table : table_in (values_of c.self.inside.values) (trails_of c.self.inside.trails) c.self.inside.rows ≡ c.args.self.now.table = ap (λ (h : InstancesView). h.table) c.self.view_is in
    let lt : c.args.number < length c.self.inside.rows =
    omega (arith, c.requires.there, ap length table, length-table (values_of c.self.inside.values) (trails_of c.self.inside.trails) c.self.inside.rows) in
    let size : c.len-boxes.result ≡ box_count c.args.program.now c.args.kind =
    omega (arith, c.len-boxes.ensures, ap (λ (m : ModuleForm). length m.boxes) (module-is c.args.program.now c.modules.result.now.items c.modules.ensures.modules c.args.kind c.index.result.now c.requires.kind c.index.ensures), length-map c.index.result.now.boxes.items box_of) in
    let rows = begun_is c.args.program.now c.self.inside.values c.self.inside.trails c.self.inside.rows c.args.number c.args.bx c.args.kind _ c.len-boxes.result c.args.inputs.north c.args.inputs.west
    c.in_ok-cells.cells.items _ _ _ (c.in_ok-cells.ensures.items_if_clones_equal (only_none _ (λ x e. e))) c.in_ok-push.ensures.ok c.mark.ensures c.count.ensures in
    ap (λ r. table_in (values_of c.self.inside.values) (trails_of c.self.inside.trails) r) (sym rows)
    ∙ (table-begun c.args.program.now c.self.inside.values c.self.inside.trails c.self.inside.rows c.args.number c.args.bx c.args.kind _ c.len-boxes.result c.args.inputs.north c.args.inputs.west lt size
    ∙ ap (λ (h : InstancesView). set_cell h.table c.args.number c.args.bx quiet ++ begun c.args.program.now c.args.kind (Some (c.args.number, c.args.bx)) (inputs_at (values_of h.nodes) c.args.inputs) ∷ []) c.self.view_is)
