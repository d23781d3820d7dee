-- One row is closed, and that of the box that started it is marked.
use Rattle.std.specs.Prelude.{◌≡◌, ◌≢◌, ◌<◌, true, Some, length, slice_set}
use Rattle.std.specs.Option.{option_map}
use Rattle.std.proofs.Common.{sym, ◌∙◌, ap, subst, arith}
use Rattle.std.proofs.lemmas.List.{length-map}
use Rattle.codex_values.specs.Store.{values_of}
use Rattle.codex_values.proofs.StoreLemmas.{keeps_itself}
use Rattle.two_d.specs.Meaning.{Outcome, Cell, returned}
use Rattle.two_d.specs.Steps.{Table, Instance, instance_at, is_live, ended, set_cell}
use Rattle.two_d.specs.Texts.{outcome_in}
use Rattle.two_d.specs.Trails.{trails_of}
use Rattle.fire_core.specs.inner.Instances.{InstancesView, AreKept}
use Rattle.fire_core.specs.inner.Rows.{RowForm, OutcomeFits, row_at, cell_in, instance_in, table_in}
use Rattle.fire_core.proofs.ActLemmas.{OnErr-from}
use Rattle.fire_core.proofs.CountLemmas.{inner_count-some}
use Rattle.fire_core.proofs.EndLemmas.{delivered-kept, table-delivered, delivered_is}
use Rattle.fire_core.proofs.TableLemmas.{length-table, instance-at, table-kept, kept-kept, kept-outcome_one, outcome-more}
use Rattle.two_d.proofs.State.{is_inner-from}
use Rattle.fire_core.proofs.instances.Instances.deliver.Goals as goal

pub overflow_sub-inner : goal.overflow_sub-inner
overflow_sub-inner c =
    let V = values_of c.self.inside.values in
    let table : table_in V (trails_of c.self.inside.trails) c.self.inside.rows ≡ c.args.self.now.table = ap (λ (h : InstancesView). h.table) c.self.view_is in
    let size = length-table V (trails_of c.self.inside.trails) c.self.inside.rows in
    let lt : c.args.number < length c.self.inside.rows = omega (arith, c.requires.there, ap length table, size) in
    let there : c.args.above < length c.self.inside.rows = omega (arith, lt, c.requires.earlier) in
    let here : instance_at c.args.self.now.table c.args.above ≡ instance_in V (trails_of c.self.inside.trails) (row_at c.self.inside.rows c.args.above) =
    ap (λ (U : Table). instance_at U c.args.above) (sym table) ∙ instance-at V (trails_of c.self.inside.trails) c.self.inside.rows c.args.above there in
    let live : is_live (instance_at (table_in V (trails_of c.self.inside.trails) c.self.inside.rows) c.args.number) ≡ true = rw table c.requires.live in
    let parent : (instance_at (table_in V (trails_of c.self.inside.trails) c.self.inside.rows) c.args.number).parent ≡ Some (c.args.above, c.args.bx) = rw table c.requires.parent in
    let mine : c.row-row.result.now.inner ≡ (row_at c.self.inside.rows c.args.above).inner = ap (λ (row : RowForm). row.inner) c.row-row.ensures in
    let some = inner_count-some c.args.above (table_in V (trails_of c.self.inside.trails) c.self.inside.rows) c.args.number (omega (arith, lt, size))
    (is_inner-from c.args.above c.args.bx (instance_at (table_in V (trails_of c.self.inside.trails) c.self.inside.rows) c.args.number) live parent) in
    let counted = c.self.invariant.counted c.args.above there in
    omega (arith, mine, some, counted)

pub invariant_of-self : goal.invariant_of-self
invariant_of-self c = kept-kept _ _ _ _ (keeps_itself c.self.inside.values) c.returned.ensures.keeps _ c.self.invariant

pub returns-in_err-cell-clause-err : goal.returns-in_err-cell-clause-err
returns-in_err-cell-clause-err c =
    OnErr-from _ (table-kept _ _ _ _ (keeps_itself c.self.inside.values) c.returned.ensures.keeps _ c.self.invariant ∙ ap (λ (h : InstancesView). h.table) c.self.view_is)

pub invariant_of-self-2 : goal.invariant_of-self-2
invariant_of-self-2 c =
    let V = values_of c.self.inside.values in
    let table : table_in V (trails_of c.self.inside.trails) c.self.inside.rows ≡ c.args.self.now.table = ap (λ (h : InstancesView). h.table) c.self.view_is in
    let size = length-table V (trails_of c.self.inside.trails) c.self.inside.rows in
    let lt : c.args.number < length c.self.inside.rows = omega (arith, c.requires.there, ap length table, size) in
    let there : c.args.above < length c.self.inside.rows = omega (arith, lt, c.requires.earlier) in
    let here : instance_at c.args.self.now.table c.args.above ≡ instance_in V (trails_of c.self.inside.trails) (row_at c.self.inside.rows c.args.above) =
    ap (λ (U : Table). instance_at U c.args.above) (sym table) ∙ instance-at V (trails_of c.self.inside.trails) c.self.inside.rows c.args.above there in
    let live : is_live (instance_at (table_in V (trails_of c.self.inside.trails) c.self.inside.rows) c.args.number) ≡ true = rw table c.requires.live in
    let parent : (instance_at (table_in V (trails_of c.self.inside.trails) c.self.inside.rows) c.args.number).parent ≡ Some (c.args.above, c.args.bx) = rw table c.requires.parent in
    let mine : c.row-row.result.now.inner ≡ (row_at c.self.inside.rows c.args.above).inner = ap (λ (row : RowForm). row.inner) c.row-row.ensures in
    let some = inner_count-some c.args.above (table_in V (trails_of c.self.inside.trails) c.self.inside.rows) c.args.number (omega (arith, lt, size))
    (is_inner-from c.args.above c.args.bx (instance_at (table_in V (trails_of c.self.inside.trails) c.self.inside.rows) c.args.number) live parent) in
    let counted = c.self.invariant.counted c.args.above there in
    let kept : AreKept c.self.inside.values c.returned.new.trails c.self.inside.rows = kept-kept _ _ _ _ (keeps_itself c.self.inside.values) c.returned.ensures.keeps _ c.self.invariant in
    let grown = table-kept _ _ _ _ (keeps_itself c.self.inside.values) c.returned.ensures.keeps _ c.self.invariant in
    let fits : OutcomeFits (length c.self.inside.values) (length c.self.inside.trails) (Some c.args.outcome) =
    subst (λ (h : InstancesView). OutcomeFits (length h.nodes) (length h.trails) (Some c.args.outcome)) (sym c.self.view_is) c.requires.fits in
    let has : c.args.bx < length (row_at c.self.inside.rows c.args.above).cells =
    omega (arith, c.requires.has, ap (λ (x : Instance). length x.cells) here, length-map (row_at c.self.inside.rows c.args.above).cells (option_map (cell_in V (trails_of c.self.inside.trails)))) in
    let apart : c.args.above ≢ c.args.number = λ e. omega (arith, e, c.requires.earlier) in
    let rows = delivered_is c.self.inside.values c.returned.new.trails c.self.inside.rows c.args.number c.args.outcome lt c.args.above c.args.bx c.in_ok-cell.cell apart there has _ _ _ _
    c.close.ensures c.mark.ensures c.count.ensures in
    subst (λ r. AreKept c.self.inside.values c.returned.new.trails r) rows
    (delivered-kept c.self.inside.values c.returned.new.trails c.self.inside.rows c.args.number c.args.outcome lt c.args.above c.args.bx c.in_ok-cell.cell apart there has _
    (rw grown live) (rw grown parent) (omega (arith, mine, some, counted))
    (outcome-more _ _ _ _ (Some c.args.outcome) (omega arith) c.returned.ensures.keeps.longer fits)
    (c.in_ok-cell.ensures.fits (length c.self.inside.values) fits) kept)

pub returns-clause-ok : goal.returns-clause-ok
returns-clause-ok c =
    let V = values_of c.self.inside.values in
    let table : table_in V (trails_of c.self.inside.trails) c.self.inside.rows ≡ c.args.self.now.table = ap (λ (h : InstancesView). h.table) c.self.view_is in
    let size = length-table V (trails_of c.self.inside.trails) c.self.inside.rows in
    let lt : c.args.number < length c.self.inside.rows = omega (arith, c.requires.there, ap length table, size) in
    let there : c.args.above < length c.self.inside.rows = omega (arith, lt, c.requires.earlier) in
    let here : instance_at c.args.self.now.table c.args.above ≡ instance_in V (trails_of c.self.inside.trails) (row_at c.self.inside.rows c.args.above) =
    ap (λ (U : Table). instance_at U c.args.above) (sym table) ∙ instance-at V (trails_of c.self.inside.trails) c.self.inside.rows c.args.above there in
    let live : is_live (instance_at (table_in V (trails_of c.self.inside.trails) c.self.inside.rows) c.args.number) ≡ true = rw table c.requires.live in
    let parent : (instance_at (table_in V (trails_of c.self.inside.trails) c.self.inside.rows) c.args.number).parent ≡ Some (c.args.above, c.args.bx) = rw table c.requires.parent in
    let mine : c.row-row.result.now.inner ≡ (row_at c.self.inside.rows c.args.above).inner = ap (λ (row : RowForm). row.inner) c.row-row.ensures in
    let some = inner_count-some c.args.above (table_in V (trails_of c.self.inside.trails) c.self.inside.rows) c.args.number (omega (arith, lt, size))
    (is_inner-from c.args.above c.args.bx (instance_at (table_in V (trails_of c.self.inside.trails) c.self.inside.rows) c.args.number) live parent) in
    let counted = c.self.invariant.counted c.args.above there in
    let kept : AreKept c.self.inside.values c.returned.new.trails c.self.inside.rows = kept-kept _ _ _ _ (keeps_itself c.self.inside.values) c.returned.ensures.keeps _ c.self.invariant in
    let grown = table-kept _ _ _ _ (keeps_itself c.self.inside.values) c.returned.ensures.keeps _ c.self.invariant in
    let fits : OutcomeFits (length c.self.inside.values) (length c.self.inside.trails) (Some c.args.outcome) =
    subst (λ (h : InstancesView). OutcomeFits (length h.nodes) (length h.trails) (Some c.args.outcome)) (sym c.self.view_is) c.requires.fits in
    let has : c.args.bx < length (row_at c.self.inside.rows c.args.above).cells =
    omega (arith, c.requires.has, ap (λ (x : Instance). length x.cells) here, length-map (row_at c.self.inside.rows c.args.above).cells (option_map (cell_in V (trails_of c.self.inside.trails)))) in
    let apart : c.args.above ≢ c.args.number = λ e. omega (arith, e, c.requires.earlier) in
    let rows = delivered_is c.self.inside.values c.returned.new.trails c.self.inside.rows c.args.number c.args.outcome lt c.args.above c.args.bx c.in_ok-cell.cell apart there has _ _ _ _
    c.close.ensures c.mark.ensures c.count.ensures in
    let cell : cell_in V (trails_of c.returned.new.trails) c.in_ok-cell.cell ≡ returned (instance_at c.args.self.now.table c.args.above).kind c.args.bx (outcome_in V (trails_of c.self.inside.trails) c.args.outcome) =
    c.in_ok-cell.ensures.cell V
    ∙ ap (λ k. returned k c.args.bx (outcome_in V (trails_of c.self.inside.trails) c.args.outcome)) (ap (λ (row : RowForm). row.kind) c.row-row.ensures ∙ sym (ap (λ (x : Instance). x.kind) here)) in
    let outcome = kept-outcome_one c.self.inside.values c.self.inside.values c.self.inside.trails c.returned.new.trails (keeps_itself c.self.inside.values) c.returned.ensures.keeps c.args.outcome fits in
    ap (λ r. table_in V (trails_of c.returned.new.trails) r) (sym rows)
    ∙ (table-delivered c.self.inside.values c.returned.new.trails c.self.inside.rows c.args.number c.args.outcome lt c.args.above c.args.bx c.in_ok-cell.cell apart there has _
    ∙ (ap (λ (U : Table). set_cell (slice_set U c.args.number (ended (instance_at U c.args.number) (outcome_in V (trails_of c.returned.new.trails) c.args.outcome))) c.args.above c.args.bx (cell_in V (trails_of c.returned.new.trails) c.in_ok-cell.cell)) (grown ∙ table)
    ∙ (ap (λ (o : Outcome). set_cell (slice_set c.args.self.now.table c.args.number (ended (instance_at c.args.self.now.table c.args.number) o)) c.args.above c.args.bx (cell_in V (trails_of c.returned.new.trails) c.in_ok-cell.cell)) outcome
    ∙ (ap (λ (x : Cell). set_cell (slice_set c.args.self.now.table c.args.number (ended (instance_at c.args.self.now.table c.args.number) (outcome_in V (trails_of c.self.inside.trails) c.args.outcome))) c.args.above c.args.bx x) cell
    ∙ ap (λ (h : InstancesView). set_cell (slice_set c.args.self.now.table c.args.number (ended (instance_at c.args.self.now.table c.args.number) (outcome_in (values_of h.nodes) (trails_of h.trails) c.args.outcome))) c.args.above c.args.bx
    (returned (instance_at c.args.self.now.table c.args.above).kind c.args.bx (outcome_in (values_of h.nodes) (trails_of h.trails) c.args.outcome))) c.self.view_is))))
