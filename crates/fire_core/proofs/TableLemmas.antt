-- A write to a row is a write to the table.
use Rattle.std.specs.Prelude.{◌≡◌, ℕ, suc, ◌<◌, ◌≤◌, Option, Some, None, List, [], ◌∷◌, ◌++◌, map, length, slice_index_or, slice_set}
use Rattle.std.specs.Option.{option_map}
use Rattle.std.proofs.Common.{refl, sym, ◌∙◌, ap, arith, inl, inr}
use Rattle.std.proofs.lemmas.Bool.{cases_eq, cases_lt}
use Rattle.std.proofs.lemmas.List.{map-set, get_or-map, length-map, map-append, length-set, get_or-set_same, get_or-set_other, get_or_append_left, get_or_push, length_push}
use Rattle.std.proofs.Math.Seq.{map-set_same}
use Rattle.codex_values.specs.declared.shape.Shape.{Shape}
use Rattle.codex_values.specs.Value.{Value}
use Rattle.codex_values.specs.Store.{value_in, values_of, Keeps}
use Rattle.two_d.specs.declared.outcome.Outcome.{Outcome}
use Rattle.two_d.specs.declared.outcome.Outcome.TheVariants.{Value as ValueKept, Stuck as StuckKept}
use Rattle.two_d.specs.declared.trail.Trail.{Trail as TrailNode}
use Rattle.two_d.specs.Meaning as mean
use Rattle.two_d.specs.Steps.{Instance, nobody, instance_at, with_cell, set_cell, ended}
use Rattle.two_d.specs.Texts.{outcome_in}
use Rattle.two_d.specs.Trails.{Trail, trail_in, trails_of, KeepsTrails}
use Rattle.fire_core.specs.inner.Instances.{AreKept}
use Rattle.fire_core.specs.declared.rows.Cell.{Cell}
use Rattle.fire_core.specs.inner.Rows.{RowForm, row_at, no_row, cell_in, instance_in, table_in, IsPlace, CellFits, OutcomeFits, RowFits, RowsFit}

-- a row with the cell of one box set
abbrev pub marked : RowForm → ℕ → Cell → RowForm
marked row b cell = record row { cells = slice_set row.cells b (Some cell) }

module _ (values : List Value) (trails : List Trail) (rows : List RowForm) where
  pub length-table : length (table_in values trails rows) ≡ length rows
  length-table = length-map rows (instance_in values trails)

  pub instance-at : (i : ℕ) → i < length rows → instance_at (table_in values trails rows) i ≡ instance_in values trails (row_at rows i)
  instance-at i lt = get_or-map (instance_in values trails) rows i no_row nobody lt

  pub table-mark : (i b : ℕ) (cell : Cell) → i < length rows →
      table_in values trails (slice_set rows i (marked (row_at rows i) b cell)) ≡ set_cell (table_in values trails rows) i b (cell_in values trails cell)
  table-mark i b cell lt =
      map-set (instance_in values trails) rows i (marked (row_at rows i) b cell)
      ∙ ap (slice_set (table_in values trails rows) i)
      (ap (λ (cells : List (Option mean.Cell)). record (instance_in values trails (row_at rows i)) { cells = cells }) (map-set (option_map (cell_in values trails)) (row_at rows i).cells b (Some cell))
      ∙ ap (λ (x : Instance). with_cell x b (cell_in values trails cell)) (sym (instance-at i lt)))

  pub table-count : (i n : ℕ) → table_in values trails (slice_set rows i (record (row_at rows i) { inner = n })) ≡ table_in values trails rows
  table-count i n = map-set_same (instance_in values trails) rows i (record (row_at rows i) { inner = n }) no_row refl

  pub table-close : (i : ℕ) (o : Outcome) → i < length rows →
      table_in values trails (slice_set rows i (record (row_at rows i) { outcome = Some o }))
      ≡ slice_set (table_in values trails rows) i (ended (instance_at (table_in values trails rows) i) (outcome_in values trails o))
  table-close i o lt =
      map-set (instance_in values trails) rows i (record (row_at rows i) { outcome = Some o })
      ∙ ap (slice_set (table_in values trails rows) i) (ap (λ (x : Instance). ended x (outcome_in values trails o)) (sym (instance-at i lt)))

  pub table-push : (row : RowForm) → table_in values trails (rows ++ row ∷ []) ≡ table_in values trails rows ++ instance_in values trails row ∷ []
  table-push row = map-append (instance_in values trails) rows (row ∷ [])

-- a place stands for the same, whatever is added to a store
module _ (nodes nodes' : List Shape) (keeps : Keeps nodes nodes') where
  pub kept-value : (at : Option ℕ) → IsPlace (length nodes) at → option_map (value_in (values_of nodes')) at ≡ option_map (value_in (values_of nodes)) at
  kept-value None fits = refl
  kept-value (Some at) fits = ap Some (keeps.same at fits)

module _ (nodes nodes' : List TrailNode) (keeps : KeepsTrails nodes nodes') where
  pub kept-trail : (at : Option ℕ) → IsPlace (length nodes) at → option_map (trail_in (trails_of nodes')) at ≡ option_map (trail_in (trails_of nodes)) at
  kept-trail None fits = refl
  kept-trail (Some at) fits = ap Some (keeps.same at fits)

module _ (nodes nodes' : List Shape) (trails trails' : List TrailNode) (keeps : Keeps nodes nodes') (keeps_trails : KeepsTrails trails trails') where
  pub kept-cell : (cell : Option Cell) → CellFits (length nodes) (length trails) cell →
      option_map (cell_in (values_of nodes') (trails_of trails')) cell ≡ option_map (cell_in (values_of nodes) (trails_of trails)) cell
  kept-cell None fits = refl
  kept-cell (Some cell) fits =
      rw (kept-value nodes nodes' keeps cell.south fits.0, kept-value nodes nodes' keeps cell.east fits.1, kept-trail trails trails' keeps_trails cell.stuck fits.2) refl

  pub kept-outcome : (o : Option Outcome) → OutcomeFits (length nodes) (length trails) o →
      option_map (outcome_in (values_of nodes') (trails_of trails')) o ≡ option_map (outcome_in (values_of nodes) (trails_of trails)) o
  kept-outcome None fits = refl
  kept-outcome (Some (ValueKept at)) fits = ap (λ v. Some (mean.Gives v)) (keeps.same at fits)
  kept-outcome (Some (StuckKept at)) fits = ap (λ t. Some (mean.Stuck t)) (keeps_trails.same at fits)

  pub kept-outcome_one : (o : Outcome) → OutcomeFits (length nodes) (length trails) (Some o) →
      outcome_in (values_of nodes') (trails_of trails') o ≡ outcome_in (values_of nodes) (trails_of trails) o
  kept-outcome_one (ValueKept at) fits = ap mean.Gives (keeps.same at fits)
  kept-outcome_one (StuckKept at) fits = ap mean.Stuck (keeps_trails.same at fits)

  pub kept-cells : (cells : List (Option Cell)) → ((b : ℕ) → CellFits (length nodes) (length trails) (slice_index_or cells b None)) →
      map (option_map (cell_in (values_of nodes') (trails_of trails'))) cells ≡ map (option_map (cell_in (values_of nodes) (trails_of trails))) cells
  kept-cells [] fits = refl
  kept-cells (cell ∷ cells) fits =
      rw (kept-cell cell (fits 0), kept-cells cells (λ b. fits (suc b))) refl

  pub kept-row : (row : RowForm) → RowFits (length nodes) (length trails) row →
      instance_in (values_of nodes') (trails_of trails') row ≡ instance_in (values_of nodes) (trails_of trails) row
  kept-row row fits =
      rw (kept-value nodes nodes' keeps row.north fits.north, kept-value nodes nodes' keeps row.west fits.west, kept-cells row.cells fits.cells, kept-outcome row.outcome fits.outcome) refl

  pub kept-table : (rows : List RowForm) → RowsFit (length nodes) (length trails) rows →
      table_in (values_of nodes') (trails_of trails') rows ≡ table_in (values_of nodes) (trails_of trails) rows
  kept-table [] fits = refl
  kept-table (row ∷ rows) fits = rw (kept-row row (fits 0 (omega arith)), kept-table rows (λ i lt. fits (suc i) (omega arith))) refl

-- places stay below numbers that grow
pub place-more : (n m : ℕ) (at : Option ℕ) → n ≤ m → IsPlace n at → IsPlace m at
place-more n m None le fits = tt
place-more n m (Some at) le fits = omega (arith, fits)

pub cell-more : (n m t u : ℕ) (cell : Option Cell) → n ≤ m → t ≤ u → CellFits n t cell → CellFits m u cell
cell-more n m t u None le le' fits = tt
cell-more n m t u (Some cell) le le' fits = (place-more n m cell.south le fits.0, place-more n m cell.east le fits.1, place-more t u cell.stuck le' fits.2)

pub outcome-more : (n m t u : ℕ) (o : Option Outcome) → n ≤ m → t ≤ u → OutcomeFits n t o → OutcomeFits m u o
outcome-more n m t u None le le' fits = tt
outcome-more n m t u (Some (ValueKept at)) le le' fits = omega (arith, fits)
outcome-more n m t u (Some (StuckKept at)) le le' fits = omega (arith, fits)

pub row-more : (n m t u : ℕ) (row : RowForm) → n ≤ m → t ≤ u → RowFits n t row → RowFits m u row
row-more n m t u row le le' fits = record {
  north = place-more n m row.north le fits.north;
  west = place-more n m row.west le fits.west;
  cells = λ b. cell-more n m t u (slice_index_or row.cells b None) le le' (fits.cells b);
  outcome = outcome-more n m t u row.outcome le le' fits.outcome;
}

pub rows-more : (n m t u : ℕ) (rows : List RowForm) → n ≤ m → t ≤ u → RowsFit n t rows → RowsFit m u rows
rows-more n m t u rows le le' fit = λ i lt. row-more n m t u (row_at rows i) le le' (fit i lt)

-- places of rows of which one has changed, or one has come
pub rows-set : (n t : ℕ) (rows : List RowForm) (i : ℕ) (row : RowForm) → RowsFit n t rows → RowFits n t row → RowsFit n t (slice_set rows i row)
rows-set n t rows i row fit fits j lt = elim (cases_eq j i) [
  | inl is ↦ rw (is, get_or-set_same rows i row no_row (omega (arith, lt, length-set rows i row, is))) fits
  | inr other ↦ rw (get_or-set_other rows i j row no_row other) (fit j (omega (arith, lt, length-set rows i row)))
]

pub rows-push : (n t : ℕ) (rows : List RowForm) (row : RowForm) → RowsFit n t rows → RowFits n t row → RowsFit n t (rows ++ row ∷ [])
rows-push n t rows row fit fits j lt = elim (cases_lt j (length rows)) [
  | inl before ↦ rw (get_or_append_left rows (row ∷ []) no_row j before) (fit j before)
  | inr past ↦ rw (get_or_push rows row no_row j (omega (arith, lt, past, length_push rows row))) fits
]

pub marked-fits : (n t : ℕ) (row : RowForm) (b : ℕ) (cell : Cell) → b < length row.cells → RowFits n t row → CellFits n t (Some cell) → RowFits n t (marked row b cell)
marked-fits n t row b cell lt fits new = record { north = fits.north; west = fits.west; cells = at; outcome = fits.outcome }
  where
    at : (d : ℕ) → CellFits n t (slice_index_or (slice_set row.cells b (Some cell)) d None)
    at d = elim (cases_eq d b) [
      | inl is ↦ rw (is, get_or-set_same row.cells b (Some cell) None lt) new
      | inr other ↦ rw (get_or-set_other row.cells b d (Some cell) None other) (fits.cells d)
    ]

-- rows whose stores have grown are as they were
module _ (nodes nodes' : List Shape) (trails trails' : List TrailNode) (keeps : Keeps nodes nodes') (keeps_trails : KeepsTrails trails trails') (rows : List RowForm) (kept : AreKept nodes trails rows) where
  pub table-kept : table_in (values_of nodes') (trails_of trails') rows ≡ table_in (values_of nodes) (trails_of trails) rows
  table-kept = kept-table nodes nodes' trails trails' keeps keeps_trails rows kept.fit

  pub kept-kept : AreKept nodes' trails' rows
  kept-kept = record {
    fit = rows-more _ _ _ _ rows keeps.longer keeps_trails.longer kept.fit;
    counted = λ i lt. rw table-kept (kept.counted i lt);
  }
