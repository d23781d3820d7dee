-- A box starts an instance: one row comes, and one is marked and counts it.
use Rattle.std.specs.Prelude.{◌≡◌, ◌≢◌, ℕ, zero, suc, ◌+◌, ◌<◌, ◌==◌, Option, Some, None, List, [], ◌∷◌, ◌++◌, map, length, slice_index_or, slice_set, replicate}
use Rattle.std.specs.Option.{option_map}
use Rattle.std.proofs.Common.{refl, sym, ◌∙◌, ap, arith, inl, inr}
use Rattle.std.proofs.lemmas.Bool.{cases_eq, cases_lt, eq-eqb, ne_eqb}
use Rattle.std.proofs.lemmas.List.{get_or_append_left, get_or_push, get_or-set_same, get_or-set_other, length-set, length_push, set-append_left}
use Rattle.codex_values.specs.declared.shape.Shape.{Shape}
use Rattle.codex_values.specs.Store.{values_of}
use Rattle.two_d.specs.declared.trail.Trail.{Trail as TrailNode}
use Rattle.two_d.specs.Meaning as mean
use Rattle.two_d.specs.Programs.{Program, box_count}
use Rattle.two_d.specs.Steps.{Table, Instance, nobody, instance_at, with_cell, set_cell, begun}
use Rattle.two_d.specs.Trails.{trails_of}
use Rattle.fire_core.specs.declared.rows.Cell.{Cell}
use Rattle.fire_core.specs.inner.Instances.{AreKept, AreInnerCounted, inner_count, one_if}
use Rattle.fire_core.specs.inner.Rows.{RowForm, row_at, no_row, cell_in, inputs_in, table_in, IsPlace, RowsFit}
use Rattle.fire_core.proofs.CountLemmas.{inner_count-cell, inner_count-push}
use Rattle.fire_core.proofs.TableLemmas.{marked, length-table, table-mark, table-count, table-push, rows-set, rows-push, marked-fits}

-- a row that knows its number of inner instances
abbrev pub counting : RowForm → ℕ → RowForm
counting row n = record row { inner = n }

-- a row of a new instance
abbrev pub fresh : ℕ → ℕ × ℕ → Option ℕ → Option ℕ → ℕ → RowForm
fresh kind parent north west boxes = record {
  kind = kind;
  parent = Some parent;
  north = north;
  west = west;
  cells = replicate boxes None;
  inner = 0;
  outcome = None;
}

abbrev pub no_cell : Cell
no_cell = record { south = None; east = None; stuck = None }

pub map-none : {A B : Type 0} (f : A → B) (n : ℕ) → map (option_map f) (replicate n None) ≡ replicate n None
map-none f zero = refl
map-none f (suc n) = ap (λ l. None ∷ l) (map-none f n)

pub blank_cells : (k d : ℕ) → slice_index_or (replicate {A = Option Cell} k None) d None ≡ None
blank_cells zero d = refl
blank_cells (suc k) zero = refl
blank_cells (suc k) (suc d) = blank_cells k d

-- a cell of an instance among others
set_cell-push : (T : Table) (y : Instance) (i b : ℕ) (c : mean.Cell) → i < length T → set_cell (T ++ y ∷ []) i b c ≡ set_cell T i b c ++ y ∷ []
set_cell-push T y i b c lt =
    ap (λ x. slice_set (T ++ y ∷ []) i (with_cell x b c)) (get_or_append_left T (y ∷ []) nobody i lt)
    ∙ set-append_left T (y ∷ []) i (with_cell (instance_at T i) b c) lt

module _ (P : Program) (nodes : List Shape) (trails : List TrailNode) (rows : List RowForm) (i b kind n boxes : ℕ) (north west : Option ℕ) where
  abbrev pub added : List RowForm
  added = rows ++ fresh kind (i, b) north west boxes ∷ []

  abbrev pub quieted : List RowForm
  quieted = slice_set added i (marked (row_at added i) b no_cell)

  -- the rows after all
  abbrev pub begun_rows : List RowForm
  begun_rows = slice_set quieted i (counting (row_at quieted i) n)

  abbrev pub T : Table
  T = table_in (values_of nodes) (trails_of trails) rows

  abbrev pub new : Instance
  new = begun P kind (Some (i, b)) (inputs_in (values_of nodes) north west)

  length-added : length added ≡ length rows + 1
  length-added = length_push rows (fresh kind (i, b) north west boxes)

  added-at : i < length rows → row_at added i ≡ row_at rows i
  added-at lt = get_or_append_left rows (fresh kind (i, b) north west boxes ∷ []) no_row i lt

  table-added : boxes ≡ box_count P kind → table_in (values_of nodes) (trails_of trails) added ≡ T ++ new ∷ []
  table-added size =
      table-push (values_of nodes) (trails_of trails) rows (fresh kind (i, b) north west boxes)
      ∙ ap (λ cells. T ++ record new { cells = cells } ∷ []) (map-none (cell_in (values_of nodes) (trails_of trails)) boxes ∙ ap (λ k. replicate k None) size)

  pub table-begun : i < length rows → boxes ≡ box_count P kind →
      table_in (values_of nodes) (trails_of trails) begun_rows ≡ set_cell T i b mean.quiet ++ new ∷ []
  table-begun lt size =
      table-count (values_of nodes) (trails_of trails) quieted i n
      ∙ (table-mark (values_of nodes) (trails_of trails) added i b no_cell (omega (arith, lt, length-added))
      ∙ (ap (λ U. set_cell U i b mean.quiet) (table-added size)
      ∙ set_cell-push T new i b mean.quiet (omega (arith, lt, length-table (values_of nodes) (trails_of trails) rows))))

  added-fit : IsPlace (length nodes) north → IsPlace (length nodes) west → RowsFit (length nodes) (length trails) rows → RowsFit (length nodes) (length trails) added
  added-fit at_n at_w fit =
      rows-push (length nodes) (length trails) rows (fresh kind (i, b) north west boxes) fit
      (record { north = at_n; west = at_w; cells = λ d. rw (blank_cells boxes d) tt; outcome = tt })

  quieted-fit : i < length rows → b < length (row_at rows i).cells → RowsFit (length nodes) (length trails) added → RowsFit (length nodes) (length trails) quieted
  quieted-fit lt has fit =
      rows-set _ _ added i (marked (row_at added i) b no_cell) fit
      (marked-fits _ _ (row_at added i) b no_cell (rw (added-at lt) has) (fit i (omega (arith, lt, length-added))) (tt, tt, tt))

  begun-fit : i < length rows → RowsFit (length nodes) (length trails) quieted → RowsFit (length nodes) (length trails) begun_rows
  begun-fit lt fit =
      let here = fit i (omega (arith, lt, length-added, length-set added i (marked (row_at added i) b no_cell))) in
      rows-set _ _ quieted i (counting (row_at quieted i) n) fit (record { north = here.north; west = here.west; cells = here.cells; outcome = here.outcome })

  -- the number of inner instances of each
  inner-here : i < length rows → (row_at begun_rows i).inner ≡ n
  inner-here lt =
      ap (λ (row : RowForm). row.inner) (get_or-set_same quieted i (counting (row_at quieted i) n) no_row (omega (arith, lt, length-added, length-set added i (marked (row_at added i) b no_cell))))

  inner-other : (j : ℕ) → j ≢ i → j < length rows → (row_at begun_rows j).inner ≡ (row_at rows j).inner
  inner-other j other lt =
      ap (λ (row : RowForm). row.inner)
      (get_or-set_other quieted i j (counting (row_at quieted i) n) no_row other
      ∙ (get_or-set_other added i j (marked (row_at added i) b no_cell) no_row other
      ∙ get_or_append_left rows (fresh kind (i, b) north west boxes ∷ []) no_row j lt))

  inner-new : (j : ℕ) → j ≢ i → j ≡ length rows → (row_at begun_rows j).inner ≡ 0
  inner-new j other is =
      ap (λ (row : RowForm). row.inner)
      (get_or-set_other quieted i j (counting (row_at quieted i) n) no_row other
      ∙ (get_or-set_other added i j (marked (row_at added i) b no_cell) no_row other
      ∙ get_or_push rows (fresh kind (i, b) north west boxes) no_row j (sym is)))

  count-after : (j : ℕ) → i < length rows → inner_count j (set_cell T i b mean.quiet ++ new ∷ []) ≡ inner_count j T + one_if (i == j)
  count-after j lt =
      inner_count-push j (set_cell T i b mean.quiet) new
      ∙ ap (λ k. k + one_if (i == j)) (inner_count-cell j T i b mean.quiet (omega (arith, lt, length-table (values_of nodes) (trails_of trails) rows)))

  length-begun : length begun_rows ≡ length rows + 1
  length-begun = length-set quieted i (counting (row_at quieted i) n) ∙ (length-set added i (marked (row_at added i) b no_cell) ∙ length-added)

  begun-counted : i < length rows → n ≡ (row_at rows i).inner + 1 → AreInnerCounted rows T → inner_count (length T) T ≡ 0 →
      (j : ℕ) → j < length begun_rows → (row_at begun_rows j).inner ≡ inner_count j (set_cell T i b mean.quiet ++ new ∷ [])
  begun-counted lt more counted childless j below = back (elim (cases_eq j i) [
    | inl is ↦ here is
    | inr other ↦ elim (cases_lt j (length rows)) [
      | inl before ↦ inner-other j other before ∙ (counted j before ∙ same j other)
      | inr past ↦ last other (omega (arith, below, past, length-begun))
    ]
  ])
    where
      back : (row_at begun_rows j).inner ≡ inner_count j T + one_if (i == j) → (row_at begun_rows j).inner ≡ inner_count j (set_cell T i b mean.quiet ++ new ∷ [])
      back e = e ∙ sym (count-after j lt)

      same : (k : ℕ) → k ≢ i → inner_count k T ≡ inner_count k T + one_if (i == k)
      same k other = rw (ne_eqb i k (λ e. other (sym e))) (omega arith)

      here : j ≡ i → (row_at begun_rows j).inner ≡ inner_count j T + one_if (i == j)
      here is = rw (is, eq-eqb i i refl) (inner-here lt ∙ (more ∙ ap (λ k. k + 1) (counted i lt)))

      last : j ≢ i → j ≡ length rows → (row_at begun_rows j).inner ≡ inner_count j T + one_if (i == j)
      last other is =
          let none : inner_count j T ≡ 0 = rw (is ∙ sym (length-table (values_of nodes) (trails_of trails) rows)) childless in
          inner-new j other is ∙ (sym none ∙ same j other)

  pub begun-kept : i < length rows → b < length (row_at rows i).cells → boxes ≡ box_count P kind → n ≡ (row_at rows i).inner + 1 →
      IsPlace (length nodes) north → IsPlace (length nodes) west → inner_count (length T) T ≡ 0 → AreKept nodes trails rows → AreKept nodes trails begun_rows
  begun-kept lt has size more at_n at_w childless kept = record {
    fit = begun-fit lt (quieted-fit lt has (added-fit at_n at_w kept.fit));
    counted = λ j below. rw (table-begun lt size) (begun-counted lt more kept.counted childless j below);
  }

  -- what the calls leave is these rows
  pub begun_is : (cells : List (Option Cell)) (r1 r2 r3 : List RowForm) → cells ≡ replicate boxes None →
      r1 ≡ rows ++ record (fresh kind (i, b) north west boxes) { cells = cells } ∷ [] → r2 ≡ slice_set r1 i (marked (row_at r1 i) b no_cell) →
      r3 ≡ slice_set r2 i (counting (row_at r2 i) n) → begun_rows ≡ r3
  begun_is cells r1 r2 r3 blank_cells e1 e2 e3 =
      let first : r1 ≡ added = e1 ∙ ap (λ cells. rows ++ record (fresh kind (i, b) north west boxes) { cells = cells } ∷ []) blank_cells in
      let second : r2 ≡ quieted = e2 ∙ ap (λ r. slice_set r i (marked (row_at r i) b no_cell)) first in
      sym (e3 ∙ ap (λ r. slice_set r i (counting (row_at r i) n)) second)

-- a property that no cell has is that of None alone
pub only_none : (Like : Option Cell → Type 0) → ((x : Cell) → Like (Some x) → ⊥) → (y : Option Cell) → Like y → y ≡ None
only_none Like none None like = refl
only_none Like none (Some x) like = absurd (none x like)
