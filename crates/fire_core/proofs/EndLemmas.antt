-- An instance that ends: one row is closed, and that of the box that started it is marked.
use Rattle.std.specs.Prelude.{◌≡◌, ◌≢◌, ℕ, ◌+◌, ◌<◌, ◌&&◌, Some, None, List, Bool, true, false, length, slice_set}
use Rattle.std.proofs.Common.{refl, sym, ◌∙◌, ap, arith, inl, inr}
use Rattle.std.proofs.lemmas.Bool.{cases_eq, ne_eqb}
use Rattle.std.proofs.lemmas.List.{get_or-set_same, get_or-set_other, length-set}
use Rattle.codex_values.specs.declared.shape.Shape.{Shape}
use Rattle.codex_values.specs.Store.{values_of}
use Rattle.two_d.specs.declared.outcome.Outcome.{Outcome}
use Rattle.two_d.specs.declared.trail.Trail.{Trail as TrailNode}
use Rattle.two_d.specs.Good.{IsGood}
use Rattle.two_d.specs.Programs.{Program, box_count}
use Rattle.two_d.specs.Steps.{Table, Instance, End, instance_at, is_live, is_inner, is_ready, set_cell, ended, IsStateOf}
use Rattle.two_d.specs.Texts.{outcome_in}
use Rattle.two_d.specs.Trails.{trails_of}
use Rattle.two_d.proofs.Ending.{over-ready}
use Rattle.two_d.proofs.Firing.{fired_there}
use Rattle.two_d.proofs.State.{live_within, is_inner-from}
use Rattle.fire_core.specs.declared.rows.Cell.{Cell}
use Rattle.fire_core.specs.inner.Instances.{AreKept, inner_count, one_if}
use Rattle.fire_core.specs.inner.Rows.{RowForm, row_at, no_row, cell_in, table_in, CellFits, OutcomeFits, RowsFit}
use Rattle.fire_core.proofs.BeginLemmas.{counting}
use Rattle.fire_core.proofs.CountLemmas.{inner_count-cell, inner_count-end}
use Rattle.fire_core.proofs.StateLemmas.{state_sound, kinds_fit}
use Rattle.fire_core.proofs.TableLemmas.{marked, length-table, table-mark, table-count, table-close, rows-set, marked-fits}

-- the instance that started another one stands before it, and the box has fired
pub record HasParent (T : Table) (i : ℕ) (p : ℕ × ℕ) : Type 0 where
  pub earlier : p.0 < i
  pub has : p.1 < length (instance_at T p.0).cells

-- instance i of the table can end
pub record CanEnd (P : Program) (T : Table) (i : ℕ) : Type 0 where
  pub within : i < length T
  pub live : is_live (instance_at T i) ≡ true
  pub kind : (instance_at T i).kind < length P
  pub sized : length (instance_at T i).cells ≡ box_count P (instance_at T i).kind
  pub parent : (p : ℕ × ℕ) → (instance_at T i).parent ≡ Some p → HasParent T i p

pub can_end : (P : Program) (T : Table) (i : ℕ) → IsGood P → IsStateOf P T → is_ready P T (End i) ≡ true → CanEnd P T i
can_end P T i good state ready =
    let live = (over-ready P T i ready).0 in
    let (n, sound) = state_sound P T state in
    record {
      within = live_within T i live;
      live = live;
      kind = kinds_fit P T good state i (live_within T i live);
      sized = sound.sized i (live_within T i live);
      parent = λ p is.
          let started = sound.starts i p.0 p.1 live is in
          record { earlier = started.later; has = fired_there (instance_at T p.0) p.1 started.has_fired };
    }

-- a row whose instance has ended
abbrev pub closed : RowForm → Outcome → RowForm
closed row o = record row { outcome = Some o }

pub is_inner-orphan : (x : Instance) (j : ℕ) → x.parent ≡ None → one_if (is_inner j x) ≡ 0
is_inner-orphan x j is = rw is (by (is_live x))
  where
    by : (t : Bool) → one_if (t && false) ≡ 0
    by true = refl
    by false = refl

pub is_inner-other : (x : Instance) (p : ℕ × ℕ) (j : ℕ) → x.parent ≡ Some p → j ≢ p.0 → one_if (is_inner j x) ≡ 0
is_inner-other x p j is other = rw (is, ne_eqb p.0 j (λ e. other (sym e))) (by (is_live x))
  where
    by : (t : Bool) → one_if (t && false) ≡ 0
    by true = refl
    by false = refl

module _ (nodes : List Shape) (trails : List TrailNode) (rows : List RowForm) (i : ℕ) (o : Outcome) (lt : i < length rows) where
  abbrev pub closed_rows : List RowForm
  closed_rows = slice_set rows i (closed (row_at rows i) o)

  abbrev pub before : Table
  before = table_in (values_of nodes) (trails_of trails) rows

  abbrev pub closed_table : Table
  closed_table = slice_set before i (ended (instance_at before i) (outcome_in (values_of nodes) (trails_of trails) o))

  pub table-closed : table_in (values_of nodes) (trails_of trails) closed_rows ≡ closed_table
  table-closed = table-close (values_of nodes) (trails_of trails) rows i o lt

  pub closed-fit : OutcomeFits (length nodes) (length trails) (Some o) → RowsFit (length nodes) (length trails) rows → RowsFit (length nodes) (length trails) closed_rows
  closed-fit fits fit =
      let here = fit i lt in
      rows-set _ _ rows i (closed (row_at rows i) o) fit (record { north = here.north; west = here.west; cells = here.cells; outcome = fits })

  pub closed-inner : (j : ℕ) → (row_at closed_rows j).inner ≡ (row_at rows j).inner
  closed-inner j = elim (cases_eq j i) [
    | inl is ↦ rw is (ap (λ (row : RowForm). row.inner) (get_or-set_same rows i (closed (row_at rows i) o) no_row lt))
    | inr other ↦ ap (λ (row : RowForm). row.inner) (get_or-set_other rows i j (closed (row_at rows i) o) no_row other)
  ]

  count-closed : (j : ℕ) → inner_count j closed_table + one_if (is_inner j (instance_at before i)) ≡ inner_count j before
  count-closed j = inner_count-end j before i _ (omega (arith, lt, length-table (values_of nodes) (trails_of trails) rows))

  -- an instance without a parent has ended
  pub finished-kept : (instance_at before i).parent ≡ None → OutcomeFits (length nodes) (length trails) (Some o) → AreKept nodes trails rows → AreKept nodes trails closed_rows
  finished-kept orphan fits kept = record {
    fit = closed-fit fits kept.fit;
    counted = λ j below. rw table-closed
        (closed-inner j ∙ (kept.counted j (omega (arith, below, length-set rows i (closed (row_at rows i) o)))
        ∙ (let count = count-closed j in let none = is_inner-orphan (instance_at before i) j orphan in omega (arith, count, none))));
  }

  module _ (above b : ℕ) (cell : Cell) (apart : above ≢ i) (there : above < length rows) (has : b < length (row_at rows above).cells) (n : ℕ) where
    abbrev pub told_rows : List RowForm
    told_rows = slice_set closed_rows above (marked (row_at closed_rows above) b cell)

    abbrev pub delivered_rows : List RowForm
    delivered_rows = slice_set told_rows above (counting (row_at told_rows above) n)

    length-closed : length closed_rows ≡ length rows
    length-closed = length-set rows i (closed (row_at rows i) o)

    length-told : length told_rows ≡ length rows
    length-told = length-set closed_rows above (marked (row_at closed_rows above) b cell) ∙ length-closed

    pub table-delivered : table_in (values_of nodes) (trails_of trails) delivered_rows ≡ set_cell closed_table above b (cell_in (values_of nodes) (trails_of trails) cell)
    table-delivered =
        table-count (values_of nodes) (trails_of trails) told_rows above n
        ∙ (table-mark (values_of nodes) (trails_of trails) closed_rows above b cell (omega (arith, there, length-closed))
        ∙ ap (λ U. set_cell U above b (cell_in (values_of nodes) (trails_of trails) cell)) table-closed)

    told-fit : CellFits (length nodes) (length trails) (Some cell) → RowsFit (length nodes) (length trails) closed_rows → RowsFit (length nodes) (length trails) told_rows
    told-fit fits fit =
        let same : row_at closed_rows above ≡ row_at rows above = get_or-set_other rows i above (closed (row_at rows i) o) no_row apart in
        rows-set _ _ closed_rows above _ fit
        (marked-fits _ _ (row_at closed_rows above) b cell (rw same has) (fit above (omega (arith, there, length-closed))) fits)

    delivered-fit : RowsFit (length nodes) (length trails) told_rows → RowsFit (length nodes) (length trails) delivered_rows
    delivered-fit fit =
        let here = fit above (omega (arith, there, length-told)) in
        rows-set _ _ told_rows above (counting (row_at told_rows above) n) fit (record { north = here.north; west = here.west; cells = here.cells; outcome = here.outcome })

    delivered-inner : (j : ℕ) → j ≢ above → (row_at delivered_rows j).inner ≡ (row_at rows j).inner
    delivered-inner j other =
        ap (λ (row : RowForm). row.inner)
        (get_or-set_other told_rows above j (counting (row_at told_rows above) n) no_row other
        ∙ get_or-set_other closed_rows above j (marked (row_at closed_rows above) b cell) no_row other)
        ∙ closed-inner j

    count-delivered : (j : ℕ) → inner_count j (set_cell closed_table above b (cell_in (values_of nodes) (trails_of trails) cell)) ≡ inner_count j closed_table
    count-delivered j = inner_count-cell j closed_table above b _
        (omega (arith, there, length-set before i (ended (instance_at before i) (outcome_in (values_of nodes) (trails_of trails) o)), length-table (values_of nodes) (trails_of trails) rows))

    -- an instance has ended, and the box that started it knows its outcome
    pub delivered-kept : is_live (instance_at before i) ≡ true → (instance_at before i).parent ≡ Some (above, b) → n + 1 ≡ (row_at rows above).inner →
        OutcomeFits (length nodes) (length trails) (Some o) → CellFits (length nodes) (length trails) (Some cell) → AreKept nodes trails rows → AreKept nodes trails delivered_rows
    delivered-kept live parent less fits cell_fits kept = record {
      fit = delivered-fit (told-fit cell_fits (closed-fit fits kept.fit));
      counted = λ j below. rw (table-delivered, count-delivered j) (elim (cases_eq j above) [
        | inl is ↦ here j is
        | inr other ↦ delivered-inner j other
            ∙ (kept.counted j (omega (arith, below, length-set told_rows above (counting (row_at told_rows above) n), length-told))
            ∙ (let count = count-closed j in let none = is_inner-other (instance_at before i) (above, b) j parent other in omega (arith, count, none)))
      ]);
    }
      where
        one : one_if (is_inner above (instance_at before i)) ≡ 1
        one = rw (is_inner-from above b (instance_at before i) live parent) refl

        here : (j : ℕ) → j ≡ above → (row_at delivered_rows j).inner ≡ inner_count j closed_table
        here j is =
            let mine : (row_at delivered_rows above).inner ≡ n = ap (λ (row : RowForm). row.inner) (get_or-set_same told_rows above (counting (row_at told_rows above) n) no_row (omega (arith, there, length-told))) in
            let counted = kept.counted above there in
            let count = count-closed above in
            rw is (omega (arith, mine, less, counted, count, one))

    -- what the calls leave is these rows
    pub delivered_is : (r1 r2 r3 : List RowForm) → r1 ≡ closed_rows → r2 ≡ slice_set r1 above (marked (row_at r1 above) b cell) →
        r3 ≡ slice_set r2 above (counting (row_at r2 above) n) → delivered_rows ≡ r3
    delivered_is r1 r2 r3 e1 e2 e3 =
        let second : r2 ≡ told_rows = e2 ∙ ap (λ r. slice_set r above (marked (row_at r above) b cell)) e1 in
        sym (e3 ∙ ap (λ r. slice_set r above (counting (row_at r above) n)) second)
