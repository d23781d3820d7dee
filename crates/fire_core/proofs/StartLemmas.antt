-- One row, of `main`.
use Rattle.std.specs.Prelude.{◌≡◌, ℕ, zero, suc, ◌<◌, Option, None, List, [], ◌∷◌, ◌++◌, false, length, replicate}
use Rattle.std.proofs.Common.{refl, sym, ◌∙◌, ap, arith}
use Rattle.codex_values.specs.declared.shape.Shape.{Shape}
use Rattle.codex_values.specs.Store.{values_of}
use Rattle.two_d.specs.declared.trail.Trail.{Trail as TrailNode}
use Rattle.two_d.specs.Programs.{Program, main_of, box_count}
use Rattle.two_d.specs.Steps.{instance_at, is_inner, begun, start}
use Rattle.two_d.specs.Meaning.{no_inputs}
use Rattle.two_d.specs.Trails.{trails_of}
use Rattle.fire_core.specs.declared.rows.Cell.{Cell}
use Rattle.fire_core.specs.inner.Instances.{AreKept, inner_count}
use Rattle.fire_core.specs.inner.Rows.{RowForm, row_at, cell_in, table_in, RowFits}
use Rattle.fire_core.proofs.BeginLemmas.{blank_cells, map-none}
use Rattle.fire_core.proofs.CountLemmas.{inner_count-none}

abbrev pub root : ℕ → List (Option Cell) → RowForm
root kind cells = record { kind = kind; parent = None; north = None; west = None; cells = cells; inner = 0; outcome = None }

root-table : (P : Program) (boxes : ℕ) → boxes ≡ box_count P (main_of P) → table_in [] [] (root (main_of P) (replicate boxes None) ∷ []) ≡ start P
root-table P boxes size =
    ap (λ cells. record (begun P (main_of P) None no_inputs) { cells = cells } ∷ []) (map-none (cell_in [] []) boxes ∙ ap (λ k. replicate k None) size)

root-kept : (m boxes : ℕ) → AreKept [] [] (root m (replicate boxes None) ∷ [])
root-kept m boxes = record { fit = fit; counted = counted }
  where
    fit : (i : ℕ) → i < length (root m (replicate boxes None) ∷ []) → RowFits 0 0 (row_at (root m (replicate boxes None) ∷ []) i)
    fit zero lt = record { north = tt; west = tt; cells = λ d. rw (blank_cells boxes d) tt; outcome = tt }
    fit (suc i) lt = absurd (omega arith)

    none : (j i : ℕ) → i < length (table_in [] [] (root m (replicate boxes None) ∷ [])) → is_inner j (instance_at (table_in [] [] (root m (replicate boxes None) ∷ [])) i) ≡ false
    none j zero lt = refl
    none j (suc i) lt = absurd (omega arith)

    counted : (i : ℕ) → i < length (root m (replicate boxes None) ∷ []) →
        (row_at (root m (replicate boxes None) ∷ []) i).inner ≡ inner_count i (table_in [] [] (root m (replicate boxes None) ∷ []))
    counted zero lt = sym (inner_count-none zero _ (none zero))
    counted (suc i) lt = absurd (omega arith)

module _ (P : Program) (nodes : List Shape) (trails : List TrailNode) (rows r : List RowForm) (cells : List (Option Cell)) (m boxes : ℕ)
    (no_nodes : nodes ≡ []) (no_trails : trails ≡ []) (no_rows : r ≡ []) (pushed : rows ≡ r ++ root m cells ∷ []) (blank : cells ≡ replicate boxes None) where
  rows_are : rows ≡ root m (replicate boxes None) ∷ []
  rows_are = pushed ∙ (ap (λ l. l ++ root m cells ∷ []) no_rows ∙ ap (λ c. root m c ∷ []) blank)

  pub start-kept : AreKept nodes trails rows
  start-kept = rw (no_nodes, no_trails, rows_are) (root-kept m boxes)

  pub start-table : m ≡ main_of P → boxes ≡ box_count P m → table_in (values_of nodes) (trails_of trails) rows ≡ start P
  start-table is size = rw (no_nodes, no_trails, rows_are, is) (root-table P boxes (rw is at size))
