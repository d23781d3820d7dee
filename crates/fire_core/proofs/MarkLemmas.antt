-- A box comes to something: one row is marked.
use Rattle.std.specs.Prelude.{◌≡◌, ℕ, ◌<◌, Some, None, List, true, length, slice_set}
use Rattle.std.proofs.Common.{refl, sym, ◌∙◌, ap, arith, inl, inr}
use Rattle.std.proofs.lemmas.Bool.{cases_eq, and_parts, false_from_ne_true}
use Rattle.std.proofs.lemmas.List.{get_or-set_same, get_or-set_other, length-set}
use Rattle.codex_values.specs.declared.shape.Shape.{Shape}
use Rattle.codex_values.specs.Store.{values_of}
use Rattle.two_d.specs.declared.trail.Trail.{Trail as TrailNode}
use Rattle.two_d.specs.Good.{IsGood}
use Rattle.two_d.specs.Meaning.{Answers, Effect, mean, returned}
use Rattle.two_d.specs.Programs.{Program}
use Rattle.two_d.specs.Steps.{Table, Instance, Fire, End, nobody, instance_at, is_live, is_box_of, is_ready, wires, firing, fire, set_cell, ended, end_of, deliver, step, IsStateOf}
use Rattle.two_d.specs.Trails.{trails_of}
use Rattle.two_d.proofs.Progress.{is_box_of-parent}
use Rattle.two_d.proofs.Depth.{act_there}
use Rattle.two_d.proofs.Firing.{can_fire-ready}
use Rattle.two_d.proofs.State.{Sound, live_within}
use Rattle.fire_core.proofs.StateLemmas.{state_sound, kinds_fit}
use Rattle.fire_core.specs.declared.rows.Cell.{Cell}
use Rattle.fire_core.specs.inner.Instances.{AreKept, inner_count}
use Rattle.fire_core.specs.inner.Rows.{RowForm, CellFits, row_at, no_row}
use Rattle.fire_core.proofs.CountLemmas.{inner_count-cell, inner_count-none}
use Rattle.fire_core.proofs.TableLemmas.{marked, length-table, table-mark, rows-set, marked-fits}

pub marked-kept : (nodes : List Shape) (trails : List TrailNode) (rows : List RowForm) (i b : ℕ) (cell : Cell) → i < length rows → b < length (row_at rows i).cells →
    CellFits (length nodes) (length trails) (Some cell) → AreKept nodes trails rows → AreKept nodes trails (slice_set rows i (marked (row_at rows i) b cell))
marked-kept nodes trails rows i b cell lt has fits kept = record {
  fit = rows-set _ _ rows i _ kept.fit (marked-fits _ _ (row_at rows i) b cell has (kept.fit i lt) fits);
  counted = λ j below. rw (table-mark (values_of nodes) (trails_of trails) rows i b cell lt)
      (same j ∙ (kept.counted j (omega (arith, below, length-set rows i (marked (row_at rows i) b cell)))
      ∙ sym (inner_count-cell j _ i b _ (omega (arith, lt, length-table (values_of nodes) (trails_of trails) rows)))));
}
  where
    same : (j : ℕ) → (row_at (slice_set rows i (marked (row_at rows i) b cell)) j).inner ≡ (row_at rows j).inner
    same j = elim (cases_eq j i) [
      | inl is ↦ rw is (ap (λ (row : RowForm). row.inner) (get_or-set_same rows i (marked (row_at rows i) b cell) no_row lt))
      | inr other ↦ ap (λ (row : RowForm). row.inner) (get_or-set_other rows i j (marked (row_at rows i) b cell) no_row other)
    ]

-- the next instance has no inner ones
pub childless : (P : Program) (answer : Answers) (T : Table) → Sound P answer T → inner_count (length T) T ≡ 0
childless P answer T sound = inner_count-none (length T) T (λ i lt. false_from_ne_true _ (λ inner.
    let (live, box) = and_parts (is_live (instance_at T i)) (is_box_of (length T) (instance_at T i).parent) inner in
    let (b, is) = is_box_of-parent (length T) (instance_at T i).parent box in
    let started = sound.starts i (length T) b live is in
    omega (arith, lt, started.later)))

-- a firing whose effect is known
pub step-effect : (P : Program) (T : Table) (i b : ℕ) (x : Effect) → Some x ≡ firing P (instance_at T i) b → fire P T i b (Some x) ≡ step P T (Fire i b)
unfolding step
step-effect P T i b x e = ap (fire P T i b) e

-- box b of instance i of the table can fire
pub record MayFire (P : Program) (T : Table) (i b : ℕ) : Type 0 where
  pub within : i < length T
  pub has : b < length (instance_at T i).cells
  pub kind : (instance_at T i).kind < length P
  pub alone : inner_count (length T) T ≡ 0

pub may_fire : (P : Program) (T : Table) (i b : ℕ) → IsGood P → IsStateOf P T → is_ready P T (Fire i b) ≡ true → MayFire P T i b
may_fire P T i b good state ready =
    let (x, can) = can_fire-ready P T i b ready in
    let (n, sound) = state_sound P T state in
    let lt = live_within T i can.live in
    record {
      within = lt;
      has = omega (arith, sound.sized i lt, act_there P (instance_at T i).kind (wires (instance_at T i)) b x can.acts);
      kind = kinds_fit P T good state i lt;
      alone = childless P (mean P n) T sound;
    }

-- the end of an instance, by the instance that started it
pub step-orphan : (P : Program) (T : Table) (i : ℕ) → (instance_at T i).parent ≡ None →
    slice_set T i (ended (instance_at T i) (end_of P (instance_at T i))) ≡ step P T (End i)
unfolding step
step-orphan P T i is = rw is refl

pub step-inner : (P : Program) (T : Table) (i above b : ℕ) → (instance_at T i).parent ≡ Some (above, b) → above < i →
    set_cell (slice_set T i (ended (instance_at T i) (end_of P (instance_at T i)))) above b (returned (instance_at T above).kind b (end_of P (instance_at T i)))
    ≡ step P T (End i)
unfolding step
step-inner P T i above b is earlier =
    let same : instance_at (slice_set T i (ended (instance_at T i) (end_of P (instance_at T i)))) above ≡ instance_at T above =
    get_or-set_other T i above (ended (instance_at T i) (end_of P (instance_at T i))) nobody (λ e. omega (arith, e, earlier)) in
    ap (λ (x : Instance). set_cell (slice_set T i (ended (instance_at T i) (end_of P (instance_at T i)))) above b (returned x.kind b (end_of P (instance_at T i)))) (sym same)
    ∙ ap (λ p. deliver (slice_set T i (ended (instance_at T i) (end_of P (instance_at T i)))) p (end_of P (instance_at T i))) (sym is)
