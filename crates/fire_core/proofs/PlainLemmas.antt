-- What boxes, rounds and instances come to, from what was computed of them.
use Rattle.std.specs.Prelude.{Option, Some, None, ◌≡◌, ℕ, suc, ◌+◌, ◌<◌, ◌≤◌, Bool, true, false, not, ◌&&◌, if◌then◌else◌, List, [], ◌∷◌, ◌++◌, map, length, slice_get, slice_index_or}
use Rattle.std.specs.Option.{option_map}
use mathlib.Core.Path.{fun_ext}
use Rattle.std.proofs.Common.{refl, sym, ◌∙◌, ap, subst, arith, inl, inr}
use Rattle.std.proofs.lemmas.Bool.{cases_lt}
use Rattle.std.proofs.lemmas.List.{get_or-map, get_or_past, get_or_append_left, get_or_push, length-map, length_push}
use Rattle.codex_values.specs.declared.shape.Shape.{Shape}
use Rattle.codex_values.specs.Store.{Keeps, values_of}
use Rattle.codex_values.specs.Value.{Value}
use Rattle.two_d.specs.declared.module.Origin.{Origin}
use Rattle.two_d.specs.declared.outcome.Outcome.{Outcome as OutcomeKept}
use Rattle.two_d.specs.Good.{IsGood}
use Rattle.two_d.specs.Meaning as mean
use Rattle.two_d.specs.Meaning.{Answers, Meaning, act, all_below, all_known, cells_from, cell_of, look_in, look_of, mean as means, meaning_of, outcome_of, pulled, sum_below, summary_of}
use Rattle.two_d.specs.Programs.{Program, box_count}
use Rattle.two_d.specs.Steps.{Event, Instance, Table, fired, wires, end_of, events_from, is_ready, ready}
use Rattle.two_d.specs.Texts.{outcome_in}
use Rattle.two_d.specs.declared.trail.Trail.{Trail as TrailNode}
use Rattle.two_d.specs.Trails.{Trail, KeepsTrails, trails_of}
use Rattle.two_d.proofs.KeptOrders.{kept_orders, kept_valid}
use Rattle.two_d.proofs.Picks.{get-filter}
use Rattle.two_d.proofs.Pulling.{act-past, pulled-whole}
use Rattle.two_d.proofs.Starting.{starts-there}
use Rattle.fire_core.specs.declared.act.Effect.{Effect}
use Rattle.fire_core.specs.declared.act.Effect.TheVariants.{Done, Starts}
use Rattle.fire_core.specs.declared.look.Inputs.{Inputs}
use Rattle.fire_core.specs.declared.plain.rounds.Round.{Round}
use Rattle.fire_core.specs.inner.Acts.{effect_in}
use Rattle.fire_core.specs.inner.Look.{inputs_at, InputsFit}
use Rattle.fire_core.specs.inner.Plain.{Begins, CellsFit, IsFired, IsRound, IsRowOf, effects_in, known_in, row_for}
use Rattle.fire_core.specs.inner.Rows.{RowForm, RowFits, CellFits, cell_in, instance_in}
use Rattle.fire_core.specs.Plain.{stopped, with_stops}
use Rattle.fire_core.specs.declared.plain.boxes.Fired.{Fired}
use Rattle.fire_core.specs.declared.rows.Cell.{Cell}
use Rattle.fire_core.proofs.TableLemmas.{kept-cell, kept-row, kept-value, cell-more, place-more}

pub stopped-add : (a b : ℕ) → stopped (stopped a + stopped b) ≡ stopped (a + b)
stopped-add a b = omega arith

pub stopped-one : (a b : ℕ) → a ≡ stopped b → stopped (a + 1) ≡ stopped (1 + b)
stopped-one a b e = omega (arith, e)

pub not-true : (b : Bool) → not b ≡ true → b ≡ false
not-true false e = refl
not-true true e = absurd (cc)

pub not-false : (b : Bool) → not b ≡ false → b ≡ true
not-false false e = absurd (cc)
not-false true e = refl

-- what a box of a good program starts is there
pub begins-there : (P : Program) → IsGood P → (m : ℕ) → m < length P → (look : Origin → Option Value) (b : ℕ) (values : List Value) (trails : List Trail) (e : Effect) →
    act P m look b ≡ Some (effect_in values trails e) → Begins (length P) e
begins-there P good m lt look b values trails (Done cell) is = tt
begins-there P good m lt look b values trails (Starts kind inputs) is = starts-there P good m lt look b kind (inputs_at values inputs) is

module _ (P : Program) (answer : Answers) (m : ℕ) (values : List Value) (trails : List Trail) where
  -- the cells of a round, as the cells of an instance
  pub fired-round : (look : Origin → Option Value) (kind : ℕ) (inputs : Inputs) (round : Round) → IsRound values trails answer m (act P m look) (box_count P m) round →
      fired (instance_in values trails (row_for kind inputs round.cells.items)) ≡ cells_from P answer m look
  fired-round look kind inputs round is = fun_ext at
    where
      at : (b : ℕ) → slice_index_or (map (option_map (cell_in values trails)) round.cells.items) b None ≡ cells_from P answer m look b
      at b = elim (cases_lt b (box_count P m)) [
        | inl lt ↦ get_or-map (option_map (cell_in values trails)) round.cells.items b None None (omega (arith, lt, is.sized)) ∙ is.cells b lt
        | inr past ↦
            get_or_past (map (option_map (cell_in values trails)) round.cells.items) b None
            (omega (arith, past, is.sized, length-map round.cells.items (option_map (cell_in values trails))))
            ∙ sym (ap (option_map (cell_of m b answer)) (act-past P m look b past))
      ]

  -- the wires after a round carry what is pulled through one box more
  pub wires-round : (look : Origin → Option Value) (a : mean.Inputs) (kind : ℕ) (inputs : Inputs) (round : Round) → inputs_at values inputs ≡ a →
      IsRound values trails answer m (act P m look) (box_count P m) round →
      wires (instance_in values trails (row_for kind inputs round.cells.items)) ≡ look_in a (cells_from P answer m look)
  wires-round look a kind inputs round same is =
      ap (λ (i : mean.Inputs). look_in i (fired (instance_in values trails (row_for kind inputs round.cells.items)))) same
      ∙ ap (look_in a) (fired-round look kind inputs round is)

  pub ended-outcome : IsGood P → (a : mean.Inputs) (inputs : Inputs) (row : RowForm) (round : Round) → row ≡ row_for m inputs round.cells.items → inputs_at values inputs ≡ a →
      IsRound values trails answer m (act P m (look_of P answer m a)) (box_count P m) round →
      end_of P (instance_in values trails row) ≡ outcome_of P m (cells_from P answer m (look_of P answer m a)) (look_of P answer m a)
  ended-outcome good a inputs row round this same is =
      let (order, kept) = kept_orders P good in
      let whole = pulled-whole P answer m a (order m) (kept_valid P order kept m) in
      ap (λ (r : RowForm). end_of P (instance_in values trails r)) this
      ∙ (ap (λ (c : mean.Cells). outcome_of P m c (wires (instance_in values trails (row_for m inputs round.cells.items)))) (fired-round (look_of P answer m a) m inputs round is)
      ∙ ap (outcome_of P m (cells_from P answer m (look_of P answer m a))) (wires-round (look_of P answer m a) a m inputs round same is ∙ sym whole))

  -- what an instance means, from its outcome and its last round
  pub known-ended : (a : mean.Inputs) (trails' : List Trail) (outcome : OutcomeKept) (look : Origin → Option Value) (round : Round) (instances : ℕ) →
      IsRound values trails answer m (act P m look) (box_count P m) round → instances ≡ stopped (round.instances + 1) →
      outcome_in values trails' outcome ≡ outcome_of P m (cells_from P answer m look) look →
      known_in values trails' (record { outcome = outcome; firings = round.firings; instances = instances }) ≡ with_stops (summary_of P answer m look)
  known-ended a trails' outcome look round instances is count e =
      rw (e, is.firings, count ∙ stopped-one round.instances _ is.instances) refl

  -- no box yet
  pub round-none : (effects : ℕ → Option mean.Effect) (round : Round) → round.cells.items ≡ [] → round.known ≡ true → round.firings ≡ 0 → round.instances ≡ 0 →
      IsRound values trails answer m effects 0 round
  unfolding all_below sum_below
  round-none effects round none known firings instances = record {
    sized = ap length none;
    cells = λ b lt. absurd (omega (arith, lt));
    known = known;
    firings = firings;
    instances = instances;
  }

  pub row-none : (a : mean.Inputs) (inputs : Inputs) → inputs_at values inputs ≡ a →
      IsRowOf values trails m a (pulled P answer m a 0) (row_for m inputs [])
  unfolding pulled
  row-none a inputs same = record { kind = refl; inputs = same; carry = ap (λ (i : mean.Inputs). look_in i (λ b. None)) same }

-- what has been computed stays, whatever is added to the stores
module _ (nodes nodes' : List Shape) (trails trails' : List TrailNode) (keeps : Keeps nodes nodes') (keeps_trails : KeepsTrails trails trails') where
  pub row-kept : (m : ℕ) (a : mean.Inputs) (look : Origin → Option Value) (row : RowForm) → RowFits (length nodes) (length trails) row →
      IsRowOf (values_of nodes) (trails_of trails) m a look row → IsRowOf (values_of nodes') (trails_of trails') m a look row
  row-kept m a look row fits is =
      let same = kept-row nodes nodes' trails trails' keeps keeps_trails row fits in
      record { kind = is.kind; inputs = ap (λ (x : Instance). x.inputs) same ∙ is.inputs; carry = ap (λ (x : Instance). wires x) same ∙ is.carry }

  pub effects-kept : (P : Program) (row : RowForm) (b : ℕ) → RowFits (length nodes) (length trails) row →
      effects_in P (values_of nodes') (trails_of trails') row b ≡ effects_in P (values_of nodes) (trails_of trails) row b
  effects-kept P row b fits = ap (λ (x : Instance). act P row.kind (wires x) b) (kept-row nodes nodes' trails trails' keeps keeps_trails row fits)

  pub cells-added : (cells cells' : List (Option Cell)) (cell : Option Cell) → cells' ≡ cells ++ cell ∷ [] → CellsFit (length nodes) (length trails) cells →
      CellFits (length nodes') (length trails') cell → CellsFit (length nodes') (length trails') cells'
  cells-added cells cells' cell is fit fits b = elim (cases_lt b (length cells)) [
    | inl lt ↦ rw (is, get_or_append_left cells (cell ∷ []) None b lt) (cell-more _ _ _ _ (slice_index_or cells b None) keeps.longer keeps_trails.longer (fit b))
    | inr past ↦ elim (cases_lt b (length cells + 1)) [
      | inl lt ↦ rw (is, get_or_push cells cell None b (omega (arith, past, lt))) fits
      | inr more ↦ rw (is, get_or_past (cells ++ cell ∷ []) b None (omega (arith, more, length_push cells cell))) tt
    ]
  ]

  -- one box more
  pub round-added : (answer : Answers) (m : ℕ) (effects : ℕ → Option mean.Effect) (n : ℕ) (round round' : Round) (x : Option mean.Effect) (fired : Fired) →
      IsRound (values_of nodes) (trails_of trails) answer m effects n round → CellsFit (length nodes) (length trails) round.cells.items →
      x ≡ effects n → IsFired (values_of nodes') (trails_of trails') answer m n x fired → round'.cells.items ≡ round.cells.items ++ fired.cell ∷ [] →
      round'.known ≡ round.known && fired.known → round'.firings ≡ stopped (round.firings + fired.firings) → round'.instances ≡ stopped (round.instances + fired.instances) →
      IsRound (values_of nodes') (trails_of trails') answer m effects (n + 1) round'
  unfolding all_below sum_below
  round-added answer m effects n round round' x fired is fit same new cells known firings instances =
      let next : n + 1 ≡ suc n = omega arith in
      rw next (record {
        sized = ap length cells ∙ (length_push round.cells.items fired.cell ∙ omega (arith, is.sized));
        cells = at;
        known = rw (known, is.known, new.known, same) refl;
        firings = rw (firings, is.firings, new.firings, same) (stopped-add _ _);
        instances = rw (instances, is.instances, new.instances, same) (stopped-add _ _);
      })
    where
      at : (b : ℕ) → b < suc n → option_map (cell_in (values_of nodes') (trails_of trails')) (slice_index_or round'.cells.items b None) ≡ option_map (cell_of m b answer) (effects b)
      at b lt = elim (cases_lt b n) [
        | inl before ↦
            rw (cells, get_or_append_left round.cells.items (fired.cell ∷ []) None b (omega (arith, before, is.sized)))
            (kept-cell nodes nodes' trails trails' keeps keeps_trails (slice_index_or round.cells.items b None) (fit b) ∙ is.cells b before)
        | inr past ↦
            let last : b ≡ n = omega (arith, lt, past) in
            rw (cells, get_or_push round.cells.items fired.cell None b (omega (arith, last, is.sized)), last) (new.cell ∙ ap (option_map (cell_of m n answer)) same)
      ]

-- the row after a round of all boxes
pub row-round : (P : Program) (answer : Answers) (kind k : ℕ) (a : mean.Inputs) (v v' : List Value) (t t' : List Trail) (row : RowForm) (inputs : Inputs) (round : Round) →
    IsRowOf v t kind a (pulled P answer kind a k) row → IsRound v' t' answer row.kind (effects_in P v t row) (box_count P row.kind) round →
    inputs_at v' inputs ≡ a → IsRowOf v' t' kind a (pulled P answer kind a (k + 1)) (row_for kind inputs round.cells.items)
unfolding pulled
row-round P answer kind k a v v' t t' row inputs round is r same =
    let next : k + 1 ≡ suc k = omega arith in
    let of : IsRound v' t' answer kind (act P kind (wires (instance_in v t row))) (box_count P kind) round =
    subst (λ (m : ℕ). IsRound v' t' answer m (act P m (wires (instance_in v t row))) (box_count P m) round) is.kind r in
    let pulls : IsRound v' t' answer kind (act P kind (pulled P answer kind a k)) (box_count P kind) round =
    subst (λ (look : Origin → Option Value). IsRound v' t' answer kind (act P kind look) (box_count P kind) round) is.carry of in
    rw next (record { kind = refl; inputs = same; carry = wires-round P answer kind v' t' (pulled P answer kind a k) a kind inputs round same pulls })

-- an instance, and the round of its boxes after all were pulled
module _ (P : Program) (n kind : ℕ) (a : mean.Inputs) (v v' : List Value) (t t' : List Trail) (row : RowForm) (round : Round)
    (is : IsRowOf v t kind a (look_of P (means P n) kind a) row) (r : IsRound v' t' (means P n) row.kind (effects_in P v t row) (box_count P row.kind) round) where
  pub as-pulled : IsRound v' t' (means P n) row.kind (act P row.kind (look_of P (means P n) row.kind a)) (box_count P row.kind) round
  as-pulled =
      subst (λ (look : Origin → Option Value). IsRound v' t' (means P n) row.kind (act P row.kind look) (box_count P row.kind) round)
      (is.carry ∙ ap (λ (k : ℕ). look_of P (means P n) k a) (sym is.kind)) r

  means-if : (depth : ℕ) → depth ≡ suc n → (known : Bool) → round.known ≡ known →
      option_map with_stops (means P depth kind a)
      ≡ option_map with_stops (if known then Some (summary_of P (means P n) row.kind (look_of P (means P n) row.kind a)) else None)
  unfolding means meaning_of
  means-if depth d known e =
      ap (λ (k : ℕ). option_map with_stops (means P depth k a)) (sym is.kind)
      ∙ (ap (λ (k : ℕ). option_map with_stops (means P k row.kind a)) d
      ∙ ap (λ (b : Bool). option_map with_stops (if b then Some (summary_of P (means P n) row.kind (look_of P (means P n) row.kind a)) else None)) (sym as-pulled.known ∙ e))

  pub means-none : (depth : ℕ) → depth ≡ suc n → round.known ≡ false → None ≡ option_map with_stops (means P depth kind a)
  means-none depth d e = sym (means-if depth d false e)

  pub means-some : (depth : ℕ) → depth ≡ suc n → round.known ≡ true → (x : Meaning) → x ≡ with_stops (summary_of P (means P n) row.kind (look_of P (means P n) row.kind a)) →
      Some x ≡ option_map with_stops (means P depth kind a)
  means-some depth d e x same = ap Some same ∙ sym (means-if depth d true e)

pub means-zero : (P : Program) (depth kind : ℕ) (a : mean.Inputs) → depth ≡ 0 → None ≡ option_map with_stops (means P depth kind a)
unfolding means
means-zero P depth kind a e = rw e refl

-- the module of the row, named by the row
pub row-of_kind : (P : Program) (answer : Answers) (v : List Value) (t : List Trail) (kind : ℕ) (a : mean.Inputs) (row : RowForm) →
    IsRowOf v t kind a (look_of P answer kind a) row → IsRowOf v t row.kind a (look_of P answer row.kind a) row
row-of_kind P answer v t kind a row is = subst (λ (m : ℕ). IsRowOf v t m a (look_of P answer m a) row) (sym is.kind) is

pub inputs-kept : (nodes nodes' : List Shape) → Keeps nodes nodes' → (inputs : Inputs) → InputsFit (length nodes) (Some inputs) →
    inputs_at (values_of nodes') inputs ≡ inputs_at (values_of nodes) inputs
inputs-kept nodes nodes' keeps inputs fits =
    rw (kept-value nodes nodes' keeps inputs.north fits.0, kept-value nodes nodes' keeps inputs.west fits.1) refl

pub row-fits : (n m t kind : ℕ) (inputs : Inputs) (cells : List (Option Cell)) → n ≤ m → InputsFit n (Some inputs) → CellsFit m t cells →
    RowFits m t (row_for kind inputs cells)
row-fits n m t kind inputs cells le fits fit = record {
  north = place-more n m inputs.north le fits.0;
  west = place-more n m inputs.west le fits.1;
  cells = fit;
  outcome = tt;
}

pub row-same : (v : List Value) (t : List Trail) (m : ℕ) (a : mean.Inputs) (look : Origin → Option Value) (row row' : RowForm) → row ≡ row' →
    IsRowOf v t m a look row' → IsRowOf v t m a look row
row-same v t m a look row row' is h = subst (IsRowOf v t m a look) (sym is) h

-- what stands among the ready events is ready
pub ready-at : (P : Program) (T : Table) (k : ℕ) (e : Event) → slice_get (ready P T) k ≡ Some e → is_ready P T e ≡ true
unfolding ready
ready-at P T k e at = get-filter (is_ready P T) (events_from P 0 T) k e at
