-- What the plain evaluator has computed, by places of the stores.
use Rattle.std.specs.Prelude.{◌≡◌, ℕ, ◌<◌, Option, None, Some, List, length, slice_index_or, IfSome}
use Rattle.std.specs.Prelude.{IfOk, Result}
use Rattle.std.specs.Option.{option_map}
use Rattle.codex_values.specs.Value.{Value}
use Rattle.two_d.specs.declared.module.Origin.{Origin}
use Rattle.two_d.specs.Meaning as mean
use Rattle.two_d.specs.Meaning.{Meaning, Answers, act, cell_of, is_known, firings_of, instances_of}
use Rattle.two_d.specs.Meaning.{test_of, count_of, all_below, look_of, sum_below, summary_of}
use Rattle.two_d.specs.Programs.{Program, box_count}
use Rattle.two_d.specs.Steps.{wires}
use Rattle.two_d.specs.Texts.{IsPlaceIn, outcome_in}
use Rattle.two_d.specs.Trails.{Trail}
use Rattle.fire_core.specs.declared.act.Effect.{Effect}
use Rattle.fire_core.specs.declared.act.Effect.TheVariants.{Done, Starts}
use Rattle.fire_core.specs.declared.look.Inputs.{Inputs}
use Rattle.fire_core.specs.declared.plain.boxes.Fired.{Fired}
use Rattle.fire_core.specs.declared.plain.boxes.Known.{Known}
use Rattle.fire_core.specs.declared.plain.rounds.Round.{Round}
use Rattle.fire_core.specs.declared.rows.Cell.{Cell}
use Rattle.fire_core.specs.inner.Acts.{EffectFits}
use Rattle.fire_core.specs.inner.Rows.{RowForm, cell_in, inputs_in, instance_in, CellFits}
use Rattle.fire_core.specs.Plain.{stopped, with_stops}

abbrev pub known_in : List Value → List Trail → Known → Meaning
known_in values trails known = record {
  outcome = outcome_in values trails known.outcome;
  firings = known.firings;
  instances = known.instances;
}

-- the place of the outcome, if there is one, is in its store
abbrev pub KnownFits : ℕ → ℕ → Option Known → Type 0
KnownFits n t known = IfSome known (λ k. IsPlaceIn n t k.outcome)

-- the module that the effect starts, if it starts one, is one of so many
abbrev pub Begins : ℕ → Effect → Type 0
Begins modules (Done cell) = Unit {0}
Begins modules (Starts kind inputs) = kind < modules

-- so it is, and the places of the effect, if there is one, are in the stores
abbrev pub EffectFitsIn : ℕ → ℕ → ℕ → Option Effect → Type 0
EffectFitsIn modules n t effect = IfSome effect (λ e. EffectFits n t e × Begins modules e)

-- what the boxes do where the wires of their instance carry what a row says
abbrev pub effects_in : Program → List Value → List Trail → RowForm → ℕ → Option mean.Effect
effects_in P values trails row = act P row.kind (wires (instance_in values trails row))

-- what box b of module m comes to by these answers, where it does this
pub record IsFired (values : List Value) (trails : List Trail) (answer : Answers) (m b : ℕ)
    (effect : Option mean.Effect) (fired : Fired) : Type 0 where
  pub cell : option_map (cell_in values trails) fired.cell ≡ option_map (cell_of m b answer) effect
  pub known : fired.known ≡ test_of (is_known answer) effect
  pub firings : fired.firings ≡ stopped (count_of (firings_of answer) effect)
  pub instances : fired.instances ≡ stopped (count_of (instances_of answer) effect)

-- what box b of module m comes to that starts a module of which this is known
abbrev pub IsFiredByUse : {E : Type 0} → Option Known → (old new : List Trail) → (m b : ℕ) →
    Result Fired E → Type 0
IsFiredByUse known old new m b result =
    (values : List Value) (answer : Answers) (j : ℕ) (a : mean.Inputs) →
    option_map (known_in values old) known ≡ option_map with_stops (answer j a) →
    IfOk result (IsFired values new answer m b (Some (mean.Starts j a)))

-- what the first n boxes of module m come to by these answers, where they do this
pub record IsRound (values : List Value) (trails : List Trail) (answer : Answers) (m : ℕ)
    (effects : ℕ → Option mean.Effect) (n : ℕ) (round : Round) : Type 0 where
  pub sized : length round.cells.items ≡ n
  pub cells : (b : ℕ) → b < n → option_map (cell_in values trails) (slice_index_or round.cells.items b None)
      ≡ option_map (cell_of m b answer) (effects b)
  pub known : round.known ≡ all_below n (λ b. test_of (is_known answer) (effects b))
  pub firings : round.firings ≡ stopped (sum_below n (λ b. count_of (firings_of answer) (effects b)))
  pub instances : round.instances ≡ stopped (sum_below n (λ b. count_of (instances_of answer) (effects b)))

-- the places of the cells are below the numbers of values and of trails
abbrev pub CellsFit : ℕ → ℕ → List (Option Cell) → Type 0
CellsFit n t cells = (b : ℕ) → CellFits n t (slice_index_or cells b None)

-- the row of an instance that no box started
abbrev pub row_for : ℕ → Inputs → List (Option Cell) → RowForm
row_for kind inputs cells = record {
  kind = kind;
  parent = None;
  north = inputs.north;
  west = inputs.west;
  cells = cells;
  inner = 0;
  outcome = None;
}

-- the row of an instance of module m with these inputs, whose wires carry this
pub record IsRowOf (values : List Value) (trails : List Trail) (m : ℕ) (a : mean.Inputs)
    (look : Origin → Option Value) (row : RowForm) : Type 0 where
  pub kind : row.kind ≡ m
  pub inputs : inputs_in values row.north row.west ≡ a
  pub carry : wires (instance_in values trails row) ≡ look

-- What is known of an instance is what its module means by the sum of its boxes: where its wires
-- carry what these answers pull through them, and a round has come to what all its boxes do.
abbrev pub MeansBySum : {E : Type 0} → Program → RowForm → Round → (old new : List Trail) →
    Result Known E → Type 0
MeansBySum P row round old new result =
    (values : List Value) (answer : Answers) (a : mean.Inputs) →
    IsRowOf values old row.kind a (look_of P answer row.kind a) row →
    IsRound values old answer row.kind (act P row.kind (look_of P answer row.kind a))
    (box_count P row.kind) round →
    IfOk result (λ known. known_in values new known
    ≡ with_stops (summary_of P answer row.kind (look_of P answer row.kind a)))
