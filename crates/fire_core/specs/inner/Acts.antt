-- What the firing of a box does, by places of the stores.
use Rattle.std.specs.Prelude.{ℕ, Some, List}
use Rattle.codex_values.specs.Value.{Value}
use Rattle.two_d.specs.Meaning as mean
use Rattle.two_d.specs.Trails.{Trail}
use Rattle.fire_core.specs.declared.act.Effect.{Effect}
use Rattle.fire_core.specs.declared.act.Effect.TheVariants.{Done, Starts}
use Rattle.fire_core.specs.inner.Look.{inputs_at, InputsFit}
use Rattle.fire_core.specs.inner.Rows.{cell_in, CellFits}

-- the effect whose places are those of these values and trails
abbrev pub effect_in : List Value → List Trail → Effect → mean.Effect
effect_in values trails (Done cell) = mean.Done (cell_in values trails cell)
effect_in values trails (Starts kind inputs) = mean.Starts kind (inputs_at values inputs)

-- the places of the effect are below the numbers of values and of trails
abbrev pub EffectFits : ℕ → ℕ → Effect → Type 0
EffectFits n t (Done cell) = CellFits n t (Some cell)
EffectFits n t (Starts kind inputs) = InputsFit n (Some inputs)
