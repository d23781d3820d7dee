-- What comes to the exits of an instance that ends.
use Rattle.std.specs.Prelude.{◌≡◌, Option, Some, None, ℕ, ◌<◌, List, [], ◌∷◌}
use Rattle.codex_values.specs.Value.{Value}
use Rattle.codex_values.specs.Store.{value_in}
use Rattle.two_d.specs.Programs.{Program}
use Rattle.two_d.specs.Steps.{end_of}
use Rattle.two_d.specs.Texts.{outcome_in}
use Rattle.two_d.specs.Trails.{Trail}
use Rattle.two_d.specs.declared.outcome.Outcome.{Outcome}
use Rattle.two_d.specs.declared.outcome.Outcome.TheVariants.{Value as ValueKept, Stuck as StuckKept}
use Rattle.fire_core.specs.declared.outcomes.Carried.{Carried}
use Rattle.fire_core.specs.declared.outcomes.Carried.TheVariants.{Nothing, One, More}
use Rattle.fire_core.specs.inner.Rows.{RowForm, instance_in}

-- the values that exits carry are none, this one, or two and more
abbrev pub IsCarried : List Value → Carried → List Value → Type 0
IsCarried values Nothing carried = carried ≡ []
IsCarried values (One at) carried = carried ≡ value_in values at ∷ []
IsCarried values More carried = (v w : Value) × (rest : List Value) × (carried ≡ v ∷ w ∷ rest)

abbrev pub CarriedFits : ℕ → Carried → Type 0
CarriedFits n Nothing = Unit {0}
CarriedFits n (One at) = at < n
CarriedFits n More = Unit {0}

-- the outcome of the instance of this row, which ends, by the trails before and after
abbrev pub IsEndOf : Program → List Value → (old new : List Trail) → RowForm → Outcome → Type 0
IsEndOf P values old new row outcome =
    outcome_in values new outcome ≡ end_of P (instance_in values old row)

-- the trail of an outcome, if it has one, is below this place
abbrev pub TrailFits : ℕ → Outcome → Type 0
TrailFits t (ValueKept at) = Unit {0}
TrailFits t (StuckKept at) = at < t

abbrev pub value_listed : Option Value → List Value
value_listed None = []
value_listed (Some v) = v ∷ []
