-- What comes to the inputs of a box.
use Rattle.std.specs.Prelude.{Option, Some, None, ℕ, List, Bool, ◌&&◌}
use Rattle.std.specs.Option.{option_map}
use Rattle.codex_values.specs.Value.{Value}
use Rattle.two_d.specs.declared.module.Origin.{Origin}
use Rattle.two_d.specs.Meaning as mean
use Rattle.two_d.specs.Programs.{Program}
use Rattle.two_d.specs.Steps.{Instance, can_fire, is_live}
use Rattle.fire_core.specs.declared.look.Inputs.{Inputs}
use Rattle.fire_core.specs.inner.Rows.{inputs_in, IsPlace}

-- no value where the input isn't wired, and nothing where its wire carries none
abbrev pub input_at : (Origin → Option Value) → Option Origin → Option (Option Value)
input_at look None = Some None
input_at look (Some o) = option_map Some (look o)

abbrev pub inputs_at : List Value → Inputs → mean.Inputs
inputs_at values inputs = inputs_in values inputs.north inputs.west

-- the place that comes to an input, if one does, is below n
abbrev pub InputFits : ℕ → Option (Option ℕ) → Type 0
InputFits n None = Unit {0}
InputFits n (Some at) = IsPlace n at

abbrev pub InputsFit : ℕ → Option Inputs → Type 0
InputsFit n None = Unit {0}
InputsFit n (Some inputs) = IsPlace n inputs.north × IsPlace n inputs.west

-- a box can fire, and its instance hasn't ended
abbrev pub may_fire : Program → Instance → ℕ → Bool
may_fire P x b = is_live x && can_fire P x b
