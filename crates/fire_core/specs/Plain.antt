-- What the plain evaluator gives, and of which meaning.
use Rattle.std.specs.Prelude.{ℕ, ◌-◌, ◌^◌, min}
use Rattle.codex_values.specs.Store.{values_of}
use Rattle.two_d.specs.Meaning.{Meaning}
use Rattle.two_d.specs.Texts.{outcome_in}
use Rattle.two_d.specs.Trails.{trails_of}
use Rattle.fire_core.specs.declared.plain.Meant.{Meant}

-- a count that stops at the greatest number of 64 bits
abbrev pub stopped : ℕ → ℕ
stopped count = min count (2 ^ 64 - 1)

-- a meaning whose counts stop there
abbrev pub with_stops : Meaning → Meaning
with_stops r = record {
  outcome = r.outcome;
  firings = stopped r.firings;
  instances = stopped r.instances;
}

-- the meaning that the evaluator gives
abbrev pub given_by : Meant → Meaning
given_by meant = record {
  outcome = outcome_in (values_of meant.values) (trails_of meant.trails) meant.outcome;
  firings = meant.firings;
  instances = meant.instances;
}
