-- What the grid of a number is known to be.
use Rattle.std.specs.Prelude.{◌≡◌, ◌≤◌, ℕ, List, length, Ok}
use Rattle.codex_values.specs.Value.{Value, show}
use Rattle.two_d.specs.Meaning.{Gives, Meaning}
use Rattle.two_d.specs.Program.{program_of}
use Rattle.two_d.specs.Programs.{Program}
use Rattle.two_d.specs.Steps.{HasMeaning}

-- The text has a program, which gives this value. The text is short, few instances are made and few
-- boxes fire, and the text of the value, with its LF at most 278 bytes, is short too.
pub record IsGenerated (text : List ℕ) (value : Value) : Type 0 where
  pub program : Program
  pub meaning : Meaning
  pub read : program_of text (Ok program)
  pub means : HasMeaning program meaning
  pub gives : meaning.outcome ≡ Gives value
  pub short : length text ≤ 16338
  pub few_instances : meaning.instances ≤ 56
  pub few_firings : meaning.firings ≤ 168
  pub short_value : length (show value) ≤ 277
