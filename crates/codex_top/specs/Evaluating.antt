-- What the commands tell of an evaluation.
use Rattle.std.specs.Prelude.{◌≡◌, ℕ, ◌+◌, ◌<◌, ◌≤◌, List, length, take, Result, Ok, Err}
use Rattle.two_d.specs.Programs.{Program}
use Rattle.two_d.specs.Meaning.{Meaning, Outcome, Gives, Stuck}
use Rattle.two_d.specs.Steps.{HasMeaning}
use Rattle.two_d.specs.Texts.{text_of}
use Rattle.codex_top.specs.declared.line.Counted.TheVariants.{Events}
use Rattle.codex_top.specs.declared.line.Line.{Line}
use Rattle.codex_top.specs.declared.line.Line.TheVariants.{Budget, NoMemory}
use Rattle.codex_top.specs.declared.end.Finish.{Finish}
use Rattle.codex_top.specs.declared.end.Finish.TheVariants as finish
use Rattle.codex_top.specs.Endings.{End}
use Rattle.codex_top.specs.Outside.{Stream, Received}
use Rattle.codex_top.specs.Sending.{IsSent, end_after}

-- how a command ends that has told this outcome
abbrev pub finish_of : Outcome → Finish
finish_of (Gives v) = finish.Done
finish_of (Stuck trail) = finish.Stuck

-- the program has this meaning, within so many events
pub record IsMeantWithin (events : ℕ) (P : Program) (r : Meaning) : Type 0 where
  pub has : HasMeaning P r
  pub within : r.firings + r.instances ≤ events

-- so many events aren't enough for the program to have an outcome
abbrev pub IsSpent : (events : ℕ) → Program → Type 0
IsSpent events P = (r : Meaning) → HasMeaning P r → events < r.firings + r.instances

-- The output has received the text, by calls that take memory; or for want of it a beginning of the
-- text.
pub data IsPrinted (text : List ℕ) (before now : Stream) : Result (Unit {0}) Line → Type 0 where
  sent : (sent : Result (Unit {0}) Line) → IsSent text before now sent →
      IsPrinted text before now sent
  no_memory : (k : ℕ) → k ≤ length text → Received (take k text) before now →
      IsPrinted text before now (Err NoMemory)

-- How a command ends that tells what so many events come to: the output receives the text of the
-- program's outcome; or nothing, where they don't come to one.
pub data OutcomeEnds (events : ℕ) (P : Program) (before now : Stream) : End → Type 0 where
  spent : IsSpent events P → now ≡ before →
      OutcomeEnds events P before now (Err (Budget events Events))
  told : (r : Meaning) (printed : Result (Unit {0}) Line) → IsMeantWithin events P r →
      IsPrinted (text_of P r.outcome) before now printed →
      OutcomeEnds events P before now (end_after printed (Ok (finish_of r.outcome)))
