-- What `draw` promises of what it wrote.
use Rattle.std.specs.Prelude.{◌≡◌, ℕ, List, Ok}
use Rattle.two_d.specs.Program.{program_of}
use Rattle.two_d.specs.Programs.{Program}
use Rattle.codex_top.specs.declared.status.Status.TheVariants.{Done}
use Rattle.codex_top.specs.Calls.{Call, Has, EachCall, Wrote}
use Rattle.codex_top.specs.Words.{draws}

-- the call wrote a grid whose program is that of the text
pub record IsDrawnAgain (text : List ℕ) (c : Call) : Type 0 where
  pub program : Program
  pub accepted : program_of text (Ok program)
  pub drawing : List ℕ
  pub again : program_of drawing (Ok program)
  pub wrote : Wrote drawing c

-- so it is of each call of `draw` that is done
abbrev pub DoneIsDrawn : (IsCall : Call → Type 0) → Type 0
DoneIsDrawn IsCall = (file text : List ℕ) →
    EachCall IsCall (draws file) (Has file text) (λ c. c.status ≡ Done → IsDrawnAgain text c)
