-- How a command ends, and what is told of it.
use Rattle.std.specs.Prelude.{◌≡◌, ℕ, ◌≤◌, length, take, Result, Ok, Err}
use Rattle.umix_base.specs.Causes.{Rose}
use Rattle.codex_top.specs.declared.status.Status.{Status}
use Rattle.codex_top.specs.declared.status.Status.TheVariants as status
use Rattle.codex_top.specs.declared.line.Line.{Line}
use Rattle.codex_top.specs.declared.end.Finish.{Finish}
use Rattle.codex_top.specs.declared.end.Finish.TheVariants.{Done, Stuck}
use Rattle.codex_top.specs.Lines.{line_text, status_of}
use Rattle.codex_top.specs.Outside.{Stream, Received}

-- without a line, or with the line that tells why the work isn't done
abbrev pub End : Type 0
End = Result Finish Line

-- the status of an end without a line
abbrev pub status_of_finish : Finish → Status
status_of_finish Done = status.Done
status_of_finish Stuck = status.Stuck

-- What `err` has received and the status, by the end: nothing where there is no line; just the line
-- and its status; or, where the line couldn't be written, a beginning of it and WriteFault.
pub data IsTold (before now : Stream) : End → Status → Type 0 where
  silent : (finish : Finish) → now ≡ before →
      IsTold before now (Ok finish) (status_of_finish finish)
  whole : (line : Line) → Received (line_text line) before now → before.faults ≤ now.faults →
      IsTold before now (Err line) (status_of line)
  cut : (line : Line) (k : ℕ) → k ≤ length (line_text line) →
      Received (take k (line_text line)) before now → Rose before.faults now.faults →
      IsTold before now (Err line) status.WriteFault
