-- What `trace` tells of an evaluation.
use Rattle.std.specs.Prelude.{ℕ, ◌+◌, List, [], ◌∷◌, ◌++◌, codes, decimal, Result, Ok, Err}
use Rattle.std.specs.List.{concat}
use Rattle.two_d.specs.Programs.{Program}
use Rattle.two_d.specs.Meaning.{Meaning}
use Rattle.two_d.specs.Texts.{name_at, text_of}
use Rattle.two_d.specs.Steps.{Table, Event, Fire, End, Choice, instance_at, start, step, events_of}
use Rattle.codex_top.specs.declared.line.Counted.TheVariants.{Events}
use Rattle.codex_top.specs.declared.line.Line.{Line}
use Rattle.codex_top.specs.declared.line.Line.TheVariants.{Budget}
use Rattle.codex_top.specs.Endings as endings
use Rattle.codex_top.specs.Outside.{Stream}
use Rattle.codex_top.specs.Sending.{end_after}
use Rattle.codex_top.specs.Evaluating.{finish_of, IsMeantWithin, IsSpent, IsPrinted}

-- the line of an event: the instance by its number from 0, and of a firing the name of its module
-- and the box by its number from 1
abbrev pub event_line : Program → Table → Event → List ℕ
event_line P T (Fire i b) =
    concat (codes "fire " ∷ decimal i ∷ codes " " ∷ name_at P (instance_at T i).kind ∷ codes " "
    ∷ decimal (b + 1) ∷ codes "\n" ∷ [])
event_line P T (End i) = concat (codes "end " ∷ decimal i ∷ codes "\n" ∷ [])

-- the lines of events, one after another from this table on
abbrev pub event_lines : Program → Table → List Event → List ℕ
event_lines P T [] = []
event_lines P T (event ∷ events) = event_line P T event ++ event_lines P (step P T event) events

-- the lines of the first so many events by the picks
abbrev pub trace_lines : Program → Choice → ℕ → List ℕ
trace_lines P picks events = event_lines P (start P) (events_of P picks events)

-- How a command ends that tells events and what they come to: the output receives the lines of the
-- events, and then the text of the program's outcome, where so many events come to one.
pub data EventsTold (program : Program) (picks : Choice) (events : ℕ) (before now : Stream) :
    endings.End → Type 0 where
  spent : (printed : Result (Unit {0}) Line) → IsSpent events program →
      IsPrinted (trace_lines program picks events) before now printed →
      EventsTold program picks events before now (end_after printed (Err (Budget events Events)))
  told : (r : Meaning) (printed : Result (Unit {0}) Line) → IsMeantWithin events program r →
      IsPrinted (trace_lines program picks events ++ text_of program r.outcome) before now printed →
      EventsTold program picks events before now (end_after printed (Ok (finish_of r.outcome)))
