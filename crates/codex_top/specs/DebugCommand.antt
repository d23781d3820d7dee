-- What `debug` does with a scroll and its input.
use Rattle.std.specs.Prelude.{ℕ, List, Ok, Err}
use Rattle.umix_base.specs.Causes.{Rose}
use Rattle.um_word.specs.State.{State, start_of}
use Rattle.um_word.specs.Rule.{Identifiers, none_made}
use Rattle.um_machine.specs.Outside.{MayHold}
use Rattle.um_debug.specs.declared.debugger.DebugEnd.{DebugEnd}
use Rattle.um_debug.specs.declared.debugger.DebugEnd.TheVariants.{Quit, EndOfCommands, Turns}
use Rattle.um_debug.specs.declared.debugger.DebugEnd.TheVariants.{ReadFault, WriteFault, Memory}
use Rattle.um_debug.specs.Debugging.{Debugs}
use Rattle.um_debug.specs.Session.{fresh}
use Rattle.codex_top.specs.declared.line.Counted.TheVariants.{Lines}
use Rattle.codex_top.specs.declared.line.Line.TheVariants as line
use Rattle.codex_top.specs.declared.end.Finish.TheVariants.{Done}
use Rattle.codex_top.specs.Endings.{End}
use Rattle.codex_top.specs.Limits.{limits, most_lines}
use Rattle.codex_top.specs.Outside.{Streams}

-- the end of the command whose session ended so
abbrev pub end_of_session : DebugEnd → End
end_of_session Quit = Ok Done
end_of_session EndOfCommands = Ok Done
end_of_session Turns = Err (line.Budget most_lines Lines)
end_of_session ReadFault = Err line.ReadFault
end_of_session WriteFault = Err line.WriteFault
end_of_session Memory = Err line.NoMemory

-- A session on a scroll with this input, from its start, under the limits and by the rule of
-- identifiers: the commands may be taken to have been those of the source, whose rest is left;
-- whatever the output had received, the session sent its replies and what the scroll wrote behind
-- it. The scroll's input never fails.
pub record SessionSits (words input : List ℕ) (before now : Streams) (end : DebugEnd) : Type 0 where
  pub commands : List ℕ
  pub had : MayHold before.input.bytes commands
  pub rest : List ℕ
  pub left : MayHold now.input.bytes rest
  pub identifiers : Identifiers
  pub sits : (held : List ℕ) → MayHold before.output.bytes held →
      (t : State) × MayHold now.output.bytes t.out
      × Debugs limits most_lines commands rest
      (fresh (record (start_of words input) { out = held }) none_made)
      (Rose before.input.faults now.input.faults) ⊥
      (Rose before.output.faults now.output.faults) identifiers t end

-- how a session on the words of a scroll with an input ends
pub data SessionEnds (words input : List ℕ) (before now : Streams) : End → Type 0 where
  sat : (end : DebugEnd) → SessionSits words input before now end →
      SessionEnds words input before now (end_of_session end)
