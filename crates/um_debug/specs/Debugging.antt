-- What `debug` comes to: how a session ends, and where it is cut short.
use Rattle.std.specs.Prelude.{◌≡◌, ◌≢◌, ℕ, ◌+◌, ◌<◌, ◌≤◌, List, [], ◌++◌, length, take}
use Rattle.umix_base.specs.declared.limits.Limits.{Limits}
use Rattle.umix_base.specs.declared.source.Source as source
use Rattle.umix_base.specs.declared.sink.Sink as sink
use Rattle.umix_base.specs.Causes.{Rose}
use Rattle.um_word.specs.State.{State}
use Rattle.um_word.specs.Rule.{Identifiers}
use Rattle.um_machine.specs.declared.stop.Stop.{Stop}
use Rattle.um_machine.specs.declared.stop.Stop.TheVariants as stop
use Rattle.um_machine.specs.Runs.{Seen, GoesFromTo}
use Rattle.um_machine.specs.Outside.{MayHold}
use Rattle.um_debug.specs.declared.command.Command.{Command}
use Rattle.um_debug.specs.declared.command.Command.TheVariants.{Step, Go}
use Rattle.um_debug.specs.declared.debugger.DebugEnd.{DebugEnd}
use Rattle.um_debug.specs.declared.debugger.DebugEnd.TheVariants.{Quit, EndOfCommands, Turns}
use Rattle.um_debug.specs.declared.debugger.DebugEnd.TheVariants.{ReadFault, WriteFault, Memory}
use Rattle.um_debug.specs.CommandLines.{IsLine, Passes, HasNoLineFeed, most_line_bytes, quit_line}
use Rattle.um_debug.specs.Commands.{IsCommandLine, most_cycles}
use Rattle.um_debug.specs.Course.{Points, no_points, IsCutOff}
use Rattle.um_debug.specs.Session.{Session, Answer, fresh, sent, AnswersLine, Obeys}

-- the cycles that a command may make, and the points that these look at
abbrev pub cycles_of : Command → ℕ
cycles_of (Step n) = n
cycles_of (Go n) = n
cycles_of command = 0

abbrev pub looks_at : Command → Points → Points
looks_at (Step n) points = no_points
looks_at command points = points

-- How a session ends where a cycle failed for this, and that its cause is there: that the scroll's input failed,
-- or the output.
abbrev pub EndsBy : (input_failed output_failed : Type 0) → Stop → DebugEnd → Type 0
EndsBy input_failed output_failed stop.ReadFault end = (end ≡ ReadFault) × input_failed
EndsBy input_failed output_failed stop.WriteFault end = (end ≡ WriteFault) × output_failed
EndsBy input_failed output_failed stop.Memory end = end ≡ Memory
EndsBy input_failed output_failed _ end = ⊥

-- One of the cycles that a line asks for failed.
pub record FailsAtCycle (L : Limits) (line : List ℕ) (s : Session) (why : Stop) (j : Identifiers)
    (t : State) : Type 0 where
  pub command : Command
  pub is_command : IsCommandLine line command
  pub allowed : s.state.cycles + cycles_of command ≤ most_cycles
  pub cut : IsCutOff L (looks_at command s.points) (cycles_of command) s.identifiers s.state why j t

-- The line was done, and of its reply the first k bytes went out.
pub record FailsAtReply (L : Limits) (line : List ℕ) (s : Session) (k : ℕ) (j : Identifiers) (t : State) : Type 0 where
  pub answer : Answer
  pub answers : AnswersLine L line s answer
  pub identifiers_are : j ≡ answer.session.identifiers
  pub begun : k ≤ length (sent answer.reply)
  pub state_is : t ≡ record answer.session.state { out = answer.session.state.out ++ take k (sent answer.reply) }

-- a line that couldn't be ended, since the scroll's input failed, or the output, or for want of memory
pub data Fails (L : Limits) (line : List ℕ) (s : Session) (input_failed output_failed : Type 0)
    (j : Identifiers) (t : State) :
    DebugEnd → Type 0 where
  at_cycle : (why : Stop) (end : DebugEnd) → FailsAtCycle L line s why j t → EndsBy input_failed output_failed why end →
      Fails L line s input_failed output_failed j t end
  at_reply : (k : ℕ) → FailsAtReply L line s k j t → output_failed →
      Fails L line s input_failed output_failed j t WriteFault
  no_memory : FailsAtReply L line s 0 j t → Fails L line s input_failed output_failed j t Memory

-- How a session of so many turns ends, with these bytes of commands and what is left of them, from a session
-- to these identifiers and this state: at `q`; where no byte of a line is left; after its turns; at a byte that
-- couldn't be read, of which the bytes of its line are gone; or in a line that couldn't be ended.
pub data Debugs (L : Limits) (turns : ℕ) (bytes rest : List ℕ) (s : Session)
    (commands_failed input_failed output_failed : Type 0) :
    Identifiers → State → DebugEnd → Type 0 where
  turns_made : (lines : List (List ℕ)) (t : Session) → Passes bytes lines rest → length lines ≡ turns →
      Obeys L lines s t → Debugs L turns bytes rest s commands_failed input_failed output_failed
      t.identifiers t.state Turns
  no_line : (lines : List (List ℕ)) (t : Session) → Passes bytes lines [] → rest ≡ [] → length lines < turns →
      Obeys L lines s t → Debugs L turns bytes rest s commands_failed input_failed output_failed
      t.identifiers t.state EndOfCommands
  quits : (lines : List (List ℕ)) (last : List ℕ) (t : Session) → Passes bytes lines last → length lines < turns →
      IsLine last quit_line rest → Obeys L lines s t →
      Debugs L turns bytes rest s commands_failed input_failed output_failed t.identifiers t.state Quit
  unread : (lines : List (List ℕ)) (part : List ℕ) (t : Session) → Passes bytes lines (part ++ rest) →
      length lines < turns → length part < most_line_bytes → HasNoLineFeed part → Obeys L lines s t → commands_failed →
      Debugs L turns bytes rest s commands_failed input_failed output_failed t.identifiers t.state ReadFault
  fails : (lines : List (List ℕ)) (line last : List ℕ) (t : Session) (j : Identifiers) (u : State) (end : DebugEnd) →
      Passes bytes lines last → length lines < turns → IsLine last line rest → line ≢ quit_line →
      Obeys L lines s t → Fails L line t input_failed output_failed j u end →
      Debugs L turns bytes rest s commands_failed input_failed output_failed j u end

-- A session as a call over any sources and any sink: of the commands these bytes may be taken to have been
-- there, and to be left; and the call led the machine, its input and the output so.
pub record Debugged {C I O : Type 0} (commands : source.Ghosts C) (inputs : source.Ghosts I) (sinks : sink.Ghosts O)
    (turns : ℕ) (before now : Seen) (commands_before commands_now : C) (input_before input_now : I)
    (out_before out_now : O) (end : DebugEnd) : Type 0 where
  pub bytes : List ℕ
  pub had : MayHold (commands.rest commands_before) bytes
  pub rest : List ℕ
  pub left : MayHold (commands.rest commands_now) rest
  pub session : GoesFromTo before now (λ s t. Debugs before.machine.limits turns bytes rest
      (fresh s before.machine.identifiers)
      (Rose (commands.faults commands_before) (commands.faults commands_now))
      (Rose (inputs.faults input_before) (inputs.faults input_now))
      (Rose (sinks.faults out_before) (sinks.faults out_now))
      now.machine.identifiers t end)
