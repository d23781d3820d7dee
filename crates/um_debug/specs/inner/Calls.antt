-- What the calls of a session come to.
use Rattle.std.specs.Prelude.{◌≡◌, ℕ, ◌+◌, ◌^◌, ◌<◌, ◌≤◌, List, [], ◌++◌, codes, length, slice_get}
use Rattle.std.specs.Prelude.{Option, Some, None, Result, Ok, Err, Vec}
use Rattle.std.specs.declared.alloc.Global.{Global}
use Rattle.umix_base.specs.Causes.{Rose}
use Rattle.umix_base.specs.declared.source.Source as source
use Rattle.umix_base.specs.declared.sink.Sink as sink
use Rattle.umix_base.specs.declared.limits.Limits.{Limits}
use Rattle.um_debug.specs.declared.points.Toggle.{Toggle}
use Rattle.um_debug.specs.declared.points.Toggle.TheVariants as toggle
use Rattle.umix_base.specs.declared.Failed.{Failed}
use Rattle.um_word.specs.State.{State, Arrays}
use Rattle.um_word.specs.Rule.{Identifiers}
use Rattle.um_machine.specs.declared.stop.Stop.{Stop}
use Rattle.um_machine.specs.declared.stop.Stop.TheVariants as stop
use Rattle.um_machine.specs.MachineView.{MachineView}
use Rattle.um_machine.specs.Outside.{MayHold}
use Rattle.um_machine.specs.Runs.{seen_by, GoesFromTo}
use Rattle.um_debug.specs.declared.course.Came.{Came}
use Rattle.um_debug.specs.declared.course.Came.TheVariants as came
use Rattle.um_debug.specs.declared.course.Came.TheVariants.{Stopped}
use Rattle.um_debug.specs.declared.command.Command.{Command}
use Rattle.um_debug.specs.declared.command.Command.TheVariants.{Step, Go, Words}
use Rattle.um_debug.specs.declared.command.WordPlace.{WordPlace}
use Rattle.um_debug.specs.declared.debugger.DebugEnd.{DebugEnd}
use Rattle.um_debug.specs.declared.debugger.DebugEnd.TheVariants as ends
use Rattle.um_debug.specs.Commands.{most_cycles}
use Rattle.um_debug.specs.CommandLines.{IsLine, HasNoLineFeed, most_line_bytes}
use Rattle.um_debug.specs.Course.{Points, Going, Goes, Ends, goes_for, IsCutOff}
use Rattle.um_debug.specs.Replies.{word_at}
use Rattle.um_debug.specs.Session.{Session, Answer, Toggled, Off, On, Full, after, sent, answer}
use Rattle.um_debug.specs.Session.{cycles_answer, AnswersLine}
use Rattle.um_debug.specs.Debugging.{EndsBy, Fails, cycles_of, looks_at}

-- a line that was taken from bytes that may have been there before, whatever may be left
pub record TookLine (before : Option (List ℕ)) (line more : List ℕ) : Type 0 where
  pub bytes : List ℕ
  pub had : MayHold before bytes
  pub is_line : IsLine bytes line more

-- bytes of a line that were taken, of which the next byte failed
pub record TookPart (before now : Option (List ℕ)) : Type 0 where
  pub part : List ℕ
  pub short : length part < most_line_bytes
  pub plain : HasNoLineFeed part
  pub had : (more : List ℕ) → MayHold now more → MayHold before (part ++ more)

-- what taking a line comes to
abbrev pub TakesLine : (before now : Option (List ℕ)) → Result (Option (List ℕ)) Failed → Type 0
TakesLine before now (Ok None) = MayHold before [] × MayHold now []
TakesLine before now (Ok (Some line)) = (more : List ℕ) → MayHold now more → TookLine before line more
TakesLine before now (Err failed) = TookPart before now

-- what a stop comes to that is neither of a budget nor of a halt
abbrev pub came_by : Stop → Result Came DebugEnd
came_by stop.ReadFault = Err ends.ReadFault
came_by stop.WriteFault = Err ends.WriteFault
came_by stop.Memory = Err ends.Memory
came_by stop = Ok (came.Failed stop)

-- cycles came to this
abbrev pub CameTo : Going → Identifiers → State → Came → Type 0
CameTo (Goes u j) i t came = (u ≡ t) × (j ≡ i) × (came ≡ Stopped)
CameTo (Ends u j why) i t came = (u ≡ t) × (j ≡ i) × (came ≡ why)

-- so many cycles came to this, or were cut short
abbrev pub Course : Points → ℕ → (input output : Type 0) → (old new : MachineView) → (s t : State) →
    Result Came DebugEnd → Type 0
Course points n input output old new s t (Ok came) =
    CameTo (goes_for old.limits points n old.identifiers s) new.identifiers t came
Course points n input output old new s t (Err end) =
    (why : Stop) × IsCutOff old.limits points n old.identifiers s why new.identifiers t × EndsBy input output why end

-- the words of these places are these, in order
abbrev pub AreWords : Arrays → List WordPlace → List (Option ℕ) → Type 0
AreWords arrays places words =
    (k : ℕ) (place : WordPlace) → slice_get places k ≡ Some place → slice_get words k ≡ Some (word_at arrays place)

-- what became of a thing in a list, and the points after it
abbrev pub Changes : {A : Type 0} → Toggled A → Points → (List A → Points) → Points → Toggle → Type 0
Changes (Off xs) old points new became = (became ≡ toggle.Off) × (new ≡ points xs)
Changes (On xs) old points new became = (became ≡ toggle.On) × (new ≡ points xs)
Changes Full old points new became = (became ≡ toggle.Full) × (new ≡ old)

-- the reply to it
abbrev pub toggle_text : List ℕ → Toggle → List ℕ
toggle_text what toggle.On = what ++ codes " on"
toggle_text what toggle.Off = what ++ codes " off"
toggle_text what toggle.Full = codes "full"

-- what became of it, and the reply to that with its LF
abbrev pub Sets : {A : Type 0} → List ℕ → Toggled A → Points → (List A → Points) → Points → List ℕ → Type 0
Sets what toggled old points new reply =
    (became : Toggle) × Changes toggled old points new became × (reply ≡ toggle_text what became ++ codes "\n")

-- the session in which a machine stands with its points
abbrev pub session_of : MachineView → State → Points → Session
session_of m s points = record { state = s; identifiers = m.identifiers; points = points }

-- this is the answer: the session after it, and its reply with its LF
pub record IsAnswer (answer : Answer) (now : Session) (reply : List ℕ) : Type 0 where
  pub session_is : answer.session ≡ now
  pub reply_is : reply ≡ sent answer.reply

-- cycles that looked at these points failed, or there was no memory for the reply
pub data CyclesFail (points : Points) (n : ℕ) (input output : Type 0) (old new : MachineView) (s t : State) :
    DebugEnd → Type 0 where
  cycle_failed : (why : Stop) (end : DebugEnd) → s.cycles + n ≤ most_cycles →
      IsCutOff old.limits points n old.identifiers s why new.identifiers t → EndsBy input output why end →
      CyclesFail points n input output old new s t end
  no_memory : ((p : Points) → (cycles_answer old.limits points n (session_of old s p)).session ≡ session_of new t p) →
      CyclesFail points n input output old new s t ends.Memory

-- what cycles come to that look at these points, with their reply, whatever points are set
abbrev pub CyclesEnd : Points → ℕ → (input output : Type 0) → (old new : MachineView) → (s t : State) →
    Result (Vec ℕ Global) DebugEnd → Type 0
CyclesEnd points n input output old new s t (Ok reply) =
    (p : Points) → IsAnswer (cycles_answer old.limits points n (session_of old s p)) (session_of new t p) reply.items
CyclesEnd points n input output old new s t (Err end) = CyclesFail points n input output old new s t end

-- what a line may ask for
abbrev pub MayAsk : Command → Type 0
MayAsk (Step n) = 1 ≤ n
MayAsk (Go n) = 1 ≤ n
MayAsk (Words place count) = (1 ≤ count) × (place.offset + count ≤ 2 ^ 32)
MayAsk command = Unit {0}

-- a command failed in one of its cycles, or there was no memory for its reply
pub data CommandFails (L : Limits) (command : Command) (s : Session) (input output : Type 0)
    (j : Identifiers) (t : State) :
    DebugEnd → Type 0 where
  command_failed : (why : Stop) (end : DebugEnd) → s.state.cycles + cycles_of command ≤ most_cycles →
      IsCutOff L (looks_at command s.points) (cycles_of command) s.identifiers s.state why j t →
      EndsBy input output why end →
      CommandFails L command s input output j t end
  no_reply : j ≡ (answer L command s).session.identifiers → t ≡ (answer L command s).session.state →
      CommandFails L command s input output j t ends.Memory

-- what a command comes to, before its reply goes out
abbrev pub CommandEnds : Command → (input output : Type 0) → (old new : MachineView) → (before now : Points) →
    (s t : State) → Result (Vec ℕ Global) DebugEnd → Type 0
CommandEnds command input output old new before now s t (Ok reply) =
    IsAnswer (answer old.limits command (session_of old s before)) (session_of new t now) reply.items
CommandEnds command input output old new before now s t (Err end) =
    CommandFails old.limits command (session_of old s before) input output new.identifiers t end

-- what answering a line comes to, before its reply goes out
abbrev pub AnswerEnds : List ℕ → (input output : Type 0) → (old new : MachineView) → (before now : Points) →
    (s t : State) → Result (Vec ℕ Global) DebugEnd → Type 0
AnswerEnds line input output old new before now s t (Ok reply) =
    (a : Answer) × AnswersLine old.limits line (session_of old s before) a ×
    IsAnswer a (session_of new t now) reply.items
AnswerEnds line input output old new before now s t (Err end) =
    Fails old.limits line (session_of old s before) input output new.identifiers t end

-- what obeying a line comes to
abbrev pub ObeyEnds : List ℕ → (input output : Type 0) → (old new : MachineView) → (before now : Points) →
    (s t : State) → Result (Unit {0}) DebugEnd → Type 0
ObeyEnds line input output old new before now s t (Ok done) =
    (a : Answer) × AnswersLine old.limits line (session_of old s before) a × (after a ≡ session_of new t now)
ObeyEnds line input output old new before now s t (Err end) =
    Fails old.limits line (session_of old s before) input output new.identifiers t end

-- that the count of an input, or of an output, rose
abbrev pub InputRose : {I : Type 0} → source.Ghosts I → I → I → Type 0
InputRose i old new = Rose (i.faults old) (i.faults new)

abbrev pub OutputRose : {O : Type 0} → sink.Ghosts O → O → O → Type 0
OutputRose o old new = Rose (o.faults old) (o.faults new)

-- what a call on a machine comes to, of its states before and after, and by whether the count of the
-- input, and that of the output, rose
abbrev pub ComesTo : {I O : Type 0} → source.Ghosts I → sink.Ghosts O → (old new : MachineView) →
    I → I → O → O → ((input output : Type 0) → State → State → Type 0) → Type 0
ComesTo i o old new input input' out out' outcome =
    GoesFromTo (seen_by i o old input out) (seen_by i o new input' out')
    (outcome (InputRose i input input') (OutputRose o out out'))
