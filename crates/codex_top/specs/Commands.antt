-- What the program does: each command in a few lines, and `codex` as a whole.
use Rattle.std.specs.Prelude.{◌≡◌, ℕ, ◌^◌, ◌<◌, ◌≤◌, List, [], ◌∷◌, length, slice_index, codes}
use Rattle.std.specs.Prelude.{decimal, Result, Ok, Err}
use Rattle.std.specs.List.{concat}
use Rattle.um_asm.specs.Listing.{listing}
use Rattle.um_word.specs.Scroll.{scroll, most_scroll_bytes}
use Rattle.two_d.specs.Programs.{Program}
use Rattle.two_d.specs.Steps.{Choice}
use Rattle.lower_link.specs.Realises.{Realises}
use Rattle.lower_link.specs.Follows.{Follows}
use Rattle.codex_top.specs.declared.status.Status.{Status}
use Rattle.codex_top.specs.declared.line.Line.{Line}
use Rattle.codex_top.specs.declared.line.Line.TheVariants.{Usage, NoMemory}
use Rattle.codex_top.specs.Words.{Job, checks, evaluates, traces, compiles, runs, assembles, lists}
use Rattle.codex_top.specs.Words.{debugs, selftests, draws, types, saves, resumes, Asks}
use Rattle.codex_top.specs.Outside.{Shelved, Stream, Outside, IsOnlyRead, IsOnlyWritten}
use Rattle.codex_top.specs.Endings.{End, IsTold}
use Rattle.codex_top.specs.Reading.{ProgramRead, ScrollRead, TextRead, InputRead, SheetRead}
use Rattle.codex_top.specs.Reading.{ImageRead}
use Rattle.codex_top.specs.Sending.{TextSent, ScrollWritten}
use Rattle.codex_top.specs.Evaluating.{OutcomeEnds}
use Rattle.codex_top.specs.TraceCommand.{EventsTold}
use Rattle.codex_top.specs.RunCommand.{ScrollEnds}
use Rattle.codex_top.specs.DebugCommand.{SessionEnds}
use Rattle.codex_top.specs.SelftestCommand.{SelftestEnds}
use Rattle.codex_top.specs.DrawCommand.{DrawingTold}
use Rattle.codex_top.specs.TypeCommand.{FitTold}
use Rattle.codex_top.specs.SaveCommand.{SavesInto}
use Rattle.codex_top.specs.ResumeCommand.{MachineEnds}
use Rattle.codex_top.specs.Boxes.{boxes_in}

-- How a command ends that begins by reading a file. There was nothing to work on, and its line is
-- told; or there was no memory to begin the work: then nothing was touched. Or what was read was
-- worked on.
pub data Begins {A : Type 0} (Read : Result A Line → Type 0) (Untouched : Type 0)
    (Work : A → End → Type 0) : End → Type 0 where
  unread : (line : Line) → Read (Err line) → Untouched → Begins Read Untouched Work (Err line)
  no_memory : Untouched → Begins Read Untouched Work (Err NoMemory)
  works : (it : A) (end : End) → Read (Ok it) → Work it end → Begins Read Untouched Work end

-- `check`: the output receives `ok`, and the numbers of the accepted grid's modules and boxes
abbrev pub accepted_line : Program → List ℕ
accepted_line P =
    concat (codes "ok " ∷ decimal (length P) ∷ codes " " ∷ decimal (boxes_in P) ∷ codes "\n" ∷ [])

abbrev pub CheckEnds : (file : List ℕ) (shelf_before shelf_now : Shelved) (before now : Stream) →
    End → Type 0
CheckEnds file shelf_before shelf_now before now =
    Begins (ProgramRead file shelf_before shelf_now) (now ≡ before)
    (λ program. TextSent (accepted_line program) before now)

-- `eval`: the output receives the text of the program's outcome, whatever the picks
abbrev pub EvalEnds : (file : List ℕ) (events : ℕ) (shelf_before shelf_now : Shelved)
    (before now : Stream) → End → Type 0
EvalEnds file events shelf_before shelf_now before now =
    Begins (ProgramRead file shelf_before shelf_now) (now ≡ before)
    (λ program. OutcomeEnds events program before now)

-- `trace`: the output receives the lines of the events by the picks, and then the text of the
-- outcome
abbrev pub TraceEnds : (file : List ℕ) (picks : Choice) (events : ℕ)
    (shelf_before shelf_now : Shelved) (before now : Stream) → End → Type 0
TraceEnds file picks events shelf_before shelf_now before now =
    Begins (ProgramRead file shelf_before shelf_now) (now ≡ before)
    (λ program. EventsTold program picks events before now)

-- `compile`: words of 32 bits that realise the program and follow it within bounds, and are few
-- enough for a scroll, are written into a file as one
pub record CompiledInto (program : Program) (out : List ℕ) (before now : Shelved) (end : End) :
    Type 0 where
  pub words : List ℕ
  pub blocks : List (ℕ × ℕ)
  pub small : (at : ℕ) → slice_index words at < 2 ^ 32
  pub few : length (scroll words) ≤ most_scroll_bytes
  pub realises : Realises program words
  pub follows : Follows program words blocks
  pub written : ScrollWritten out words before now end

abbrev pub CompileEnds : (file out : List ℕ) (before now : Shelved) → End → Type 0
CompileEnds file out before now =
    Begins (ProgramRead file before now) (IsOnlyRead before now)
    (λ program. CompiledInto program out before now)

-- `run`: the words of the scroll run
abbrev pub RunCommandEnds : (file : List ℕ) (cycles : ℕ) (before now : Outside) → End → Type 0
RunCommandEnds file cycles before now =
    Begins (ScrollRead file before.shelf now.shelf) (now.streams ≡ before.streams)
    (λ words. ScrollEnds words.items cycles before.streams now.streams)

-- `asm`: the words of the text are written into a file as a scroll
abbrev pub AssemblyEnds : (file out : List ℕ) (before now : Shelved) → End → Type 0
AssemblyEnds file out before now =
    Begins (TextRead file before now) (IsOnlyRead before now)
    (λ words. ScrollWritten out words.items before now)

-- `dis`: the output receives the listing of the scroll's words
abbrev pub ListingEnds : (file : List ℕ) (shelf_before shelf_now : Shelved) (before now : Stream) →
    End → Type 0
ListingEnds file shelf_before shelf_now before now =
    Begins (ScrollRead file shelf_before shelf_now) (now ≡ before)
    (λ words. TextSent (listing words.items) before now)

-- `debug`: the scroll's file is read first, and then its input; a session is held on both
abbrev pub DebugCommandEnds : (file input : List ℕ) (before now : Outside) → End → Type 0
DebugCommandEnds file input before now =
    Begins (ScrollRead file before.shelf now.shelf) (now.streams ≡ before.streams)
    (λ words. Begins (InputRead input before.shelf now.shelf) (now.streams ≡ before.streams)
    (λ bytes. SessionEnds words.items bytes.items before.streams now.streams))

-- `draw`: the output receives the drawing of the program
abbrev pub DrawEnds : (file : List ℕ) (shelf_before shelf_now : Shelved) (before now : Stream) →
    End → Type 0
DrawEnds file shelf_before shelf_now before now =
    Begins (ProgramRead file shelf_before shelf_now) (now ≡ before)
    (λ program. DrawingTold program before now)

-- `type`: the program's file is read first, and then that of its sheet; whether it fits is told
abbrev pub TypeEnds : (file sheet : List ℕ) (shelf_before shelf_now : Shelved)
    (before now : Stream) → End → Type 0
TypeEnds file sheet shelf_before shelf_now before now =
    Begins (ProgramRead file shelf_before shelf_now) (now ≡ before)
    (λ program. Begins (SheetRead program sheet shelf_before shelf_now) (now ≡ before)
    (λ rows. FitTold program rows before now))

-- `save`: the words of the scroll run, and the image of the machine is written into a file
abbrev pub SaveEnds :
    (file : List ℕ) (cycles : ℕ) (out : List ℕ) (before now : Outside) → End → Type 0
SaveEnds file cycles out before now =
    Begins (ScrollRead file before.shelf now.shelf)
    (IsOnlyRead before.shelf now.shelf × (now.streams ≡ before.streams))
    (λ words. SavesInto out words.items cycles before now)

-- `resume`: the machine of the image runs on
abbrev pub ResumeEnds : (file : List ℕ) (cycles : ℕ) (before now : Outside) → End → Type 0
ResumeEnds file cycles before now =
    Begins (ImageRead file before.shelf now.shelf) (now.streams ≡ before.streams)
    (λ saved. MachineEnds saved.0 saved.1 cycles before.streams now.streams)

-- how a job ends
abbrev pub JobEnds : Job → (before now : Outside) → End → Type 0
JobEnds (checks file) before now end =
    IsOnlyWritten before now
    × CheckEnds file before.shelf now.shelf before.streams.output now.streams.output end
JobEnds (evaluates file picks events) before now end =
    IsOnlyWritten before now
    × EvalEnds file events before.shelf now.shelf before.streams.output now.streams.output end
JobEnds (traces file picks events) before now end =
    IsOnlyWritten before now
    × TraceEnds file picks events before.shelf now.shelf before.streams.output
    now.streams.output end
JobEnds (compiles file out) before now end =
    (now.streams ≡ before.streams) × CompileEnds file out before.shelf now.shelf end
JobEnds (runs file cycles) before now end =
    IsOnlyRead before.shelf now.shelf × RunCommandEnds file cycles before now end
JobEnds (assembles file out) before now end =
    (now.streams ≡ before.streams) × AssemblyEnds file out before.shelf now.shelf end
JobEnds (lists file) before now end =
    IsOnlyWritten before now
    × ListingEnds file before.shelf now.shelf before.streams.output now.streams.output end
JobEnds (debugs file input) before now end =
    IsOnlyRead before.shelf now.shelf × DebugCommandEnds file input before now end
JobEnds (selftests number) before now end =
    (now.shelf ≡ before.shelf) × (now.streams.input ≡ before.streams.input)
    × SelftestEnds number before.streams.output now.streams.output end
JobEnds (draws file) before now end =
    IsOnlyWritten before now
    × DrawEnds file before.shelf now.shelf before.streams.output now.streams.output end
JobEnds (types file sheet) before now end =
    IsOnlyWritten before now
    × TypeEnds file sheet before.shelf now.shelf before.streams.output now.streams.output end
JobEnds (saves file cycles out) before now end = SaveEnds file cycles out before now end
JobEnds (resumes file cycles) before now end =
    IsOnlyRead before.shelf now.shelf × ResumeEnds file cycles before now end

-- how a list of words ends: the job that it asks for was done; or it asks for none, or there was no
-- memory to read it, and nothing was touched
pub data Ends (words : List (List ℕ)) (before now : Outside) : End → Type 0 where
  worked : (job : Job) (end : End) → Asks words job → JobEnds job before now end →
      Ends words before now end
  misused : ((job : Job) → Asks words job → ⊥) → now ≡ before → Ends words before now (Err Usage)
  no_memory : now ≡ before → Ends words before now (Err NoMemory)

-- a command came to an end, and `err` and the status tell it
pub record Does (words : List (List ℕ)) (before now : Outside) (err_before err_now : Stream)
    (status : Status) : Type 0 where
  pub end : End
  pub ends : Ends words before now end
  pub told : IsTold err_before err_now end status
