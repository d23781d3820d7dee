-- Completeness: where nothing outside fails, each command gives the answer of a file that is there,
-- or wants memory.
use Rattle.std.specs.Prelude.{◌≡◌, ◌≢◌, ◌⊎◌, ◌+◌, ◌^◌, ◌<◌, ◌≤◌, ◌++◌}
use Rattle.std.specs.Prelude.{ℕ, List, [], length, slice_index, Some, Ok}
use Rattle.umix_base.specs.Causes.{Rose}
use Rattle.um_asm.specs.Assembly.{assembled}
use Rattle.um_asm.specs.Listing.{listing}
use Rattle.um_debug.specs.CommandLines.{Passes}
use Rattle.std.specs.Prelude.{drop}
use Rattle.um_image.specs.Counting.{TakesBytes}
use Rattle.um_image.specs.Image.{HasImage, image_of}
use Rattle.um_machine.specs.declared.stop.Stop.{Stop}
use Rattle.um_machine.specs.MachineView.{MachineView, state_of}
use Rattle.um_machine.specs.Stops.{stop_of, unfailed_end}
use Rattle.um_word.specs.Loads.{state_in}
use Rattle.um_word.specs.Rule.{Identifiers, none_made, ruled}
use Rattle.um_word.specs.Run.{Standing, Stands, Failed}
use Rattle.um_word.specs.State.{State, start_of}
use Rattle.codex_top.specs.Calls.{status_of_end}
use Rattle.codex_top.specs.RunCommand.{end_of_run}
use Rattle.codex_top.specs.Words.{resumes, saves}
use Rattle.um_word.specs.Scroll.{most_scroll_bytes, scroll}
use Rattle.two_d.specs.Meaning.{Meaning}
use Rattle.two_d.specs.Program.{program_of}
use Rattle.two_d.specs.Programs.{Program}
use Rattle.two_d.specs.Steps.{Choice, HasMeaning}
use Rattle.two_d.specs.Texts.{text_of}
use Rattle.type_sheet.specs.declared.line.SheetRow.{SheetRow}
use Rattle.type_sheet.specs.Fits.{fits_of}
use Rattle.type_sheet.specs.Sheets.{sheet_of}
use Rattle.grid_draw.specs.Answers.{NoneTooWide, size}
use Rattle.grid_draw.specs.Layout.{drawing_of}
use Rattle.lower_link.specs.Completes.{IsAmple}
use Rattle.lower_link.specs.Realises.{AreEnough, Realises}
use Rattle.codex_top.specs.declared.status.Status.{Status}
use Rattle.codex_top.specs.declared.status.Status.TheVariants.{Done, Memory}
use Rattle.codex_top.specs.Calls.{Call, Wrote, Has, EachCall}
use Rattle.codex_top.specs.Commands.{accepted_line}
use Rattle.codex_top.specs.Endings.{status_of_finish}
use Rattle.codex_top.specs.Evaluating.{finish_of, IsMeantWithin}
use Rattle.codex_top.specs.Limits.{limits, most_grid_bytes, most_input_bytes, most_lines}
use Rattle.codex_top.specs.Limits.{most_text_bytes}
use Rattle.codex_top.specs.Outside.{Outside}
use Rattle.codex_top.specs.SelftestCommand.{Found, nine_lines}
use Rattle.codex_top.specs.TraceCommand.{trace_lines}
use Rattle.codex_top.specs.TypeCommand.{typed_line}
use Rattle.codex_top.specs.Typed.{HasSheet}
use Rattle.codex_top.specs.Words.{Job, assembles, checks, compiles, debugs, draws, evaluates, lists}
use Rattle.codex_top.specs.Words.{runs, selftests, traces, types}

-- nothing outside failed: no count of faults rose
pub record IsUnfailed (c : Call) : Type 0 where
  pub reads : Rose c.before.shelf.read_faults c.now.shelf.read_faults → ⊥
  pub writes : Rose c.before.shelf.write_faults c.now.shelf.write_faults → ⊥
  pub input : Rose c.before.streams.input.faults c.now.streams.input.faults → ⊥
  pub output : Rose c.before.streams.output.faults c.now.streams.output.faults → ⊥
  pub err : Rose c.err_before.faults c.err_now.faults → ⊥

-- so it is of each call whose words ask for the job, where this held before it and nothing outside
-- failed; or there was no memory
abbrev pub UnlessNoMemory :
    (IsCall : Call → Type 0) → Job → (Held : Outside → Type 0) → (Call → Type 0) → Type 0
UnlessNoMemory IsCall job Held IsSo =
    EachCall IsCall job Held (λ c. IsUnfailed c → IsSo c ⊎ (c.status ≡ Memory))

-- the call had this status, and wrote this text
pub record Answers (status : Status) (text : List ℕ) (c : Call) : Type 0 where
  pub ends : c.status ≡ status
  pub wrote : Wrote text c

-- the call was done and wrote nothing, and the file has these bytes
pub record Fills (file bytes : List ℕ) (c : Call) : Type 0 where
  pub answers : Answers Done [] c
  pub filled : Has file bytes c.now

-- An accepted grid is checked, compiled, and drawn where its drawing is no wider and no longer than a
-- grid may be; and where so many events come to its outcome, this is
-- told, by `trace` behind the lines of the events.
pub record GridsComplete (IsCall : Call → Type 0) : Type 0 where
  pub check : (file text : List ℕ) (P : Program) → program_of text (Ok P) →
      UnlessNoMemory IsCall (checks file) (Has file text) (Answers Done (accepted_line P))
  pub compile : (file out text : List ℕ) (P : Program) → program_of text (Ok P) →
      UnlessNoMemory IsCall (compiles file out) (Has file text)
      (λ c. (words : List ℕ) × Realises P words × Fills out (scroll words) c)
  pub draw : (file text : List ℕ) (P : Program) → program_of text (Ok P) → NoneTooWide P →
      size P ≤ most_grid_bytes →
      UnlessNoMemory IsCall (draws file) (Has file text) (Answers Done (drawing_of P))
  pub eval : (file text : List ℕ) (P : Program) (picks : Choice) (events : ℕ) (r : Meaning) →
      program_of text (Ok P) → IsMeantWithin events P r →
      UnlessNoMemory IsCall (evaluates file picks events) (Has file text)
      (Answers (status_of_finish (finish_of r.outcome)) (text_of P r.outcome))
  pub trace : (file text : List ℕ) (P : Program) (picks : Choice) (events : ℕ) (r : Meaning) →
      program_of text (Ok P) → IsMeantWithin events P r →
      UnlessNoMemory IsCall (traces file picks events) (Has file text)
      (Answers (status_of_finish (finish_of r.outcome))
      (trace_lines P picks events ++ text_of P r.outcome))

-- What was compiled runs: after `compile` is done, each `run` of a file with the bytes that it
-- wrote is done with the whole text, for cycles enough, where the limits allow what the program's
-- instances and its text may take.
abbrev pub CompiledComplete : (IsCall : Call → Type 0) → Type 0
CompiledComplete IsCall = (file out text bytes : List ℕ) (P : Program) (r : Meaning) →
    program_of text (Ok P) → HasMeaning P r →
    IsAmple P (r.instances + 1) (length (text_of P r.outcome)) limits →
    EachCall IsCall (compiles file out) (Has file text)
    (λ c. c.status ≡ Done → Has out bytes c.now →
    (copy : List ℕ) (cycles : ℕ) → AreEnough P r cycles →
    UnlessNoMemory IsCall (runs copy cycles) (Has copy bytes) (Answers Done (text_of P r.outcome)))

-- A session has an end within its lines: fewer than the most lines come before a `q` or the end of
-- the commands.
abbrev pub EndsInTime : List ℕ → Type 0
EndsInTime commands = (lines : List (List ℕ)) (rest : List ℕ) → Passes commands lines rest →
    length lines ≢ most_lines

-- the files of a session and its commands
pub record HasSession (file words input bytes commands : List ℕ) (o : Outside) : Type 0 where
  pub scroll_there : Has file (scroll words) o
  pub input_there : Has input bytes o
  pub told : o.streams.input.bytes ≡ Some commands

-- A text that has words is assembled, a scroll is listed, and a session on one comes to its end.
pub record ScrollsComplete (IsCall : Call → Type 0) : Type 0 where
  pub asm : (file out text words : List ℕ) → length text ≤ most_text_bytes →
      assembled text ≡ Ok words →
      UnlessNoMemory IsCall (assembles file out) (Has file text) (Fills out (scroll words))
  pub dis : (file words : List ℕ) → ((at : ℕ) → slice_index words at < 2 ^ 32) →
      length (scroll words) ≤ most_scroll_bytes →
      UnlessNoMemory IsCall (lists file) (Has file (scroll words)) (Answers Done (listing words))
  pub debug : (file words input bytes commands : List ℕ) →
      length (scroll words) ≤ most_scroll_bytes → length bytes ≤ most_input_bytes →
      EndsInTime commands →
      UnlessNoMemory IsCall (debugs file input) (HasSession file words input bytes commands)
      (λ c. c.status ≡ Done)

-- the file has these bytes, and the input tells those
pub record HasWithInput (file bytes input : List ℕ) (o : Outside) : Type 0 where
  pub there : Has file bytes o
  pub told : o.streams.input.bytes ≡ Some input

-- why a run stops that stands so
abbrev pub stop_in : Standing Identifiers → Stop
stop_in (Stands t identifiers) = unfailed_end t.halted
stop_in (Failed t identifiers fault) = stop_of fault

-- the call ended as a run of so many cycles that stands so, and wrote its output
abbrev pub AnswersAs : (cycles : ℕ) → Standing Identifiers → Call → Type 0
AnswersAs cycles run =
    Answers (status_of_end (end_of_run cycles (state_in run).cycles (stop_in run)))
    (state_in run).out

-- the machine of a state under the program's limits, with these identifiers
abbrev pub machine_in : State → Identifiers → MachineView
machine_in t identifiers = record {
  registers = t.registers;
  finger = t.finger;
  arrays = t.arrays;
  identifiers = identifiers;
  limits = limits;
  cycles = t.cycles;
  halted = t.halted;
}

-- the call was done and wrote this run's output, and its file has the image of the run's machine
pub record Keeps (out : List ℕ) (first t : State) (identifiers : Identifiers) (c : Call) : Type 0
  where
    pub answers : Answers Done t.out c
    pub taken : ℕ
    pub takes : TakesBytes first t taken
    pub filled : Has out (image_of (machine_in t identifiers) taken) c.now

-- `save` keeps the machine of a run without a fault; else it ends as the run
abbrev pub SaveAnswers : (out : List ℕ) (cycles : ℕ) (first : State) → Standing Identifiers →
    Call → Type 0
SaveAnswers out cycles first (Stands t identifiers) = Keeps out first t identifiers
SaveAnswers out cycles first (Failed t identifiers fault) =
    AnswersAs cycles (Failed t identifiers fault)

-- On an input that is told, `run` and `save` of a scroll come to what its run by the rule comes to,
-- and `resume` of an image to what the run of its machine comes to, on the input without the bytes
-- that it has taken.
pub record RunsComplete (IsCall : Call → Type 0) : Type 0 where
  pub run : (file words input : List ℕ) (cycles : ℕ) →
      ((at : ℕ) → slice_index words at < 2 ^ 32) → length (scroll words) ≤ most_scroll_bytes →
      UnlessNoMemory IsCall (runs file cycles) (HasWithInput file (scroll words) input)
      (AnswersAs cycles (ruled limits cycles none_made (start_of words input)))
  pub save : (file out words input : List ℕ) (cycles : ℕ) →
      ((at : ℕ) → slice_index words at < 2 ^ 32) → length (scroll words) ≤ most_scroll_bytes →
      UnlessNoMemory IsCall (saves file cycles out) (HasWithInput file (scroll words) input)
      (SaveAnswers out cycles (start_of words input)
      (ruled limits cycles none_made (start_of words input)))
  pub resume : (file input : List ℕ) (machine : MachineView) (taken cycles : ℕ) →
      HasImage machine taken →
      UnlessNoMemory IsCall (resumes file cycles)
      (HasWithInput file (image_of machine taken) input)
      (AnswersAs cycles (ruled limits cycles machine.identifiers
      (state_of machine (drop taken input) [])))

-- `selftest` of each number comes to its nine lines
abbrev pub SelftestComplete : (IsCall : Call → Type 0) → Type 0
SelftestComplete IsCall = (number : ℕ) → UnlessNoMemory IsCall (selftests number) (λ o. Unit {0})
    (λ c. (found : Found number) × Answers Done (nine_lines number found) c)

-- A program that fits a sheet is told to.
abbrev pub TypesComplete : (IsCall : Call → Type 0) → Type 0
TypesComplete IsCall =
    (file text sheet lines : List ℕ) (P : Program) (rows : List SheetRow) →
    program_of text (Ok P) → sheet_of lines (Ok rows) → fits_of P rows (Ok tt) →
    UnlessNoMemory IsCall (types file sheet) (HasSheet file text sheet lines)
    (Answers Done (typed_line P rows))

pub record Completeness (IsCall : Call → Type 0) : Type 0 where
  pub grids : GridsComplete IsCall
  pub compiled : CompiledComplete IsCall
  pub scrolls : ScrollsComplete IsCall
  pub runs : RunsComplete IsCall
  pub selftest : SelftestComplete IsCall
  pub types : TypesComplete IsCall
