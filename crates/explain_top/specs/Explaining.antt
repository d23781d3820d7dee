-- What the program does.
use Rattle.std.specs.Prelude.{◌≡◌, ◌⊎◌, ℕ, ◌+◌, ◌<◌, ◌≤◌, List, length, take, Some, None, Option, Vec}
use Rattle.std.specs.Prelude.{Result, Ok, Err}
use Rattle.std.specs.declared.alloc.Global.{Global}
use Rattle.umix_base.specs.Causes.{Rose}
use Rattle.umix_base.specs.Files.{Lacks, ReadsFile}
use Rattle.asm_view.specs.Pages.{IsPage}
use Rattle.asm_view.specs.declared.page.Answer.{Answer as Accepts}
use Rattle.asm_view.specs.declared.page.Answer.TheVariants as accepts
use Rattle.fault_view.specs.Pages.{PageWritten}
use Rattle.fault_view.specs.declared.page.Answer.TheVariants as answer
use Rattle.fault_view.specs.declared.page.PageFault.TheVariants as none
use Rattle.stuck_view.specs.Pages.{IsPage as IsStuckPage}
use Rattle.stuck_view.specs.declared.page.Answer.{Answer as Ends}
use Rattle.stuck_view.specs.declared.page.Answer.TheVariants as ends
use Rattle.explain_top.specs.declared.status.Status.{Status}
use Rattle.explain_top.specs.declared.status.Status.TheVariants.{Done, Refused, Usage, Stuck, Budget}
use Rattle.explain_top.specs.declared.status.Status.TheVariants.{ReadFault, WriteFault, Memory}
use Rattle.explain_top.specs.Help.{help_text}
use Rattle.explain_top.specs.Outside.{Shelved, Stream, Received}
use Rattle.explain_top.specs.Statuses.{line_of, text_too_long}
use Rattle.explain_top.specs.Words.{Job, shows, evaluates, lists, helps, AsksFor}

-- the text was received whole, and this is the status; or a beginning of it, by a write that failed
pub data IsPut (text : List ℕ) (status : Status) (before now : Stream) : Status → Type 0 where
  whole : Received text before now → IsPut text status before now status
  cut : (k : ℕ) → k ≤ length text → Received (take k text) before now →
      Rose before.faults now.faults → IsPut text status before now WriteFault

-- `err` has received just the line of a status, if it has one
pub data IsTold (status : Status) (before now : Stream) : Status → Type 0 where
  silent : line_of status ≡ None → now ≡ before → IsTold status before now status
  line : (text : List ℕ) (end : Status) → line_of status ≡ Some text →
      IsPut text status before now end → IsTold status before now end

-- the most bytes of a drawing, and of an assembly text
abbrev pub most_grid_bytes : ℕ
most_grid_bytes = 262144

abbrev pub most_text_bytes : ℕ
most_text_bytes = 300000000

-- The first bytes of the file, one more at most than there may be; or the file couldn't be read, or
-- there was no memory. No file changed.
pub data TextRead (most : ℕ) (file : List ℕ) (before now : Shelved) :
    Result (Vec ℕ Global) Status → Type 0 where
  holds : (bytes : Vec ℕ Global) → ReadsFile before.files file (most + 1) (Ok bytes) →
      now.files ≡ before.files → TextRead most file before now (Ok bytes)
  unread : Rose before.read_faults now.read_faults ⊎ Lacks before.files file →
      now.files ≡ before.files → TextRead most file before now (Err ReadFault)
  no_memory : now.files ≡ before.files → TextRead most file before now (Err Memory)

-- the page of a drawing was written, with the status that it tells; or there is no whole page, and the
-- status tells why
pub data DrawingShown (text : List ℕ) (before now : Stream) : Status → Type 0 where
  program : PageWritten text before.bytes now.bytes (Ok answer.Program) →
      DrawingShown text before now Done
  fault : PageWritten text before.bytes now.bytes (Ok answer.Refused) →
      DrawingShown text before now Refused
  begun : PageWritten text before.bytes now.bytes (Err none.Failed) →
      Rose before.faults now.faults → DrawingShown text before now WriteFault
  no_page : PageWritten text before.bytes now.bytes (Err none.Memory) →
      DrawingShown text before now Memory

-- the page of the drawing in a file was written; or the file wasn't read, and the status tells why
pub data PageShown (file : List ℕ) (shelf shelf' : Shelved) (before now : Stream) :
    Status → Type 0 where
  of_drawing : (text : Vec ℕ Global) (status : Status) →
      TextRead most_grid_bytes file shelf shelf' (Ok text) →
      DrawingShown text.items before now status → PageShown file shelf shelf' before now status
  no_text : (status : Status) → TextRead most_grid_bytes file shelf shelf' (Err status) → now ≡ before →
      PageShown file shelf shelf' before now status

-- the status that tells how a program ends, where there is one
abbrev pub ending_of : Ends → Option Status
ending_of ends.Value = Some Done
ending_of ends.Stuck = Some Stuck
ending_of ends.Unended = Some Budget
ending_of ends.Refused = None

-- The page that shows where the program of a drawing is stuck was written, with the status of how it
-- ends; or the page of a drawing that has none; or there was no memory, and nothing was.
pub data ProgramShown (text : List ℕ) (before now : Stream) : Status → Type 0 where
  of_program : (a : Ends) (bytes : List ℕ) (status end : Status) → IsStuckPage text a bytes →
      ending_of a ≡ Some status → IsPut bytes status before now end → ProgramShown text before now end
  of_fault : (a : Ends) (bytes : List ℕ) (status : Status) → IsStuckPage text a bytes →
      ending_of a ≡ None → DrawingShown text before now status → ProgramShown text before now status
  unshown : now ≡ before → ProgramShown text before now Memory

-- it is that of the drawing in a file; or the file wasn't read, and the status tells why
pub data StuckShown (file : List ℕ) (shelf shelf' : Shelved) (before now : Stream) :
    Status → Type 0 where
  of_file : (text : Vec ℕ Global) (status : Status) →
      TextRead most_grid_bytes file shelf shelf' (Ok text) →
      ProgramShown text.items before now status → StuckShown file shelf shelf' before now status
  unread_file : (status : Status) → TextRead most_grid_bytes file shelf shelf' (Err status) →
      now ≡ before → StuckShown file shelf shelf' before now status

-- the status that an answer to an assembly text is told by
abbrev pub status_of : Accepts → Status
status_of accepts.Accepted = Done
status_of accepts.Refused = Refused

-- The page of an assembly text was written, or the line that tells that it is too long, with the
-- status of that; or there was no memory, and nothing was.
pub data TextListed (text : List ℕ) (before now : Stream) : Status → Type 0 where
  listed : (a : Accepts) (bytes : List ℕ) (end : Status) → length text ≤ most_text_bytes →
      IsPage text a bytes → IsPut bytes (status_of a) before now end → TextListed text before now end
  too_long : (end : Status) → most_text_bytes < length text →
      IsPut text_too_long Refused before now end → TextListed text before now end
  unlisted : length text ≤ most_text_bytes → now ≡ before → TextListed text before now Memory

-- the page of the assembly text in a file was written, with the status that it tells; or there is no
-- whole page, and the status tells why
pub data ListingShown (file : List ℕ) (shelf shelf' : Shelved) (before now : Stream) :
    Status → Type 0 where
  of_text : (text : Vec ℕ Global) (status : Status) →
      TextRead most_text_bytes file shelf shelf' (Ok text) →
      TextListed text.items before now status → ListingShown file shelf shelf' before now status
  unread_text : (status : Status) → TextRead most_text_bytes file shelf shelf' (Err status) →
      now ≡ before → ListingShown file shelf shelf' before now status

-- What the program does: it shows the page of a file, and tells on `err` why there is no whole one;
-- or it writes the help text, to the output where that was asked for, and else to `err`.
pub data Explained (words : List (List ℕ)) (shelf shelf' : Shelved) (out out' err err' : Stream) :
    Status → Type 0 where
  grid : (file : List ℕ) (status end : Status) → AsksFor words (shows file) →
      PageShown file shelf shelf' out out' status → IsTold status err err' end →
      Explained words shelf shelf' out out' err err' end
  stuck : (file : List ℕ) (status end : Status) → AsksFor words (evaluates file) →
      StuckShown file shelf shelf' out out' status → IsTold status err err' end →
      Explained words shelf shelf' out out' err err' end
  asm : (file : List ℕ) (status end : Status) → AsksFor words (lists file) →
      ListingShown file shelf shelf' out out' status → IsTold status err err' end →
      Explained words shelf shelf' out out' err err' end
  help : (end : Status) → AsksFor words helps → shelf' ≡ shelf → err' ≡ err →
      IsPut help_text Done out out' end → Explained words shelf shelf' out out' err err' end
  unknown : (end : Status) → ((job : Job) → AsksFor words job → ⊥) → shelf' ≡ shelf → out' ≡ out →
      IsPut help_text Usage err err' end → Explained words shelf shelf' out out' err err' end
