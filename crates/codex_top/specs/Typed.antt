-- What `type` promises of a program.
use Rattle.std.specs.Prelude.{◌≡◌, ℕ, List, Ok}
use Rattle.two_d.specs.Program.{program_of}
use Rattle.two_d.specs.Programs.{Program}
use Rattle.type_sheet.specs.declared.line.SheetRow.{SheetRow}
use Rattle.type_sheet.specs.Safety.{IsSafe}
use Rattle.type_sheet.specs.Sheets.{sheet_of}
use Rattle.codex_top.specs.declared.status.Status.TheVariants.{Done}
use Rattle.codex_top.specs.Calls.{Call, Has, EachCall}
use Rattle.codex_top.specs.Outside.{Outside}
use Rattle.codex_top.specs.Words.{types}

-- the files of a program and of a sheet of types
pub record HasSheet (file text sheet lines : List ℕ) (o : Outside) : Type 0 where
  pub program_there : Has file text o
  pub sheet_there : Has sheet lines o

-- the text has a program that is never stuck by the shape of a value, as the lines of the sheet say
pub record IsTyped (text lines : List ℕ) : Type 0 where
  pub program : Program
  pub rows : List SheetRow
  pub accepted : program_of text (Ok program)
  pub read : sheet_of lines (Ok rows)
  pub safe : IsSafe program rows

-- where `type` of a text and the lines of a sheet is done, the text is typed by them
abbrev pub DoneIsTyped : (IsCall : Call → Type 0) → Type 0
DoneIsTyped IsCall = (file text sheet lines : List ℕ) →
    EachCall IsCall (types file sheet) (HasSheet file text sheet lines)
    (λ c. c.status ≡ Done → IsTyped text lines)
