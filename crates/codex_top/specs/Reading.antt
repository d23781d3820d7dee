-- How the files of a command are read.
use Rattle.std.specs.Prelude.{◌≡◌, ◌≢◌, ℕ, ◌%◌, ◌^◌, ◌<◌, ◌≤◌, ◌⊎◌, List, length, slice_index}
use Rattle.std.specs.Prelude.{Result, Ok, Err, Vec}
use Rattle.std.specs.declared.alloc.Global.{Global}
use Rattle.umix_base.specs.Causes.{Rose}
use Rattle.umix_base.specs.Files.{Lacks}
use Rattle.um_asm.specs.declared.fault.AsmFault.{AsmFault}
use Rattle.um_asm.specs.Assembly.{assembled}
use Rattle.um_word.specs.Scroll.{most_scroll_bytes, scroll}
use Rattle.um_machine.specs.MachineView.{MachineView}
use Rattle.um_image.specs.Image.{HasImage, image_of, most_image_bytes, IsBadAt}
use Rattle.two_d.specs.Faults.{TextFault}
use Rattle.two_d.specs.Program.{program_of}
use Rattle.two_d.specs.Programs.{Program}
use Rattle.two_d.specs.Weights.{weight}
use Rattle.type_sheet.specs.declared.fault.SheetFault.{SheetFault}
use Rattle.type_sheet.specs.declared.line.SheetRow.{SheetRow}
use Rattle.type_sheet.specs.Sheets.{sheet_of}
use Rattle.codex_top.specs.declared.line.Line.{Line}
use Rattle.codex_top.specs.declared.line.Line.TheVariants.{ReadFault, NoMemory}
use Rattle.codex_top.specs.Limits.{most_text_bytes, most_input_bytes}
use Rattle.codex_top.specs.Outside.{Shelved, MayHave}
use Rattle.codex_top.specs.Refusals as refusals

-- the shelf's count of reads rose, or it tells its files and hasn't this one
abbrev pub IsUnreadable : List ℕ → Shelved → Shelved → Type 0
IsUnreadable file before now = Rose before.read_faults now.read_faults ⊎ Lacks before.files file

-- What a file is read as: what its bytes are; or the line of what is wrong with them; or the line
-- that tells why there are none.
pub data ReadAs {A : Type 0} (Is : List ℕ → A → Type 0) (IsWrong : List ℕ → Line → Type 0)
    (file : List ℕ) (before now : Shelved) : Result A Line → Type 0 where
  holds : (bytes : List ℕ) (it : A) → MayHave before.files file bytes → Is bytes it →
      ReadAs Is IsWrong file before now (Ok it)
  refused : (bytes : List ℕ) (line : Line) → MayHave before.files file bytes → IsWrong bytes line →
      ReadAs Is IsWrong file before now (Err line)
  unread : IsUnreadable file before now → ReadAs Is IsWrong file before now (Err ReadFault)
  no_memory : ReadAs Is IsWrong file before now (Err NoMemory)

-- a grid: the text has this program, which weighs no more than the text; or its first fault
pub record IsProgram (text : List ℕ) (program : Program) : Type 0 where
  pub reads : program_of text (Ok program)
  pub weighs : weight program ≤ length text

pub data IsNoProgram (text : List ℕ) : Line → Type 0 where
  faulty : (fault : TextFault) → program_of text (Err fault) →
      IsNoProgram text (refusals.grid_line fault)

-- a scroll: the bytes are those of these words of 32 bits; or they are too many, or no words
pub record IsScroll (bytes : List ℕ) (words : Vec ℕ Global) : Type 0 where
  pub of_words : bytes ≡ scroll words.items
  pub small : (at : ℕ) → slice_index words.items at < 2 ^ 32
  pub few : length bytes ≤ most_scroll_bytes

pub data IsNoScroll (bytes : List ℕ) : Line → Type 0 where
  too_long : most_scroll_bytes < length bytes → IsNoScroll bytes refusals.scroll_too_long
  ragged : length bytes ≤ most_scroll_bytes → length bytes % 4 ≢ 0 →
      IsNoScroll bytes (refusals.scroll_ragged (length bytes))

-- an assembly text: it has these words; or its fault, before which goes that it has too many bytes
pub record IsText (text : List ℕ) (words : Vec ℕ Global) : Type 0 where
  pub few : length text ≤ most_text_bytes
  pub assembles : assembled text ≡ Ok words.items

pub data IsNoText (text : List ℕ) : Line → Type 0 where
  too_long : most_text_bytes < length text → IsNoText text refusals.text_too_long
  faulty : (fault : AsmFault) → length text ≤ most_text_bytes → assembled text ≡ Err fault →
      IsNoText text (refusals.text_line fault)

-- the input of a scroll: any bytes; or they are too many
pub record IsInput (held : List ℕ) (bytes : Vec ℕ Global) : Type 0 where
  pub same : held ≡ bytes.items
  pub few : length held ≤ most_input_bytes

pub data IsNoInput (held : List ℕ) : Line → Type 0 where
  too_long : most_input_bytes < length held → IsNoInput held refusals.input_too_long

-- a sheet of types for a program: the text has these rows; or its first fault
abbrev pub IsSheetOf : (text : List ℕ) → List SheetRow → Type 0
IsSheetOf text rows = sheet_of text (Ok rows)

pub data IsNoSheet (P : Program) (text : List ℕ) : Line → Type 0 where
  faulty : (fault : SheetFault) → sheet_of text (Err fault) →
      IsNoSheet P text (refusals.sheet_line P fault)

-- an image: the bytes are that of this machine, which has taken so many bytes of its input; or they
-- are too many, or no image
pub record IsImageOf (bytes : List ℕ) (saved : MachineView × ℕ) : Type 0 where
  pub has : HasImage saved.0 saved.1
  pub same : image_of saved.0 saved.1 ≡ bytes

pub data IsNoImage (bytes : List ℕ) : Line → Type 0 where
  too_long : most_image_bytes < length bytes → IsNoImage bytes refusals.image_too_long
  bad : (begun : ℕ) → length bytes ≤ most_image_bytes → IsBadAt bytes begun →
      IsNoImage bytes (refusals.image_bad begun)

-- what a command's file is read as
abbrev pub ProgramRead : (file : List ℕ) (before now : Shelved) → Result Program Line → Type 0
ProgramRead = ReadAs IsProgram IsNoProgram

abbrev pub ScrollRead : (file : List ℕ) (before now : Shelved) → Result (Vec ℕ Global) Line → Type 0
ScrollRead = ReadAs IsScroll IsNoScroll

abbrev pub TextRead : (file : List ℕ) (before now : Shelved) → Result (Vec ℕ Global) Line → Type 0
TextRead = ReadAs IsText IsNoText

abbrev pub InputRead : (file : List ℕ) (before now : Shelved) → Result (Vec ℕ Global) Line → Type 0
InputRead = ReadAs IsInput IsNoInput

abbrev pub SheetRead :
    Program → (file : List ℕ) (before now : Shelved) → Result (List SheetRow) Line → Type 0
SheetRead P = ReadAs IsSheetOf (IsNoSheet P)

abbrev pub ImageRead :
    (file : List ℕ) (before now : Shelved) → Result (MachineView × ℕ) Line → Type 0
ImageRead = ReadAs IsImageOf IsNoImage
