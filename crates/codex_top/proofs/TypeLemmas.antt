-- What `type` tells of the bytes that were read of a sheet, and of a program that doesn't fit.
use Rattle.std.proofs.Common.{◌≡◌, ◌≤◌, ◌<◌, ◌⊎◌, ℕ, List, length, refl, sym, subst, inl, inr}
use Rattle.std.specs.Prelude.{Result, Ok, Err}
use Rattle.std.proofs.lemmas.Bool.{cases_lt}
use Rattle.two_d.specs.Programs.{Program}
use Rattle.two_d.specs.Reading.{Reading, goes_on, stops, refused, passed, Refuses}
use Rattle.type_sheet.specs.declared.fault.SheetFault.{SheetFault}
use Rattle.type_sheet.specs.declared.fault.SheetFault.TheVariants.{TooLong, Memory}
use Rattle.type_sheet.specs.declared.line.SheetRow.{SheetRow}
use Rattle.type_sheet.specs.Fits.{fits_of, TellsPlace}
use Rattle.type_sheet.specs.Sheets.{fault_of, most_sheet_bytes, sheet_of}
use Rattle.codex_top.specs.declared.line.Line.{Line}
use Rattle.codex_top.specs.declared.line.Line.TheVariants.{NoMemory}
use Rattle.codex_top.specs.Commands.{Begins, no_memory, works}
use Rattle.codex_top.specs.Outside.{Shelved, Stream}
use Rattle.codex_top.specs.Reading.{SheetRead}
use Rattle.codex_top.specs.Reading as reading
use Rattle.codex_top.specs.Refusals.{sheet_line}
use Rattle.codex_top.specs.TypeCommand.{FitTold, unfit}
use Rattle.codex_top.proofs.FileLemmas.{Seen}

-- a text with rows isn't too long
sheet_fits : (text : List ℕ) (rows : List SheetRow) → sheet_of text (Ok rows) → length text ≤ most_sheet_bytes
sheet_fits text rows (goes_on u (passed short) rest) =
    elim (cases_lt most_sheet_bytes (length text)) [ inl over ↦ absurd (short over) | inr fits ↦ fits ]

-- a text that is too long has this fault alone
sheet_over : (text : List ℕ) (f : SheetFault) → most_sheet_bytes < length text → sheet_of text (Err f) → f ≡ TooLong
sheet_over text f over (goes_on u (passed short) rest) = absurd (short over)
sheet_over text _ over (stops _ (refused is)) = refl

is_over : (text : List ℕ) → most_sheet_bytes < length text → sheet_of text (Err TooLong)
is_over text over = stops TooLong (refused over)

-- where there is a fault, the place that it tells is there
pub place_told : (P : Program) {A : Type 0} (m : Reading SheetFault A) → ((f : SheetFault) → m (Err f) → TellsPlace P f) →
    (fault : SheetFault) → Refuses m (fault_of fault) → TellsPlace P fault
place_told P m told Memory refuses = tt
place_told P m told fault refuses = told fault refuses

module _ (P : Program) (file : List ℕ) (before now : Shelved) (bytes : List ℕ) (s : Seen before.files file most_sheet_bytes bytes) where
  -- the rows of the bytes that were read are those of the file
  pub sheet_read : (rows : List SheetRow) → sheet_of bytes (Ok rows) → SheetRead P file before now (Ok rows)
  sheet_read rows is =
      reading.holds s.held rows s.has (subst (λ text. sheet_of text (Ok rows)) (sym (s.whole (sheet_fits bytes rows is))) is)

  sheet_refused : (f : SheetFault) → sheet_of bytes (Err f) → SheetRead P file before now (Err (sheet_line P f))
  sheet_refused f is = elim (cases_lt most_sheet_bytes (length bytes)) [
    | inl over ↦ rw (sheet_over bytes f over is) (reading.refused s.held _ s.has (reading.faulty TooLong (is_over s.held (s.over over))))
    | inr fits ↦ reading.refused s.held _ s.has (reading.faulty f (subst (λ text. sheet_of text (Err f)) (sym (s.whole fits)) is))
  ]

  pub sheet_told : (fault : SheetFault) (line : Line) → Refuses (sheet_of bytes) (fault_of fault) →
      (line ≡ NoMemory) ⊎ (line ≡ sheet_line P fault) → SheetRead P file before now (Err line)
  sheet_told fault line refuses (inl none) = rw none reading.no_memory
  sheet_told Memory line refuses (inr e) = rw e reading.no_memory
  sheet_told fault line refuses (inr e) = rw e (sheet_refused fault refuses)

-- how `type` ends where the program doesn't fit the sheet that was read
pub unfit_told : (Read : Result (List SheetRow) Line → Type 0) (P : Program) (rows : List SheetRow) (s : Stream) (fault : SheetFault) (line : Line) →
    Read (Ok rows) → Refuses (fits_of P rows) (fault_of fault) → (line ≡ NoMemory) ⊎ (line ≡ sheet_line P fault) →
    Begins Read (s ≡ s) (λ rows. FitTold P rows s s) (Err line)
unfit_told Read P rows s fault line read refuses (inl none) = rw none (no_memory refl)
unfit_told Read P rows s Memory line read refuses (inr e) = rw e (no_memory refl)
unfit_told Read P rows s fault line read refuses (inr e) = rw e (works rows _ read (unfit fault refuses refl))
