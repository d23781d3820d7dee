-- What a call of `type` promises that is done.
use Rattle.std.proofs.Common.{◌≡◌, ℕ, List, refl, sym, ◌∙◌, inl, inr}
use Rattle.std.specs.Prelude.{Ok, Err}
use Rattle.two_d.specs.Program.{program_of}
use Rattle.two_d.specs.Programs.{Program}
use Rattle.type_sheet.specs.declared.line.SheetRow.{SheetRow}
use Rattle.type_sheet.specs.Safety.{IsSafe}
use Rattle.type_sheet.specs.Sheets.{sheet_of}
use Rattle.codex_top.specs.declared.line.Line.TheVariants as line
use Rattle.codex_top.specs.declared.end.Finish.TheVariants.{Done}
use Rattle.codex_top.specs.Calls.{Call, IsOfCodex}
use Rattle.codex_top.specs.Commands.{Begins, TypeEnds}
use Rattle.codex_top.specs.Commands as commands
use Rattle.codex_top.specs.Endings.{End}
use Rattle.codex_top.specs.Outside.{Outside, Stream}
use Rattle.codex_top.specs.Reading.{IsNoProgram, IsNoSheet, IsProgram, IsSheetOf, SheetRead}
use Rattle.codex_top.specs.TypeCommand.{FitTold, fits, unfit}
use Rattle.codex_top.specs.Typed.{DoneIsTyped, HasSheet, IsTyped}
use Rattle.codex_top.specs.Words as jobs
use Rattle.codex_top.proofs.Ended.{ended, read_as, told_done}

-- a program that was told to fit is safe
fit_safe : (P : Program) (rows : List SheetRow) (before now : Stream) (end : End) → end ≡ Ok Done → FitTold P rows before now end → IsSafe P rows
fit_safe P rows before now end done (fits _ fit safe sent) = safe
fit_safe P rows before now _ done (unfit fault bad same) = absurd (cc)

module _ (file text sheet lines : List ℕ) (o n : Outside) (has : HasSheet file text sheet lines o) where
  sheet_typed : (P : Program) → program_of text (Ok P) → (Untouched : Type 0) (before now : Stream) (end : End) → end ≡ Ok Done →
      Begins (SheetRead P sheet o.shelf n.shelf) Untouched (λ rows. FitTold P rows before now) end → IsTyped text lines
  sheet_typed P is Untouched before now _ done (commands.unread l read same) = absurd (cc)
  sheet_typed P is Untouched before now _ done (commands.no_memory same) = absurd (cc)
  sheet_typed P is Untouched before now end done (commands.works rows _ read told) = record {
    program = P;
    rows = rows;
    accepted = is;
    read = read_as IsSheetOf (IsNoSheet P) sheet lines o n has.sheet_there rows read;
    safe = fit_safe P rows before now end done told;
  }

  program_typed : (before now : Stream) (end : End) → end ≡ Ok Done → TypeEnds file sheet o.shelf n.shelf before now end → IsTyped text lines
  program_typed before now _ done (commands.unread l read same) = absurd (cc)
  program_typed before now _ done (commands.no_memory same) = absurd (cc)
  program_typed before now end done (commands.works P _ read more) =
      sheet_typed P (read_as IsProgram IsNoProgram file text o n has.program_there P read).reads (now ≡ before) before now end done more

pub done_is_typed : DoneIsTyped IsOfCodex
done_is_typed file text sheet lines c call asks has done =
    let e = ended (jobs.types file sheet) c call asks in
    let so : e.end ≡ Ok Done = told_done c.err_before c.err_now e.end c.status done e.told in
    elim e.ends [
      | inl ran ↦ program_typed file text sheet lines c.before c.now has c.before.streams.output c.now.streams.output e.end so ran.1
      | inr none ↦ let f : Err line.NoMemory ≡ Ok Done = sym none.0 ∙ so in absurd (cc)
    ]
