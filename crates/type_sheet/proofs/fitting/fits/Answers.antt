use Rattle.std.specs.Prelude.{OnOk, Result, Ok, Err, List}
use Rattle.std.proofs.Common.{◌∙◌, subst}
use Rattle.two_d.specs.Good.{IsGood}
use Rattle.two_d.specs.Programs.{Program}
use Rattle.two_d.specs.Reading.{Gives}
use Rattle.type_sheet.specs.declared.fault.SheetFault.{SheetFault}
use Rattle.type_sheet.specs.declared.line.SheetRow.{SheetRow}
use Rattle.type_sheet.specs.Sheets.{fault_of}
use Rattle.type_sheet.specs.Fits.{fits_of}
use Rattle.type_sheet.specs.Safety.{IsSafe}
use Rattle.type_sheet.proofs.Safe.{safe}
use Rattle.type_sheet.proofs.fitting.fits.Goals as goal

safe-ok : (P : Program) (rows : List SheetRow) → IsGood P → (r : Result (Unit {0}) SheetFault) → Gives (λ _. tt) fault_of r (fits_of P rows) → OnOk r (IsSafe P rows)
safe-ok P rows good (Ok x) h = safe P rows good h
safe-ok P rows good (Err e) h = tt

pub returns-clause-read : goal.returns-clause-read
returns-clause-read c =
    subst (λ (rows : List SheetRow). Gives (λ _. tt) fault_of c.fits_rows.result (fits_of c.args.program.now rows)) (c.deref.ensures.value ∙ c.rows.ensures.rows) c.fits_rows.ensures.read

pub returns-clause-safe : goal.returns-clause-safe
returns-clause-safe c =
    safe-ok c.args.program.now c.args.sheet.now c.fits_rows.ensures.good c.fits_rows.result
    (subst (λ (rows : List SheetRow). Gives (λ _. tt) fault_of c.fits_rows.result (fits_of c.args.program.now rows)) (c.deref.ensures.value ∙ c.rows.ensures.rows) c.fits_rows.ensures.read)
