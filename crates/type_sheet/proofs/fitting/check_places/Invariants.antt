use Rattle.two_d.proofs.TableLemmas.{GoesOnAt}
use Rattle.type_sheet.specs.declared.fault.SheetFault.TheVariants.{NoPlace}
use Rattle.type_sheet.specs.declared.line.SheetRow.{SheetRow}
use Rattle.type_sheet.specs.Fits.{has_place, want}
use Rattle.type_sheet.proofs.fitting.check_places.Given as goal

-- the lines so far have their places
abbrev pub invariant-loop-row : goal.invariant-loop-row
invariant-loop-row l = GoesOnAt (λ _ (row : SheetRow). want (NoPlace row.at) (has_place l.program row.line)) l.rows l.row-index
