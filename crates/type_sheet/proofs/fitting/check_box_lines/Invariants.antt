use Rattle.two_d.proofs.TableLemmas.{GoesOnAt}
use Rattle.two_d.specs.Programs.{module_of}
use Rattle.type_sheet.specs.declared.fault.At.TheVariants.{Bx}
use Rattle.type_sheet.specs.declared.fault.SheetFault.TheVariants.{NoLine}
use Rattle.type_sheet.specs.Fits.{has_lines, want}
use Rattle.type_sheet.proofs.fitting.check_box_lines.Given as goal

-- the lines of the boxes so far are there
abbrev pub invariant-loop-bx : goal.invariant-loop-bx
invariant-loop-bx l = GoesOnAt (λ b _. want (NoLine (Bx l.number b)) (has_lines l.declared.rows.now (module_of l.module) b)) l.boxes l.bx
