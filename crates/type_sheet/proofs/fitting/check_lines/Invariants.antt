use Rattle.two_d.specs.Programs.{modules_of}
use Rattle.two_d.proofs.TableLemmas.{GoesOnAt}
use Rattle.type_sheet.specs.Fits.{lines_there}
use Rattle.type_sheet.proofs.fitting.check_lines.Given as goal

-- the lines of the modules so far are there
abbrev pub invariant-loop-number : goal.invariant-loop-number
invariant-loop-number l = GoesOnAt (lines_there l.declared.rows.now) (modules_of l.modules) l.number
