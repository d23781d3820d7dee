use Rattle.two_d.proofs.TableLemmas.{GoesOnAt}
use Rattle.type_sheet.specs.Sheets.{uses_declared}
use Rattle.type_sheet.proofs.sheet.check_types.Given as goal

-- the rows so far use no type that isn't declared
abbrev pub invariant-loop-row : goal.invariant-loop-row
invariant-loop-row l = GoesOnAt (λ _. uses_declared l.rows) l.rows l.row-index
