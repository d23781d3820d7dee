use Rattle.two_d.proofs.TableLemmas.{GoesOnAt}
use Rattle.type_sheet.specs.Fits.{module_fits}
use Rattle.type_sheet.proofs.fitting.check_rules.Given as goal

-- the modules so far fit
abbrev pub invariant-loop-number : goal.invariant-loop-number
invariant-loop-number l = GoesOnAt (module_fits l.declared.rows.now) l.program l.number
