use Rattle.std.specs.Option.{option_copied}
use Rattle.two_d.proofs.TableLemmas.{GoesOnAt}
use Rattle.type_sheet.specs.declared.fault.At.TheVariants.{Exit}
use Rattle.type_sheet.specs.declared.fault.SheetFault.TheVariants.{Mismatch}
use Rattle.type_sheet.specs.Fits.{wire_fits, want}
use Rattle.type_sheet.specs.inner.Carried.{types_in}
use Rattle.type_sheet.proofs.fitting.check_exits.Given as goal

-- the exits so far fit
abbrev pub invariant-loop-exit : goal.invariant-loop-exit
invariant-loop-exit l = GoesOnAt (λ j exit. want (Mismatch (Exit l.number j)) (wire_fits (types_in l.types) exit (option_copied l.kind))) l.exits l.exit
