-- The refusals of a list of modules as what is wrong with it.
use Rattle.std.specs.Prelude.{Option, Some, None}
use Rattle.two_d.specs.Table as wrong
use Rattle.two_d.specs.Table.{Wrong}
use Rattle.two_d.specs.declared.table.TableFault.{TableFault}
use Rattle.two_d.specs.declared.table.TableFault.TheVariants.{SameName, NoMain, MainHasInput}
use Rattle.two_d.specs.declared.table.TableFault.TheVariants.{NoModule, BadInputs, Unwired, Cycle}
use Rattle.two_d.specs.declared.table.TableFault.TheVariants.{Memory}

-- what is wrong by a refusal; want of memory is nothing
abbrev pub wrong_of : TableFault → Option Wrong
wrong_of (SameName m) = Some (wrong.same_name m)
wrong_of NoMain = Some wrong.no_main
wrong_of (MainHasInput m) = Some (wrong.main_has_input m)
wrong_of (NoModule m b) = Some (wrong.no_module m b)
wrong_of (BadInputs m b) = Some (wrong.bad_inputs m b)
wrong_of (Unwired m b) = Some (wrong.unwired m b)
wrong_of (Cycle m b) = Some (wrong.cycle m b)
wrong_of Memory = None
