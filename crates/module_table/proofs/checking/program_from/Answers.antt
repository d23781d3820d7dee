-- The table of the modules, told by places.
use Rattle.std.proofs.Common.{sym, subst}
use Rattle.two_d.specs.inner.TableFaults.{wrong_of}
use Rattle.module_table.specs.Answers.{answer_of}
use Rattle.module_table.specs.Drawn.{AreCorners}
use Rattle.module_table.proofs.ModuleAt.{table_gave, table_refused}
use Rattle.module_table.proofs.checking.program_from.Goals as goal

pub returns-in-Ok : goal.returns-in-Ok
returns-in-Ok c = λ read are. table_gave c.args.drawn.modules.items read c.in-Ok.program are.shapes c.in-Ok.ensures

pub returns : goal.returns
returns c = λ read are.
    table_refused c.args.drawn.modules.items read (wrong_of c.in-Err.fault) (answer_of c.placed.result) are.shapes
    (c.placed.ensures read (subst (λ l. AreCorners l read) (sym c.deref.ensures.value) are.corners)) c.in-Err.ensures
