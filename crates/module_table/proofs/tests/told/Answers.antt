-- The number of a refusal stands in the table.
use Rattle.module_table.proofs.WholeReading.{number_named}
use Rattle.module_table.proofs.tests.told.Goals as goal

pub name-name-requires : goal.name-name-requires
name-name-requires c = number_named c.args.bytes.now c.in-Err.fault c.in-Bad.number c.in-Bad.place c.in-Bad.is c.in-Err.ensures.read
