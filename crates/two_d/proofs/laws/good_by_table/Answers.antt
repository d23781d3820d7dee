use Rattle.two_d.proofs.GoodTable.{table_of_good, good_of_table, table-one}
use Rattle.two_d.proofs.SomeTable.{table_some}
use Rattle.two_d.proofs.laws.good_by_table.Goals as goal

pub returns-clause-good : goal.returns-clause-good
returns-clause-good c = λ P few sound. (good_of_table P few sound, table_of_good P)

pub returns-clause-one : goal.returns-clause-one
returns-clause-one c = table-one

pub returns-clause-some : goal.returns-clause-some
returns-clause-some c = table_some
