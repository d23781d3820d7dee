-- The number of a name is that of its module.
use Rattle.two_d.specs.inner.NameLists.{listed}
use Rattle.two_d.specs.Programs.{modules_of}
use Rattle.two_d.proofs.TableLemmas.{found_as}
use Rattle.two_d.proofs.table.find_in.Goals as goal

pub returns : goal.returns
returns c = found_as (modules_of c.args.modules.now) (listed c.args.names.now) c.args.name.now c.requires c.number_of.result c.number_of.ensures.number c.number_of.ensures.there
