use Rattle.um_word.proofs.Formed.{starts_are_formed, cycles_keep_form}
use Rattle.um_word.proofs.laws.states_are_formed.Goals as goal

pub returns-clause-start : goal.returns-clause-start
returns-clause-start c = starts_are_formed

pub returns-clause-cycle : goal.returns-clause-cycle
returns-clause-cycle c = cycles_keep_form
