use Rattle.asm_view.proofs.Short.{hint_short, more_short, plain_short, row_short}
use Rattle.asm_view.proofs.laws.rows_are_short.Goals as goal

pub returns-clause-row : goal.returns-clause-row
returns-clause-row c = row_short

pub returns-clause-more : goal.returns-clause-more
returns-clause-more c = more_short

pub returns-clause-plain : goal.returns-clause-plain
returns-clause-plain c = plain_short

pub returns-clause-hint : goal.returns-clause-hint
returns-clause-hint c = hint_short
