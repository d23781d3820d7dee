use Rattle.border_break.proofs.Closing.{box_closes, unbroken_box}
use Rattle.border_break.proofs.laws.closing_boxes_have_none.Goals as goal

pub returns-clause-none : goal.returns-clause-none
returns-clause-none c = box_closes

pub returns-clause-closes : goal.returns-clause-closes
returns-clause-closes c = unbroken_box
