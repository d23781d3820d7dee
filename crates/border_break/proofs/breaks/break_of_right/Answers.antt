use Rattle.border_break.specs.Breaks.{closed, right}
use Rattle.border_break.proofs.breaks.break_of_right.Goals as goal

pub returns-in-Some : goal.returns-in-Some
returns-in-Some c =
    rw c.broken.ensures (right c.args.right c.args.bottom c.in-Some.row c.requires c.in-Some.ensures)

pub returns-in-None : goal.returns-in-None
returns-in-None c = closed c.args.right c.args.bottom c.requires c.in-None.ensures
