use Rattle.std.proofs.Common.{◌∙◌, arith, ap, length}
use Rattle.std.proofs.lemmas.List.{length-map}
use Rattle.std.proofs.lemmas.Iterator.Consumers.{YieldsList-end}
use Rattle.std.proofs.lemmas.Iterator.Splits.{YieldsList-from_lines}
use Rattle.grid_reader.proofs.LineCount.{length-lines-le}
use Rattle.grid_reader.proofs.grid.lines_of.Goals as goal

all_lines : goal.returns-clause-lines
all_lines c =
    c.loop-line.invariant ∙ (YieldsList-end (YieldsList-from_lines c.args.text.now cc) c.loop-line.yielded _ c.loop-line.yielded_by _ _ c.in-None.is c.next.ensures.steps).0

pub returns-clause-lines : goal.returns-clause-lines
returns-clause-lines c = all_lines c

pub returns-clause-few : goal.returns-clause-few
returns-clause-few c =
    omega (arith, ap length (all_lines c), length-map c.loop-line.lines.items (λ line. line.items), length-lines-le c.args.text.now)
