use Rattle.std.proofs.Common.{◌+◌, ◌*◌}
use Rattle.box_parse.proofs.reader.Reader.+expression.Given as goal

abbrev pub decreases-expression : goal.decreases-expression
decreases-expression l = 4 * l.levels + 1

abbrev pub decreases-tail : goal.decreases-tail
decreases-tail l = 4 * l.levels

abbrev pub decreases-inside : goal.decreases-inside
decreases-inside l = 4 * l.levels + 3

abbrev pub decreases-ended : goal.decreases-ended
decreases-ended l = 4 * l.levels + 2
