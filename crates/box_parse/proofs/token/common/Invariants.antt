use Rattle.std.proofs.Common.{◌≡◌, ◌+◌, ◌-◌, drop, length}
use Rattle.two_d.proofs.Agree.{agree}
use Rattle.box_parse.proofs.token.common.Given as goal

abbrev pub invariant-loop-i : goal.invariant-loop-i
invariant-loop-i l = l.i + agree (drop l.i l.a) (drop l.i l.b) ≡ agree l.a l.b

abbrev pub decreases-loop-i : goal.decreases-loop-i
decreases-loop-i l = length l.a - l.i
