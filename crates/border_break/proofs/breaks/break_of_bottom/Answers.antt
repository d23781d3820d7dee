use Rattle.std.proofs.Common.{arith}
use Rattle.border_break.specs.Breaks.{bottom, last_corner}
use Rattle.border_break.proofs.breaks.break_of_bottom.Goals as goal

pub returns-in-Some : goal.returns-in-Some
returns-in-Some c =
    rw c.broken.ensures (bottom c.args.right c.args.bottom c.in-Some.col c.requires c.in-Some.ensures)

pub returns-then-byte_at-lower_corner : goal.returns-then-byte_at-lower_corner
returns-then-byte_at-lower_corner c =
    rw c.broken-then-byte_at-lower_corner.ensures (last_corner c.args.right c.args.bottom c.requires c.in_default.ensures
    (λ same. omega (arith, c.if-byte_at-lower_corner.true, c.byte_at.ensures.byte, c.lower_corner.ensures, same)))
