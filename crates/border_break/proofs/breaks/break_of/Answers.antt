use Rattle.std.proofs.Common.{arith}
use Rattle.border_break.specs.Breaks.{left, no_corner, top}
use Rattle.border_break.proofs.breaks.break_of.Goals as goal

pub returns-then-cell-upper_corner : goal.returns-then-cell-upper_corner
returns-then-cell-upper_corner c =
    no_corner (λ same. omega (arith, c.if-cell-upper_corner.true, c.cell.ensures.byte, c.upper_corner.ensures, same))

pub returns-then-byte_at-upper_corner : goal.returns-then-byte_at-upper_corner
returns-then-byte_at-upper_corner c =
    rw c.broken.ensures (top c.end_of_top-right.result
    (omega (arith, c.if-cell-upper_corner.false, c.cell.ensures.byte, c.upper_corner.ensures)) c.end_of_top-right.ensures
    (λ same. omega (arith, c.if-byte_at-upper_corner.true, c.byte_at.ensures.byte, c.upper_corner-2.ensures, same)))

pub returns-then-byte_at-lower_corner : goal.returns-then-byte_at-lower_corner
returns-then-byte_at-lower_corner c =
    rw c.broken-then-byte_at-lower_corner.ensures (left c.end_of_top-right.result c.end_of_left-bottom.result
    (record {
      from = omega (arith, c.if-cell-upper_corner.false, c.cell.ensures.byte, c.upper_corner.ensures);
      top = c.end_of_top-right.ensures;
      to = omega (arith, c.if-byte_at-upper_corner.false, c.byte_at.ensures.byte, c.upper_corner-2.ensures);
    }) c.end_of_left-bottom.ensures
    (λ same. omega (arith, c.if-byte_at-lower_corner.true, c.byte_at-2.ensures.byte, c.lower_corner.ensures, same)))
