use Rattle.std.proofs.Common.{refl}
use Rattle.um_asm.proofs.Cuts.{operands-cut}
use Rattle.um_asm.proofs.reading.one_operand.Goals as goal

pub returns-in-Some : goal.returns-in-Some
returns-in-Some c =
    rw (c.in_ok-operands.was, c.first_operand.ensures, c.in-Some.is, operands-cut c.in-Some.field-0.now) refl
