use Rattle.std.proofs.Common.{refl}
use Rattle.um_asm.proofs.Cuts.{operands-cut}
use Rattle.um_asm.proofs.reading.operator_at.Goals as goal

pub returns-in-Some-clause-statement : goal.returns-in-Some-clause-statement
returns-in-Some-clause-statement c = rw (c.in-Halt.is, c.in-Some.is, operands-cut c.in-Some.field-0.now) refl
