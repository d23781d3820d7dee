use Rattle.std.proofs.Common.{refl}
use Rattle.um_asm.proofs.Cuts.{operands-cut}
use Rattle.um_asm.proofs.reading.end_at.Goals as goal

pub returns-in-Some-clause-line : goal.returns-in-Some-clause-line
returns-in-Some-clause-line c = rw (c.in-Some.is, operands-cut c.in-Some.field-0.now) refl
