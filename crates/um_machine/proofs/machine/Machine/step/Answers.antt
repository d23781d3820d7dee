use Rattle.std.proofs.Common.{◌+◌, ◌-◌, sym}
use Rattle.um_machine.specs.inner.OperatorCalls.{placed}
use Rattle.um_machine.proofs.Placed.{row_failed}
use Rattle.um_machine.proofs.machine.Machine.step.Goals as goal

pub returns-in-Err-clause-row : goal.returns-in-Err-clause-row
returns-in-Err-clause-row g c cycles left may held holds =
    row_failed c.args.self.now (placed c.discharge.new.self c.discharge.new.finger (cycles + 1)) (placed c.discharge.new.self (c.discharge.new.finger - 1) (cycles + 1))
    c.args.finger.now cycles left held _ _ c.in-Some.word c.in-Some-decode.op c.in-Err.stop _ _
    (sym c.in-Some.ensures.value) (sym c.in-Some-decode.ensures.operator) (c.in-Err.ensures.row (cycles + 1) left may held holds)
