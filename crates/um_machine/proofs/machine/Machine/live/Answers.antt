use Rattle.std.proofs.Common.{subst}
use Rattle.um_machine.specs.MachineView.{IsWhole}
use Rattle.um_machine.proofs.Whole.{whole_of}
use Rattle.um_machine.proofs.machine.Machine.live.Goals as goal

pub returns-clause-whole : goal.returns-clause-whole
returns-clause-whole c =
    subst IsWhole c.self.view_is (whole_of _ c.registers_fit.ensures.eight c.registers_fit.ensures.each c.finger_fits.ensures c.live.ensures.held)
