use Rattle.std.proofs.Common.{refl}
use Rattle.explain_top.specs.Explaining.{of_file, unread_file}
use Rattle.explain_top.proofs.top.show_stuck.Goals as goal

pub returns-in-Ok : goal.returns-in-Ok
returns-in-Ok g c = of_file c.in-Ok.text c.show_program.result c.in-Ok.ensures (rw c.deref.ensures.value at c.show_program.ensures)

pub returns-in-Err : goal.returns-in-Err
returns-in-Err g c = unread_file c.in-Err.status c.in-Err.ensures refl
