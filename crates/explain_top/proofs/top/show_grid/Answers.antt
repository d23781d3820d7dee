use Rattle.std.proofs.Common.{refl}
use Rattle.explain_top.specs.Explaining.{of_drawing, no_text}
use Rattle.explain_top.proofs.top.show_grid.Goals as goal

pub returns-in-Ok : goal.returns-in-Ok
returns-in-Ok g c = of_drawing c.in-Ok.text c.show_drawing.result c.in-Ok.ensures (rw c.deref.ensures.value at c.show_drawing.ensures)

pub returns-in-Err : goal.returns-in-Err
returns-in-Err g c = no_text c.in-Err.status c.in-Err.ensures refl
