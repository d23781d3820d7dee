use Rattle.std.proofs.Common.{refl}
use Rattle.explain_top.specs.Explaining.{of_text, unread_text}
use Rattle.explain_top.proofs.top.show_listing.Goals as goal

pub returns-in-Ok : goal.returns-in-Ok
returns-in-Ok g c = of_text c.in-Ok.text c.list_text.result c.in-Ok.ensures (rw c.deref.ensures.value at c.list_text.ensures)

pub returns-in-Err : goal.returns-in-Err
returns-in-Err g c = unread_text c.in-Err.status c.in-Err.ensures refl
