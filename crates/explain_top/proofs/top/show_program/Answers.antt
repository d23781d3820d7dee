use Rattle.std.proofs.Common.{refl, sym, ◌∙◌}
use Rattle.explain_top.specs.Explaining.{of_fault, of_program, unshown}
use Rattle.explain_top.proofs.top.show_program.Goals as goal

pub returns-in-Some : goal.returns-in-Some
returns-in-Some g c =
    of_program c.in-Ok.page.answer c.in-Ok.page.bytes.items c.in-Some.status c.send.result c.in-Ok.ensures (sym c.ending_of.ensures ∙ c.in-Some.is)
    (rw c.deref.ensures.value at c.send.ensures)

pub returns-in-Ok : goal.returns-in-Ok
returns-in-Ok g c =
    of_fault c.in-Ok.page.answer c.in-Ok.page.bytes.items c.show_drawing.result c.in-Ok.ensures (sym c.ending_of.ensures ∙ c.in-None.is) c.show_drawing.ensures

pub returns : goal.returns
returns g c = unshown refl
