use Rattle.std.proofs.Common.{ap, refl}
use Rattle.std.specs.Prelude.{Ok, Err}
use Rattle.fault_view.specs.declared.page.Answer.TheVariants as answer
use Rattle.fault_view.specs.declared.page.PageFault.TheVariants as none
use Rattle.explain_top.specs.Explaining.{program, fault, begun, no_page}
use Rattle.explain_top.proofs.Pages.{page_for}
use Rattle.explain_top.proofs.top.show_drawing.Goals as goal

pub returns-in-Ok-Program : goal.returns-in-Ok-Program
returns-in-Ok-Program g c =
    program (page_for c.args.text.now c.args.text.now _ _ (Ok c.in-Ok-Program.field-0) (Ok answer.Program)
    refl (ap Ok c.in-Ok-Program.field-0-is) c.in-Ok-Program.ensures.page)

pub returns-in-Ok-Refused : goal.returns-in-Ok-Refused
returns-in-Ok-Refused g c =
    fault (page_for c.args.text.now c.args.text.now _ _ (Ok c.in-Ok-Refused.field-0) (Ok answer.Refused)
    refl (ap Ok c.in-Ok-Refused.field-0-is) c.in-Ok-Refused.ensures.page)

pub returns-in-Err-Failed : goal.returns-in-Err-Failed
returns-in-Err-Failed g c =
    begun (page_for c.args.text.now c.args.text.now _ _ (Err c.in-Err-Failed.field-0) (Err none.Failed)
    refl (ap Err c.in-Err-Failed.field-0-is) c.in-Err-Failed.ensures.page)
    (c.in-Err-Failed.ensures.cause.rose (ap Err c.in-Err-Failed.field-0-is))

pub returns-in-Err-Memory : goal.returns-in-Err-Memory
returns-in-Err-Memory g c =
    no_page (page_for c.args.text.now c.args.text.now _ _ (Err c.in-Err-Memory.field-0) (Err none.Memory)
    refl (ap Err c.in-Err-Memory.field-0-is) c.in-Err-Memory.ensures.page)
