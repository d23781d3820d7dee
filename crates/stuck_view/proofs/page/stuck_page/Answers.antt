use Rattle.std.proofs.Common.{List, subst, sym}
use Rattle.two_d.specs.Faults.{number_and_place}
use Rattle.two_d.specs.Programs.{modules_of}
use Rattle.two_d.specs.Reading.{Refuses, faults_mapped}
use Rattle.two_d.specs.Table.{table_of}
use Rattle.module_table.specs.Answers.{answer_of}
use Rattle.module_table.specs.Drawn.{AreCorners, drawn_of}
use Rattle.module_table.specs.declared.corners.Corners.{Corners}
use Rattle.module_table.specs.declared.fault.CheckFault.{CheckFault}
use Rattle.module_table.proofs.FirstRead.{drawn_refused}
use Rattle.module_table.proofs.Telling.{told_err}
use Rattle.stuck_view.specs.Pages.{of_fault}
use Rattle.stuck_view.proofs.Read.{made, page_whole, refused_list, wrong_told}
use Rattle.stuck_view.proofs.page.stuck_page.Goals as goal

pub returns-in-Err-Bad : goal.returns-in-Err-Bad
returns-in-Err-Bad c =
    let text = c.args.text.now in
    let (f, is, told) = told_err number_and_place (drawn_of text) (c.in-Err-Bad.field-0-0, c.in-Err-Bad.field-0-1)
    (subst (λ (e : CheckFault). Refuses (faults_mapped number_and_place (drawn_of text)) (answer_of e)) c.in-Err-Bad.field-0-is c.in-Err-Bad.ensures.read) in
    rw (c.no_page.ensures.answer, c.no_page.ensures.bytes) (of_fault f (drawn_refused text f is))

pub returns-in-Ok-good_program : goal.returns-in-Ok-good_program
returns-in-Ok-good_program c =
    let (ds, read, are) = c.in-Ok.ensures.read in
    let P = c.in-Ok-good_program.program in
    page_whole c.args.text.now ds P c.program_page.result read
    (made c.args.text.now ds (modules_of c.in-Ok.drawn.modules.items) P read are.shapes c.in-Ok-good_program.ensures)
    (c.program_page.ensures ds (subst (λ (l : List Corners). AreCorners l ds) (sym c.deref.ensures.value) are.corners))

pub returns-in_default : goal.returns-in_default
returns-in_default c =
    let (ds, read, are) = c.in-Ok.ensures.read in
    let modules = modules_of c.in-Ok.drawn.modules.items in
    let (w, wrong) = wrong_told (table_of modules) c.in-Err.fault c.in_default.not-Memory c.in-Err.ensures in
    rw (c.no_page-in_default.ensures.answer, c.no_page-in_default.ensures.bytes) (of_fault _ (refused_list c.args.text.now ds modules w read are.shapes wrong))
