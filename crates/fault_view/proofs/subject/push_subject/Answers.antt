use Rattle.std.proofs.Common.{[], sym, subst}
use Rattle.std.proofs.lemmas.List.{append-nil}
use Rattle.two_d.specs.Faults.{number_and_place}
use Rattle.two_d.specs.Reading.{Refuses, faults_mapped}
use Rattle.module_table.specs.Answers.{answer_of}
use Rattle.module_table.specs.Drawn.{drawn_of}
use Rattle.module_table.specs.declared.fault.CheckFault.{CheckFault}
use Rattle.module_table.proofs.Telling.{told_err}
use Rattle.fault_view.specs.Subjects.{no_modules, no_subject, of_modules}
use Rattle.fault_view.proofs.Named.{on_ok}
use Rattle.fault_view.proofs.subject.push_subject.Goals as goal

pub returns-in_default : goal.returns-in_default
returns-in_default c = rw c.in_default.is ([], no_subject, sym (append-nil c.args.page.now.items))

pub returns-in-Ok : goal.returns-in-Ok
returns-in-Ok c =
    let (ds, read, are) = c.in-Ok.ensures.read in
    rw c.in-Some.is (on_ok c.push_told.result (λ (told, tells, added). (told, of_modules c.in-Some.subject ds told read tells, added)) (c.push_told.ensures ds are))

pub returns-in-Err-Bad : goal.returns-in-Err-Bad
returns-in-Err-Bad c =
    let text = c.args.text.now in
    let (f, is, told) = told_err number_and_place (drawn_of text) (c.in-Err-Bad.field-0-0, c.in-Err-Bad.field-0-1)
    (subst (λ (e : CheckFault). Refuses (faults_mapped number_and_place (drawn_of text)) (answer_of e)) c.in-Err-Bad.field-0-is c.in-Err-Bad.ensures.read) in
    rw c.in-Some.is ([], no_modules c.in-Some.subject f is, sym (append-nil c.args.page.now.items))
