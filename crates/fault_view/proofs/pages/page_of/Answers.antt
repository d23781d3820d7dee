use Rattle.fault_view.proofs.PageLemmas.{fault_named, fault_told, program_light, program_told}
use Rattle.fault_view.proofs.pages.page_of.Goals as goal

pub program_page-requires : goal.program_page-requires
program_page-requires c = program_light c.args.text.now c.in-Ok.program c.in-Ok.ensures.read c.in-Ok.ensures.weight

pub returns-in_ok-bytes-in-Ok : goal.returns-in_ok-bytes-in-Ok
returns-in_ok-bytes-in-Ok c = program_told c.args.text.now c.in-Ok.program c.in_ok-bytes-in-Ok.bytes.items c.in-Ok.ensures.read c.in_ok-bytes-in-Ok.ensures

pub name-name-requires : goal.name-name-requires
name-name-requires c = fault_named c.args.text.now c.in-Err.fault c.in-Bad.number c.in-Bad.place c.in-Bad.is c.in-Err.ensures.read

pub returns-in_ok-push_subject-in-Bad : goal.returns-in_ok-push_subject-in-Bad
returns-in_ok-push_subject-in-Bad c =
    fault_told c.args.text.now c.in-Err.fault c.in-Bad.number c.in-Bad.place c.name-name.result.now c.hint_at-hint.result.now c.in_ok-bytes-in-Bad.bytes.items _ _ _ _
    c.in-Bad.is c.in-Err.ensures.read c.name-name.ensures c.hint_at-hint.ensures c.border_at.ensures c.subject_at.ensures c.in_ok-bytes-in-Bad.ensures
    c.in_ok-push_break-in-Bad.ensures c.in_ok-push_subject-in-Bad.ensures
