use Rattle.std.proofs.Common.{refl}
use Rattle.std.proofs.lemmas.Result.{err_from_is_err_and}
use Rattle.fire_eval.specs.Evaluation.{choice_of}
use Rattle.codex_top.specs.Commands.{unread, no_memory, works}
use Rattle.codex_top.proofs.Reports.{traced, trace_cut, printed_whole}
use Rattle.codex_top.proofs.Turns.{ready_events}
use Rattle.codex_top.proofs.trace.trace.Goals as goal

pub returns-in_err-program-clause-ends : goal.returns-in_err-program-clause-ends
returns-in_err-program-clause-ends g c =
    let p = err_from_is_err_and c.from_residual.result c.from_residual.ensures.1 in
    rw (p.1, p.2) (unread c.in_err-program.field-0.0 c.in_err-program.ensures.read refl)

pub returns-in_err-report-clause-ends : goal.returns-in_err-report-clause-ends
returns-in_err-report-clause-ends g c =
    let p = err_from_is_err_and c.from_residual-in_err-report.result c.from_residual-in_err-report.ensures.1 in
    rw (p.1, p.2) (no_memory refl)

pub put_events-requires : goal.put_events-requires
put_events-requires g c = rw (c.deref.ensures.value, c.in_ok-report.ensures.log) (ready_events c.in_ok-program.program (choice_of c.args.picks.now) c.args.events)

pub returns-in_err-put_events-clause-ends : goal.returns-in_err-put_events-clause-ends
returns-in_err-put_events-clause-ends g c =
    let p = err_from_is_err_and c.from_residual-in_err-put_events.result c.from_residual-in_err-put_events.ensures.1 in
    rw (p.1, p.2) (works c.in_ok-program.program _ c.in_ok-program.ensures.read
    (trace_cut (choice_of c.args.picks.now) c.args.events c.in_ok-program.program c.in_ok-report.report c.in_ok-report.report.outcome c.in_ok-report.ensures.report _ _ c.in_err-put_events.field-0.0
    (rw (c.deref.ensures.value, c.in_ok-report.ensures.log) at c.in_err-put_events.ensures.printed)))

pub returns-clause-ends : goal.returns-clause-ends
returns-clause-ends g c =
    works c.in_ok-program.program c.tell_outcome.result c.in_ok-program.ensures.read
    (traced (choice_of c.args.picks.now) c.args.events c.in_ok-program.program _ _ _ c.tell_outcome.result c.in_ok-put_events.ensures.counted.later
    (printed_whole _ _ _ _ tt refl (rw (c.deref.ensures.value, c.in_ok-report.ensures.log) at c.in_ok-put_events.ensures.printed))
    c.tell_outcome.ensures.ends)
