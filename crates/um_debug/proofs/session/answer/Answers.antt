use Rattle.std.proofs.lemmas.Result.{err_from_is_err_and}
use Rattle.um_debug.specs.inner.Calls.{InputRose, OutputRose}
use Rattle.um_debug.proofs.Obeying.{may_ask, call_known, call_unknown, call_unknown_untold}
use Rattle.um_debug.proofs.session.answer.Goals as goal

pub follow-requires : goal.follow-requires
follow-requires g c = may_ask c.args.line.now c.in-Some.command c.in-Some.ensures

pub returns-in-Some-clause-ends : goal.returns-in-Some-clause-ends
returns-in-Some-clause-ends g c =
    call_known c.args.line.now (InputRose g.I.Source c.args.input.now c.follow.new.input) (OutputRose g.O.Sink c.args.out.now c.follow.new.out)
    _ _ c.args.points.now c.follow.new.points c.in-Some.command c.in-Some.ensures c.follow.result c.follow.ensures.ends

pub returns-in_err-unknown_reply-in-None-clause-ends : goal.returns-in_err-unknown_reply-in-None-clause-ends
returns-in_err-unknown_reply-in-None-clause-ends g c =
    let p = err_from_is_err_and c.from_residual.result c.from_residual.ensures.1 in
    rw (p.1, p.2) (call_unknown_untold c.args.line.now (InputRose g.I.Source c.args.input.now c.args.input.now)
    (OutputRose g.O.Sink c.args.out.now c.args.out.now) _ c.args.points.now c.in-None.ensures)

pub returns-in_ok-unknown_reply-in-None-clause-ends : goal.returns-in_ok-unknown_reply-in-None-clause-ends
returns-in_ok-unknown_reply-in-None-clause-ends g c =
    call_unknown c.args.line.now (InputRose g.I.Source c.args.input.now c.args.input.now)
    (OutputRose g.O.Sink c.args.out.now c.args.out.now) _ c.args.points.now c.in-None.ensures c.in_ok-unknown_reply-in-None.field-0 c.in_ok-unknown_reply-in-None.ensures
