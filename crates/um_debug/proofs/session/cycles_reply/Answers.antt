use Rattle.std.proofs.Common.{◌∙◌, sym}
use Rattle.std.proofs.lemmas.Result.{err_from_is_err_and}
use Rattle.um_debug.specs.inner.Calls.{InputRose, OutputRose}
use Rattle.um_debug.proofs.Answering.{call_refused_memory, call_told, call_untold, call_cut}
use Rattle.um_debug.proofs.session.cycles_reply.Goals as goal

pub returns-in_err-unknown_reply-clause-ends : goal.returns-in_err-unknown_reply-clause-ends
returns-in_err-unknown_reply-clause-ends g c =
    let p = err_from_is_err_and c.from_residual.result c.from_residual.ensures.1 in
    rw (p.1, p.2) (call_refused_memory c.args.points.now c.args.cycles (InputRose g.I.Source c.args.input.now c.args.input.now)
    (OutputRose g.O.Sink c.args.out.now c.args.out.now) _ (sym c.may_make.ensures ∙ c.if-not-may_make.true))

pub returns-in_err-came-clause-ends : goal.returns-in_err-came-clause-ends
returns-in_err-came-clause-ends g c =
    let p = err_from_is_err_and c.from_residual-in_err-came.result c.from_residual-in_err-came.ensures.1 in
    rw (p.1, p.2) (call_cut c.args.points.now c.args.cycles (InputRose g.I.Source c.args.input.now c.go.new.input)
    (OutputRose g.O.Sink c.args.out.now c.go.new.out) _ _ (sym c.may_make.ensures ∙ c.if-not-may_make.false) c.in_err-came.field-0.0
    c.in_err-came.ensures.course)

pub returns-in_err-came_reply-clause-ends : goal.returns-in_err-came_reply-clause-ends
returns-in_err-came_reply-clause-ends g c =
    let p = err_from_is_err_and c.from_residual-in_err-came_reply.result c.from_residual-in_err-came_reply.ensures.1 in
    rw (p.1, p.2) (call_untold c.args.points.now c.args.cycles (InputRose g.I.Source c.args.input.now c.go.new.input)
    (OutputRose g.O.Sink c.args.out.now c.go.new.out) _ _ (sym c.may_make.ensures ∙ c.if-not-may_make.false) c.in_ok-came.came
    c.in_ok-came.ensures.course)

pub returns-clause-ends : goal.returns-clause-ends
returns-clause-ends g c =
    call_told c.args.points.now c.args.cycles (InputRose g.I.Source c.args.input.now c.go.new.input)
    (OutputRose g.O.Sink c.args.out.now c.go.new.out) _ _ (sym c.may_make.ensures ∙ c.if-not-may_make.false) c.in_ok-came.came
    c.in_ok-came_reply.field-0 c.in_ok-came_reply.ensures c.in_ok-came.ensures.course
