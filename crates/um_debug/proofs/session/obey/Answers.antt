use Rattle.std.proofs.Common.{refl}
use Rattle.um_machine.proofs.Rests.{rose_later}
use Rattle.um_debug.specs.inner.Calls.{InputRose, OutputRose}
use Rattle.um_debug.proofs.Obeying.{call_obeyed, call_cut_off}
use Rattle.um_debug.proofs.session.obey.Goals as goal

pub returns-in-Ok-clause-ends : goal.returns-in-Ok-clause-ends
returns-in-Ok-clause-ends g c =
    call_obeyed c.args.line.now (InputRose g.I.Source c.args.input.now c.answer.new.input) (OutputRose g.O.Sink c.args.out.now c.answer.new.out)
    _ _ c.args.points.now c.answer.new.points c.in_ok-reply.reply (g.O.Sink.written c.put.new.self) c.in_ok-reply.ensures.ends
    c.deref.result.now c.deref.ensures.value c.in-Ok.ensures.appended

pub returns-clause-ends : goal.returns-clause-ends
returns-clause-ends g c =
    call_cut_off c.args.line.now (InputRose g.I.Source c.args.input.now c.answer.new.input) (OutputRose g.O.Sink c.args.out.now c.put.new.self)
    _ _ c.args.points.now c.answer.new.points c.in_ok-reply.reply (g.O.Sink.written c.put.new.self) c.in_ok-reply.ensures.ends
    c.deref.result.now c.deref.ensures.value
    (rose_later _ _ _ c.in_ok-reply.ensures.out.later (c.in-Err.ensures.cause.rose refl)) c.in-Err.ensures.appended
