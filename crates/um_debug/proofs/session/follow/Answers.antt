use Rattle.std.proofs.Common.{◌++◌, codes, decimal, refl, sym}
use Rattle.std.specs.Prelude.{◌==◌}
use Rattle.std.proofs.lemmas.Result.{err_from_is_err_and}
use Rattle.um_debug.specs.declared.command.Command.TheVariants.{Registers, Words, Finger, Breakpoint, Watch}
use Rattle.um_debug.specs.Session.{toggled, is_place, most_breakpoints, most_watches}
use Rattle.um_debug.specs.inner.Calls.{InputRose, OutputRose}
use Rattle.um_debug.proofs.Answering.{call_stepped, call_gone, call_unsaid, toggle_keeps}
use Rattle.um_debug.proofs.session.follow.Goals as goal

pub returns-in-Step-clause-ends : goal.returns-in-Step-clause-ends
returns-in-Step-clause-ends g c =
    rw c.in-Step.is (call_stepped c.in-Step.cycles (InputRose g.I.Source c.args.input.now c.cycles_reply.new.input)
    (OutputRose g.O.Sink c.args.out.now c.cycles_reply.new.out) _ _ c.args.points.now c.cycles_reply.result
    (rw c.new-no_points.ensures at c.cycles_reply.ensures.ends))

pub returns-in-Go-clause-ends : goal.returns-in-Go-clause-ends
returns-in-Go-clause-ends g c =
    rw c.in-Go.is (call_gone c.in-Go.cycles (InputRose g.I.Source c.args.input.now c.cycles_reply-in-Go.new.input)
    (OutputRose g.O.Sink c.args.out.now c.cycles_reply-in-Go.new.out) _ _ c.args.points.now c.cycles_reply-in-Go.result
    c.cycles_reply-in-Go.ensures.ends)

pub returns-in_err-breakpoint_reply-in-Breakpoint-clause-ends : goal.returns-in_err-breakpoint_reply-in-Breakpoint-clause-ends
returns-in_err-breakpoint_reply-in-Breakpoint-clause-ends g c =
    let p = err_from_is_err_and c.from_residual.result c.from_residual.ensures.1 in
    rw (p.1, p.2, c.in-Breakpoint.is) (call_unsaid (Breakpoint c.in-Breakpoint.offset) (InputRose g.I.Source c.args.input.now c.args.input.now)
    (OutputRose g.O.Sink c.args.out.now c.args.out.now) _ c.args.points.now c.breakpoint_reply.new.points
    (λ s. let k = toggle_keeps (codes "b " ++ decimal c.in-Breakpoint.offset) s (λ xs. record s.points { breakpoints = xs })
    (toggled (λ other. other == c.in-Breakpoint.offset) most_breakpoints c.in-Breakpoint.offset s.points.breakpoints) in (sym k.0, sym k.1)))

pub returns-in_err-watch_reply-in-Watch-clause-ends : goal.returns-in_err-watch_reply-in-Watch-clause-ends
returns-in_err-watch_reply-in-Watch-clause-ends g c =
    let p = err_from_is_err_and c.from_residual-in_err-watch_reply-in-Watch.result c.from_residual-in_err-watch_reply-in-Watch.ensures.1 in
    rw (p.1, p.2, c.in-Watch.is) (call_unsaid (Watch c.in-Watch.place) (InputRose g.I.Source c.args.input.now c.args.input.now)
    (OutputRose g.O.Sink c.args.out.now c.args.out.now) _ c.args.points.now c.watch_reply.new.points
    (λ s. let k = toggle_keeps (codes "w " ++ decimal c.in-Watch.place.id ++ codes " " ++ decimal c.in-Watch.place.offset) s (λ xs. record s.points { watches = xs })
    (toggled (is_place c.in-Watch.place) most_watches c.in-Watch.place s.points.watches) in (sym k.0, sym k.1)))

pub returns-in_err-registers_reply-in-Registers-clause-ends : goal.returns-in_err-registers_reply-in-Registers-clause-ends
returns-in_err-registers_reply-in-Registers-clause-ends g c =
    let p = err_from_is_err_and c.from_residual-in_err-registers_reply-in-Registers.result c.from_residual-in_err-registers_reply-in-Registers.ensures.1 in
    rw (p.1, p.2, c.in-Registers.is) (call_unsaid Registers (InputRose g.I.Source c.args.input.now c.args.input.now)
    (OutputRose g.O.Sink c.args.out.now c.args.out.now) _ c.args.points.now c.args.points.now (λ s. (refl, refl)))

pub returns-in_err-words_reply-in-Words-clause-ends : goal.returns-in_err-words_reply-in-Words-clause-ends
returns-in_err-words_reply-in-Words-clause-ends g c =
    let p = err_from_is_err_and c.from_residual-in_err-words_reply-in-Words.result c.from_residual-in_err-words_reply-in-Words.ensures.1 in
    rw (p.1, p.2, c.in-Words.is) (call_unsaid (Words c.in-Words.place c.in-Words.count) (InputRose g.I.Source c.args.input.now c.args.input.now)
    (OutputRose g.O.Sink c.args.out.now c.args.out.now) _ c.args.points.now c.args.points.now (λ s. (refl, refl)))

pub returns-in_err-finger_reply-in-Finger-clause-ends : goal.returns-in_err-finger_reply-in-Finger-clause-ends
returns-in_err-finger_reply-in-Finger-clause-ends g c =
    let p = err_from_is_err_and c.from_residual-in_err-finger_reply-in-Finger.result c.from_residual-in_err-finger_reply-in-Finger.ensures.1 in
    rw (p.1, p.2, c.in-Finger.is) (call_unsaid Finger (InputRose g.I.Source c.args.input.now c.args.input.now)
    (OutputRose g.O.Sink c.args.out.now c.args.out.now) _ c.args.points.now c.args.points.now (λ s. (refl, refl)))
