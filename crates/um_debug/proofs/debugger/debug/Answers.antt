use Rattle.std.proofs.Common.{◌<◌, [], ◌∷◌, ◌++◌, refl, sym, ap, ◌∙◌, subst, inl, inr, arith}
use Rattle.std.specs.Prelude.{Err}
use Rattle.std.proofs.lemmas.Bool.Decides.{Decides-eqb, not_from_Decides}
use Rattle.std.proofs.lemmas.Slice.Eq.{slice_eq-Decides}
use Rattle.um_machine.proofs.Rests.{rose_later}
use Rattle.um_machine.specs.Runs.{seen_by}
use Rattle.um_debug.specs.inner.Calls.{InputRose, OutputRose}
use Rattle.um_debug.proofs.Debugged.{none_passed, none_obeyed, one_passed, one_obeyed, one_longer, at_turns, at_no_line, at_unread, at_quit, at_failure}
use Rattle.um_debug.proofs.debugger.debug.Goals as goal

pub loop-init : goal.loop-init
loop-init g c = record {
  lines = ([], refl, none_passed (g.I.Source.rest c.args.commands.now), rw c.new-points.ensures (none_obeyed (seen_by g.J.Source g.O.Sink c.args.machine.now c.args.input.now c.args.out.now)));
  limits = refl;
  commands = refl;
  source = refl;
  sink = refl;
  asks = omega arith;
  reads = omega arith;
  writes = omega arith;
}

pub returns-in-Ok-None-clause-session : goal.returns-in-Ok-None-clause-session
returns-in-Ok-None-clause-session g c =
    let l = c.loop.invariant.lines in
    at_no_line g.I.Source g.J.Source g.O.Sink c.args.turns _ _ l.0 c.loop.points _ c.loop.commands _ _ _ _ l.2 l.3
    (subst (λ k. k < c.args.turns) (sym l.1) c.loop-test.true) _ (rw c.in-Ok-None.field-0-is at c.in-Ok-None.ensures.takes)

pub returns-in-Err-clause-session : goal.returns-in-Err-clause-session
returns-in-Err-clause-session g c =
    let l = c.loop.invariant.lines in
    at_unread g.I.Source g.J.Source g.O.Sink c.args.turns _ _ l.0 c.loop.points _ c.loop.commands _ _ _ _ l.2 l.3
    (subst (λ k. k < c.args.turns) (sym l.1) c.loop-test.true) _ c.in-Err.ensures.takes
    (rose_later _ _ _ c.loop.invariant.asks (c.in-Err.ensures.cause.rose refl))

pub returns-then-eq-clause-session : goal.returns-then-eq-clause-session
returns-then-eq-clause-session g c =
    let l = c.loop.invariant.lines in
    at_quit g.I.Source g.J.Source g.O.Sink c.args.turns _ _ l.0 c.loop.points _ c.loop.commands _ _ _ _ l.2 l.3
    (subst (λ k. k < c.args.turns) (sym l.1) c.loop-test.true) _ _ (rw c.in-Ok-Some.field-0-is at c.in-Ok-Some.ensures.takes)
    (sym c.bytes.ensures ∙ (slice_eq-Decides Decides-eqb _ _ _ c.eq.ensures).0 c.if-eq.true ∙ c.as_slice.ensures)

pub returns-in-Err-obey-clause-session : goal.returns-in-Err-obey-clause-session
returns-in-Err-obey-clause-session g c =
    let l = c.loop.invariant.lines in
    let took = rw c.in-Ok-Some.field-0-is at c.in-Ok-Some.ensures.takes in
    at_failure g.I.Source g.J.Source g.O.Sink c.args.turns _ _ l.0 c.loop.points _ c.loop.commands _ _ _ _ l.2 l.3
    (subst (λ k. k < c.args.turns) (sym l.1) c.loop-test.true) _ _ took
    (λ same. not_from_Decides _ (slice_eq-Decides Decides-eqb _ _ _ c.eq.ensures) c.if-eq.false
    (c.bytes.ensures ∙ same ∙ sym c.as_slice.ensures)) _ c.obey.new.points
    (InputRose g.J.Source c.loop.input c.obey.new.input) (OutputRose g.O.Sink c.loop.out c.obey.new.out) c.in-Err-obey.end
    c.loop.invariant.limits
    (rose_later _ _ _ c.loop.invariant.reads) (rose_later _ _ _ c.loop.invariant.writes)
    (rw c.bytes-in-loop.ensures at c.in-Err-obey.ensures.ends)

pub loop-preserved : goal.loop-preserved
loop-preserved g c =
    let l = c.loop.invariant.lines in
    let took = rw c.in-Ok-Some.field-0-is at c.in-Ok-Some.ensures.takes in
    record {
      lines = (
        l.0 ++ c.in-Ok-Some.line ∷ [],
        one_longer l.0 c.in-Ok-Some.line c.loop.counter l.1,
        one_passed _ (g.I.Source.rest c.loop.commands) _ l.0 c.in-Ok-Some.line l.2 took
            (λ same. not_from_Decides _ (slice_eq-Decides Decides-eqb _ _ _ c.eq.ensures) c.if-eq.false
            (c.bytes.ensures ∙ same ∙ sym c.as_slice.ensures)),
        one_obeyed _ _ _ c.loop.points c.obey.new.points l.0 c.in-Ok-Some.line (InputRose g.J.Source c.loop.input c.obey.new.input)
            (OutputRose g.O.Sink c.loop.out c.obey.new.out) c.loop.invariant.limits l.3 (rw c.bytes-in-loop.ensures at c.in_default.ensures.ends),
      );
      limits = c.obey.ensures.limits ∙ c.loop.invariant.limits;
      commands = c.next_line.ensures.tells ∙ c.loop.invariant.commands;
      source = c.obey.ensures.input.tells ∙ c.loop.invariant.source;
      sink = c.obey.ensures.out.tells ∙ c.loop.invariant.sink;
      asks = omega (arith, c.next_line.ensures.cause.later);
      reads = omega (arith, c.obey.ensures.input.later);
      writes = omega (arith, c.obey.ensures.out.later);
    }

pub returns-clause-session : goal.returns-clause-session
returns-clause-session g c =
    let l = c.loop.invariant.lines in
    at_turns g.I.Source g.J.Source g.O.Sink c.args.turns _ _ l.0 c.loop.points _ c.loop.commands _ _ _ _ l.2 l.3
    (l.1 ∙ omega (arith, c.loop-test.false, c.loop.auto.counter-end))

pub returns-in-Err-clause-read : goal.returns-in-Err-clause-read
returns-in-Err-clause-read g c = λ same. inl (rose_later _ _ _ c.loop.invariant.asks (c.in-Err.ensures.cause.rose refl))

pub returns-in-Err-obey-clause-read : goal.returns-in-Err-obey-clause-read
returns-in-Err-obey-clause-read g c = λ same. inr (rose_later _ _ _ c.loop.invariant.reads (c.in-Err-obey.ensures.input.rose (ap Err same)))
