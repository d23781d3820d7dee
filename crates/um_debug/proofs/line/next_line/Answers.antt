use Rattle.std.proofs.Common.{◌+◌, length, sym, ap, ◌∙◌, subst, arith}
use Rattle.std.specs.Prelude.{List, ℕ}
use Rattle.std.specs.Result.{IsErr, is_err}
use Rattle.std.proofs.lemmas.Grind.{common_steps}
use Rattle.std.proofs.lemmas.List.{length_push}
use Rattle.um_debug.proofs.Taking.{Taking, taking_none, taking_more, took_ended, took_part, took_nothing, took_last, took_full, caused_later, tells_still, takes_part, is_found}
use Rattle.um_debug.proofs.line.next_line.Goals as goal

pub loop-init : goal.loop-init
loop-init g c = record {
  taking = subst (λ (line : List ℕ). Taking (g.I.Source.rest c.args.commands.now) (g.I.Source.rest c.args.commands.now) line) (sym c.empty-line.ensures) (taking_none (g.I.Source.rest c.args.commands.now));
  many = ap length c.empty-line.ensures;
  later = omega arith;
}

pub returns-in_err-next-clause-takes : goal.returns-in_err-next-clause-takes
returns-in_err-next-clause-takes g c =
    takes_part (g.I.Source.rest c.args.commands.now) (g.I.Source.rest c.next.new.self) c.from_residual.result c.from_residual.ensures.0
    (took_part (g.I.Source.rest c.args.commands.now) (g.I.Source.rest c.loop.commands) (g.I.Source.rest c.next.new.self) c.loop.line c.next.result c.loop.invariant.taking c.next.ensures.taken c.next.ensures.tells c.in_err-next.field-0.0 c.in_err-next.was (omega (arith, c.loop.invariant.many, c.loop-test.true)))

pub returns-in_err-next-clause-tells : goal.returns-in_err-next-clause-tells
returns-in_err-next-clause-tells g c = tells_still (g.I.Source.rest c.args.commands.now) (g.I.Source.rest c.loop.commands) (g.I.Source.rest c.next.new.self) c.loop.line c.next.result c.loop.invariant.taking c.next.ensures.taken c.next.ensures.tells

pub returns-in_err-next-clause-cause : goal.returns-in_err-next-clause-cause
returns-in_err-next-clause-cause g c =
    caused_later (g.I.Source.faults c.args.commands.now) (g.I.Source.faults c.loop.commands) (g.I.Source.faults c.next.new.self)
    (IsErr c.next.result) (IsErr c.from_residual.result) c.loop.invariant.later c.next.ensures.cause
    (λ failed. ap is_err c.in_err-next.was)

pub returns-in-Some-eq10-clause-takes : goal.returns-in-Some-eq10-clause-takes
returns-in-Some-eq10-clause-takes g c more may =
    took_ended (g.I.Source.rest c.args.commands.now) (g.I.Source.rest c.loop.commands) (g.I.Source.rest c.next.new.self) c.loop.line c.next.result c.loop.invariant.taking c.next.ensures.taken c.next.ensures.tells c.in-Some-eq10.field-0 more (is_found c.next.result c.in_ok-next.field-0 _ c.in_ok-next.was c.in-Some-eq10.is) c.in-Some-eq10.field-0-test (omega (arith, c.loop.invariant.many, c.loop-test.true)) may

pub push-requires : goal.push-requires
push-requires g c = (omega (arith, c.loop.invariant.many, c.loop-test.true))

pub returns-in-None-clause-takes : goal.returns-in-None-clause-takes
returns-in-None-clause-takes g c = took_nothing (g.I.Source.rest c.args.commands.now) (g.I.Source.rest c.loop.commands) (g.I.Source.rest c.next.new.self) c.loop.line c.next.result c.loop.invariant.taking c.next.ensures.taken c.next.ensures.tells (is_found c.next.result c.in_ok-next.field-0 _ c.in_ok-next.was c.in-None.is) (grind (arith, common_steps))

pub returns-in-None-2-clause-takes : goal.returns-in-None-2-clause-takes
returns-in-None-2-clause-takes g c more may =
    took_last (g.I.Source.rest c.args.commands.now) (g.I.Source.rest c.loop.commands) (g.I.Source.rest c.next.new.self) c.loop.line more c.next.result c.loop.invariant.taking c.next.ensures.taken
    (is_found c.next.result c.in_ok-next.field-0 _ c.in_ok-next.was c.in-None-2.is) (λ e. grind (arith, common_steps)) (omega (arith, c.loop.invariant.many, c.loop-test.true)) may

pub loop-preserved : goal.loop-preserved
loop-preserved g c = record {
  taking = subst (λ (line : List ℕ). Taking (g.I.Source.rest c.args.commands.now) (g.I.Source.rest c.next.new.self) line) (sym c.push.ensures)
      (taking_more (g.I.Source.rest c.args.commands.now) (g.I.Source.rest c.loop.commands) (g.I.Source.rest c.next.new.self) c.loop.line c.next.result c.loop.invariant.taking c.next.ensures.taken c.next.ensures.tells c.in-Some.byte (is_found c.next.result c.in_ok-next.field-0 _ c.in_ok-next.was c.in-Some.is) c.in-Some.byte-test.1);
  many = ap length c.push.ensures ∙ length_push c.loop.line c.in-Some.byte ∙ ap (λ n. n + 1) c.loop.invariant.many;
  later = omega (arith, c.loop.invariant.later, c.next.ensures.cause.later);
}

pub returns-clause-takes : goal.returns-clause-takes
returns-clause-takes g c more may =
    took_full (g.I.Source.rest c.args.commands.now) (g.I.Source.rest c.loop.commands) c.loop.line more c.loop.invariant.taking
    (c.loop.invariant.many ∙ omega (arith, c.loop-test.false, c.loop.auto.counter-end)) may
