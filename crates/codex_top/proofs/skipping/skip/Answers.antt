use Rattle.std.proofs.Common.{◌≡◌, refl, subst, arith}
use Rattle.std.specs.Prelude.{drop, Ok, option_map}
use Rattle.umix_base.specs.Streams.{Takes}
use Rattle.codex_top.proofs.Skipped.{none_taken, one_taken, all_taken, asked_on}
use Rattle.codex_top.proofs.skipping.skip.Goals as goal

pub loop-init : goal.loop-init
loop-init g c = (none_taken (g.I.Source.rest c.args.input.now), record { tells = refl; later = omega arith; rose = λ never. absurd never })

pub returns-in-Ok-None-clause-rest : goal.returns-in-Ok-None-clause-rest
returns-in-Ok-None-clause-rest g c =
    all_taken c.loop.counter c.args.count (g.I.Source.rest c.args.input.now) (g.I.Source.rest c.loop.input) (g.I.Source.rest c.next.new.self)
    c.loop.auto.counter-end c.loop.invariant.0 c.in-Ok-None.ensures.tells
    (subst (λ o. Takes (g.I.Source.rest c.loop.input) (g.I.Source.rest c.next.new.self) (Ok o)) c.in-Ok-None.field-0-is c.in-Ok-None.ensures.taken)

pub returns-in-Ok-None-clause-asked : goal.returns-in-Ok-None-clause-asked
returns-in-Ok-None-clause-asked g c =
    asked_on _ _ _ _ _ _ _ c.loop.invariant.1 c.in-Ok-None.ensures.tells c.in-Ok-None.ensures.cause.later (λ f. c.in-Ok-None.ensures.cause.rose f)

pub returns-in-Err-clause-asked : goal.returns-in-Err-clause-asked
returns-in-Err-clause-asked g c =
    asked_on _ _ _ _ _ _ _ c.loop.invariant.1 c.in-Err.ensures.tells c.in-Err.ensures.cause.later (λ f. c.in-Err.ensures.cause.rose f)

pub loop-preserved : goal.loop-preserved
loop-preserved g c = (
  one_taken c.loop.counter (g.I.Source.rest c.args.input.now) (g.I.Source.rest c.loop.input) (g.I.Source.rest c.next.new.self)
      c.in-Ok-Some.field-0-0 c.loop.invariant.0 c.in-Ok-Some.ensures.tells
      (subst (λ o. Takes (g.I.Source.rest c.loop.input) (g.I.Source.rest c.next.new.self) (Ok o)) c.in-Ok-Some.field-0-is c.in-Ok-Some.ensures.taken),
  asked_on _ _ _ _ _ _ _ c.loop.invariant.1 c.in-Ok-Some.ensures.tells c.in-Ok-Some.ensures.cause.later (λ never. absurd never),
)

pub returns-clause-rest : goal.returns-clause-rest
returns-clause-rest g c =
    let all : c.loop.counter ≡ c.args.count = omega (arith, c.loop-test.false, c.loop.auto.counter-end) in
    subst (λ k. g.I.Source.rest c.loop.input ≡ option_map (drop k) (g.I.Source.rest c.args.input.now)) all c.loop.invariant.0

pub returns-clause-asked : goal.returns-clause-asked
returns-clause-asked g c =
    let used = c.loop.invariant.1 in
    record { tells = used.tells; later = used.later; rose = λ never. absurd (cc) }
