use Rattle.std.proofs.Common.{refl, sym, ap, ◌∙◌, subst, arith}
use Rattle.std.specs.Prelude.{Err}
use Rattle.um_machine.specs.Runs.{seen_by}
use Rattle.um_machine.proofs.Rests.{rose_later}
use Rattle.um_debug.proofs.Pointed.{Went, none_went, all_went, went_more, came_seen, came_halted, came_failed, words_kept}
use Rattle.um_debug.proofs.course.go.Goals as goal

pub loop-init : goal.loop-init
loop-init g c = record {
  went = none_went c.args.points.now _;
  counted = omega arith;
  limits = refl;
  whole = λ h. absurd (omega (arith, h));
  source = refl;
  sink = refl;
  reads = omega arith;
  writes = omega arith;
  words = c.words-words.ensures;
}

pub returns-in-Ok-Halted-clause-course : goal.returns-in-Ok-Halted-clause-course
returns-in-Ok-Halted-clause-course g c =
    came_halted c.args.points.now c.loop.counter _ _ _ c.loop.invariant.limits c.loop.invariant.went c.args.cycles c.loop-test.true
    (Unit {0}) (Unit {0}) (rw c.in-Ok-Halted.field-0-is at c.in-Ok-Halted.ensures.row)

pub returns-in-Err-clause-course : goal.returns-in-Err-clause-course
returns-in-Err-clause-course g c =
    rw c.came_of.ensures (came_failed c.args.points.now c.loop.counter _ _ _ c.loop.invariant.limits c.loop.invariant.went c.args.cycles c.loop-test.true _ _
    c.in-Err.stop
    (λ e. rose_later _ _ _ c.loop.invariant.reads (c.in-Err.ensures.input.rose (ap Err e)))
    (λ e. rose_later _ _ _ c.loop.invariant.writes (c.in-Err.ensures.out.rose (ap Err e)))
    c.in-Err.ensures.row)

pub returns-in-Some-clause-course : goal.returns-in-Some-clause-course
returns-in-Some-clause-course g c =
    came_seen c.args.points.now c.loop.counter _ _ _ c.loop.invariant.limits c.loop.invariant.went c.args.cycles c.loop-test.true
    (Unit {0}) (Unit {0}) c.in-Some.came (sym (c.in-Some.ensures c.loop.machine.arrays c.loop.invariant.words)) (rw c.in-Ok-Running.field-0-is at c.in-Ok-Running.ensures.row)

pub loop-preserved : goal.loop-preserved
loop-preserved g c =
    let none = c.in_default.ensures c.loop.machine.arrays c.loop.invariant.words in
    record {
      went = went_more c.args.points.now c.loop.counter _ _ _ c.loop.invariant.limits c.loop.invariant.went (sym none) (rw c.in-Ok-Running.field-0-is at c.in-Ok-Running.ensures.row);
      counted = omega (arith, c.in-Ok-Running.ensures.counted);
      limits = c.in-Ok-Running.ensures.limits ∙ c.loop.invariant.limits;
      whole = λ h. c.in-Ok-Running.ensures.whole;
      source = c.in-Ok-Running.ensures.input.tells ∙ c.loop.invariant.source;
      sink = c.in-Ok-Running.ensures.out.tells ∙ c.loop.invariant.sink;
      reads = omega (arith, c.in-Ok-Running.ensures.input.later);
      writes = omega (arith, c.in-Ok-Running.ensures.out.later);
      words = words_kept c.args.points.now c.loop.machine.arrays c.cycle.new.self.arrays c.cycle.new.self.finger c.words-words.result c.loop.invariant.words (sym none);
    }

pub returns-clause-course : goal.returns-clause-course
returns-clause-course g c =
    all_went c.args.points.now c.args.cycles (Unit {0}) (Unit {0}) _ _
    (subst (λ n. Went c.args.points.now n (seen_by g.I.Source g.O.Sink c.args.machine.now c.args.input.now c.args.out.now)
    (seen_by g.I.Source g.O.Sink c.loop.machine c.loop.input c.loop.out))
    (omega (arith, c.loop-test.false, c.loop.auto.counter-end)) c.loop.invariant.went)

pub returns-then-is_empty-clause-course : goal.returns-then-is_empty-clause-course
returns-then-is_empty-clause-course g c =
    rw (sym c.if-is_empty.ensures) at c.step.ensures.course
