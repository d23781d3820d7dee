use Rattle.std.proofs.Common.{◌≡◌, ◌+◌, [], refl, sym, ap, subst, ◌∙◌, arith}
use Rattle.std.specs.Prelude.{Ok}
use Rattle.um_machine.specs.declared.stop.Stop.TheVariants.{Halted, Budget}
use Rattle.um_machine.specs.MachineView.{state_of}
use Rattle.um_machine.specs.inner.OperatorCalls.{placed, op_at, rest_before}
use Rattle.um_machine.proofs.Cycles.{Made, still_running, now_halted}
use Rattle.um_machine.proofs.Ends.{Ended, sent_by, halted_end, budget_end, failed_end}
use Rattle.um_machine.proofs.Placed.{made_none, made_on, settled, failed_alike}
use Rattle.um_machine.proofs.machine.Machine.run.Goals as goal

pub returns-then-halted-clause-run : goal.returns-then-halted-clause-run
returns-then-halted-clause-run g c left may = record {
  rest = left;
  may = may;
  sends = λ held holds. sent_by c.args.cycles _ _ left left held Halted
      (halted_end 0 c.args.cycles c.args.self.now c.args.self.now (state_of c.args.self.now left held) left _ (omega arith)
      (record { sent = held; holds = holds; stands = refl }) (sym c.halted.ensures ∙ c.if-halted.true));
}

pub loop-made-init : goal.loop-made-init
loop-made-init g c = record {
  running = sym c.halted.ensures ∙ c.if-halted.false;
  cycles = refl;
  within = omega arith;
  limits = refl;
  source = refl;
  sink = refl;
  reads = omega arith;
  writes = omega arith;
  made = (λ left. left, λ left may. (may, λ held holds. made_none c.args.self.now c.finger-finger.result left held _ c.finger-finger.ensures holds));
}

pub returns-in-Ok-Halted-clause-run : goal.returns-in-Ok-Halted-clause-run
returns-in-Ok-Halted-clause-run g c left may =
    let first = c.args.self.now in
    let rest = rest_before (Ok c.in-Ok-Halted.field-0) (op_at c.loop-made.self c.loop-made.finger) (g.I.Source.rest c.loop-made.input) c.step.new.self.registers left in
    let m = c.loop-made.invariant.made.1 rest (c.in-Ok-Halted.ensures.rest left may) in
    let n = c.loop-made.made + 1 in
    let e : c.settle.new.self ≡ placed c.step.new.self c.step.new.finger (first.cycles + n) =
    settled _ c.step.new.self c.step.new.finger _ (first.cycles + n) c.settle.ensures.placed (omega (arith, c.in-Ok-Halted.ensures.place.1, c.loop-made.invariant.cycles)) in
    record {
      rest = c.loop-made.invariant.made.0 rest;
      may = m.0;
      sends = λ held holds. sent_by c.args.cycles _ _ _ left held Halted
          (subst (λ m. Ended c.args.cycles first m (state_of first (c.loop-made.invariant.made.0 rest) held) left (g.O.Sink.written c.step.new.out) Halted) (sym e)
          (halted_end n c.args.cycles first (placed c.step.new.self c.step.new.finger (first.cycles + n)) _ left _ (omega (arith, c.loop-made-test.true))
          (made_on c.loop-made.made first _ c.loop-made.self c.step.new.self c.loop-made.finger c.step.new.finger rest left _ _ c.in-Ok-Halted.field-0 (m.1 held holds) c.loop-made.invariant.running c.loop-made.invariant.limits
          c.in-Ok-Halted.ensures.identifiers (c.in-Ok-Halted.ensures.row (first.cycles + c.loop-made.made) left may (m.1 held holds).sent (m.1 held holds).holds))
          (now_halted c.step.new.self (rw c.in-Ok-Halted.field-0-is at c.in-Ok-Halted.ensures.turn))));
    }

pub returns-in-Err-clause-run : goal.returns-in-Err-clause-run
returns-in-Err-clause-run g c left may =
    let first = c.args.self.now in
    let m = c.loop-made.invariant.made.1 left (c.in-Err.ensures.rest left may) in
    let n = first.cycles + c.loop-made.made in
    let kept = c.in-Err.ensures.kept in
    let e : c.settle-in-Err.new.self ≡ placed c.loop-made.self c.loop-made.finger n =
    settled _ c.step.new.self c.step.new.finger _ n c.settle-in-Err.ensures.placed (omega (arith, c.in-Err.ensures.place.1, c.loop-made.invariant.cycles))
    ∙ ap (λ s. placed s c.step.new.finger n) kept.0
    ∙ ap (λ f. placed c.loop-made.self f n) kept.1 in
    record {
      rest = c.loop-made.invariant.made.0 left;
      may = m.0;
      sends = λ held holds. sent_by c.args.cycles _ _ _ left held c.in-Err.stop
          (failed_end c.loop-made.made c.args.cycles first (placed c.loop-made.self c.loop-made.finger n) c.settle-in-Err.new.self _ left _ _ c.in-Err.stop c.loop-made-test.true (m.1 held holds) c.loop-made.invariant.running c.loop-made.invariant.limits
          e (failed_alike (op_at c.loop-made.self c.loop-made.finger) (placed c.step.new.self c.step.new.finger (n + 1)) c.settle-in-Err.new.self left _ _ _ c.in-Err.stop (c.in-Err.ensures.row n left may (m.1 held holds).sent (m.1 held holds).holds)));
    }

pub loop-made-preserved : goal.loop-made-preserved
loop-made-preserved g c = record {
  running = still_running c.step.new.self (rw c.in-Ok-Running.field-0-is at c.in-Ok-Running.ensures.turn);
  cycles = c.in-Ok-Running.ensures.place.1 ∙ c.loop-made.invariant.cycles;
  within = omega (arith, c.loop-made-test.true);
  limits = c.in-Ok-Running.ensures.limits ∙ c.loop-made.invariant.limits;
  source = c.in-Ok-Running.ensures.input.tells ∙ c.loop-made.invariant.source;
  sink = c.in-Ok-Running.ensures.out.tells ∙ c.loop-made.invariant.sink;
  reads = omega (arith, c.in-Ok-Running.ensures.input.later);
  writes = omega (arith, c.in-Ok-Running.ensures.out.later);
  made = (
    λ left. c.loop-made.invariant.made.0 (rest_before (Ok c.in-Ok-Running.field-0) (op_at c.loop-made.self c.loop-made.finger) (g.I.Source.rest c.loop-made.input) c.step.new.self.registers left),
    λ left may.
        let rest = rest_before (Ok c.in-Ok-Running.field-0) (op_at c.loop-made.self c.loop-made.finger) (g.I.Source.rest c.loop-made.input) c.step.new.self.registers left in
        let m = c.loop-made.invariant.made.1 rest (c.in-Ok-Running.ensures.rest left may) in (
          m.0,
          λ held holds. made_on c.loop-made.made c.args.self.now _ c.loop-made.self c.step.new.self c.loop-made.finger c.step.new.finger rest left _ _ c.in-Ok-Running.field-0 (m.1 held holds) c.loop-made.invariant.running c.loop-made.invariant.limits
              c.in-Ok-Running.ensures.identifiers (c.in-Ok-Running.ensures.row (c.args.self.now.cycles + c.loop-made.made) left may (m.1 held holds).sent (m.1 held holds).holds),
        ),
  );
}

pub returns-clause-run : goal.returns-clause-run
returns-clause-run g c left may =
    let first = c.args.self.now in
    let m = c.loop-made.invariant.made.1 left may in
    let whole : c.loop-made.made ≡ c.args.cycles = omega (arith, c.loop-made-test.false, c.loop-made.invariant.within) in
    let there = placed c.loop-made.self c.loop-made.finger (first.cycles + c.args.cycles) in
    let e : c.settle-2.new.self ≡ there =
    settled _ c.loop-made.self c.loop-made.finger _ (first.cycles + c.args.cycles) c.settle-2.ensures.placed (omega (arith, c.loop-made.invariant.cycles)) in
    record {
      rest = c.loop-made.invariant.made.0 left;
      may = m.0;
      sends = λ held holds. sent_by c.args.cycles _ _ _ left held Budget
          (subst (λ m. Ended c.args.cycles first m (state_of first (c.loop-made.invariant.made.0 left) held) left (g.O.Sink.written c.loop-made.out) Budget) (sym e)
          (budget_end c.args.cycles first there _ left _
          (subst (λ n. Made n first (state_of first (c.loop-made.invariant.made.0 left) held) (placed c.loop-made.self c.loop-made.finger (first.cycles + n)) left (g.O.Sink.written c.loop-made.out)) whole (m.1 held holds)) c.loop-made.invariant.running));
    }
