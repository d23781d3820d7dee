use Rattle.std.proofs.Common.{◌≡◌, ◌+◌, [], true, false, refl, sym, ap, subst, ◌∙◌, arith}
use Rattle.std.specs.Prelude.{Ok}
use Rattle.std.proofs.lemmas.Bool.{true≢false}
use Rattle.um_word.specs.Table.{op_under}
use Rattle.um_machine.specs.declared.stop.Stop.TheVariants.{Halted, Budget}
use Rattle.um_machine.specs.MachineView.{state_of}
use Rattle.um_machine.specs.Stops.{unfailed_end}
use Rattle.um_machine.specs.Runs.{seen_by, GoesFromTo, CycleEnds}
use Rattle.um_image.specs.inner.Inputs.{asked_by, given_by}
use Rattle.um_image.proofs.Counted.{RunTakes, run_told, run_none, run_more, run_stays, cycle_runs, halts_more, cycle_fails, fewer_taken, stops_sound, below_registers, runs_on}
use Rattle.um_image.proofs.counting.run_counted.Goals as goal

pub returns-then-halted-clause-run : goal.returns-then-halted-clause-run
returns-then-halted-clause-run g c =
    let is : c.args.machine.now.halted ≡ true = sym c.halted.ensures ∙ c.if-halted.true in
    let now = seen_by g.I.Source g.O.Sink c.args.machine.now c.args.input.now c.args.out.now in
    run_told c.args.cycles now now Halted 0
    (run_none c.args.cycles now Halted (ap unfailed_end (sym is)) (λ f. absurd (true≢false (sym is ∙ f))))

pub loop-init : goal.loop-init
loop-init g c =
    let is : c.args.machine.now.halted ≡ false = sym c.halted.ensures ∙ c.if-halted.false in
    record {
      running = is;
      whole = c.live.ensures.whole;
      limits = refl;
      cycles = omega arith;
      fewer = omega arith;
      source = refl;
      sink = refl;
      reads = omega arith;
      writes = omega arith;
      run = run_none 0 (seen_by g.I.Source g.O.Sink c.args.machine.now c.args.input.now c.args.out.now) Budget (ap unfailed_end (sym is)) (λ f. refl);
    }

pub loop-preserved : goal.loop-preserved
loop-preserved g c =
    let seen = seen_by g.I.Source g.O.Sink in
    let i = c.loop.invariant in
    let before = seen c.args.machine.now c.args.input.now c.args.out.now in
    let between = seen c.loop.machine c.loop.input c.loop.out in
    let now = seen c.cycle.new.self c.cycle.new.input c.cycle.new.out in
    let below = below_registers c.input_register-asked.result _ c.loop.machine.registers (i.whole.well_formed [] []).eight c.input_register-asked.ensures.register c.input_register-asked.ensures.below in
    let row = subst (λ turn. GoesFromTo between now (λ s t. CycleEnds c.loop.machine c.cycle.new.self s t (Ok turn))) c.in-Ok-Running.field-0-is c.in-Ok-Running.ensures.row in
    let count : c.given-taken.result ≡ given_by (asked_by (op_under (state_of c.loop.machine [] []))) c.cycle.new.self.registers =
    c.given-taken.ensures.value ∙ ap (λ o. given_by o c.cycle.new.self.registers) c.input_register-asked.ensures.register in
    let one : RunTakes 1 between now Budget c.given-taken.result = subst (RunTakes 1 between now Budget) (sym count) (cycle_runs between now i.running below row) in
    let all = run_more c.loop.counter before between now Budget c.loop.taken c.given-taken.result i.limits i.run one in
    let made = c.in-Ok-Running.ensures.counted in
    let cycles = i.cycles in
    let read = c.in-Ok-Running.ensures.input.later in
    let reads = i.reads in
    let write = c.in-Ok-Running.ensures.out.later in
    let writes = i.writes in
    record {
      running = runs_on 1 between now c.given-taken.result one;
      whole = c.in-Ok-Running.ensures.whole;
      limits = c.in-Ok-Running.ensures.limits ∙ i.limits;
      cycles = omega (arith, made, cycles);
      fewer = fewer_taken (c.loop.counter + 1) before now Budget (c.loop.taken + c.given-taken.result) all;
      source = c.in-Ok-Running.ensures.input.tells ∙ i.source;
      sink = c.in-Ok-Running.ensures.out.tells ∙ i.sink;
      reads = omega (arith, read, reads);
      writes = omega (arith, write, writes);
      run = all;
    }

pub returns-in-Ok-Halted-clause-run : goal.returns-in-Ok-Halted-clause-run
returns-in-Ok-Halted-clause-run g c =
    let seen = seen_by g.I.Source g.O.Sink in
    let i = c.loop.invariant in
    let before = seen c.args.machine.now c.args.input.now c.args.out.now in
    let between = seen c.loop.machine c.loop.input c.loop.out in
    let now = seen c.cycle.new.self c.cycle.new.input c.cycle.new.out in
    let below = below_registers c.input_register-asked.result _ c.loop.machine.registers (i.whole.well_formed [] []).eight c.input_register-asked.ensures.register c.input_register-asked.ensures.below in
    let row = subst (λ turn. GoesFromTo between now (λ s t. CycleEnds c.loop.machine c.cycle.new.self s t (Ok turn))) c.in-Ok-Halted.field-0-is c.in-Ok-Halted.ensures.row in
    let count : c.given.result ≡ given_by (asked_by (op_under (state_of c.loop.machine [] []))) c.cycle.new.self.registers =
    c.given.ensures.value ∙ ap (λ o. given_by o c.cycle.new.self.registers) c.input_register-asked.ensures.register in
    run_told c.args.cycles before now Halted (c.loop.taken + c.given.result)
    (halts_more between now i.running below before c.loop.counter c.args.cycles c.loop.taken c.given.result i.limits c.loop-test.true count i.run row)

pub returns-in-Ok-Halted-clause-fewer : goal.returns-in-Ok-Halted-clause-fewer
returns-in-Ok-Halted-clause-fewer g c =
    let seen = seen_by g.I.Source g.O.Sink in
    let i = c.loop.invariant in
    let before = seen c.args.machine.now c.args.input.now c.args.out.now in
    let between = seen c.loop.machine c.loop.input c.loop.out in
    let now = seen c.cycle.new.self c.cycle.new.input c.cycle.new.out in
    let below = below_registers c.input_register-asked.result _ c.loop.machine.registers (i.whole.well_formed [] []).eight c.input_register-asked.ensures.register c.input_register-asked.ensures.below in
    let row = subst (λ turn. GoesFromTo between now (λ s t. CycleEnds c.loop.machine c.cycle.new.self s t (Ok turn))) c.in-Ok-Halted.field-0-is c.in-Ok-Halted.ensures.row in
    let count : c.given.result ≡ given_by (asked_by (op_under (state_of c.loop.machine [] []))) c.cycle.new.self.registers =
    c.given.ensures.value ∙ ap (λ o. given_by o c.cycle.new.self.registers) c.input_register-asked.ensures.register in
    fewer_taken c.args.cycles before now Halted (c.loop.taken + c.given.result)
    (halts_more between now i.running below before c.loop.counter c.args.cycles c.loop.taken c.given.result i.limits c.loop-test.true count i.run row)

pub returns-in-Err-clause-run : goal.returns-in-Err-clause-run
returns-in-Err-clause-run g c =
    let seen = seen_by g.I.Source g.O.Sink in
    let i = c.loop.invariant in
    let before = seen c.args.machine.now c.args.input.now c.args.out.now in
    let between = seen c.loop.machine c.loop.input c.loop.out in
    let now = seen c.cycle.new.self c.cycle.new.input c.cycle.new.out in
    let one = cycle_fails between now i.running c.in-Err.stop c.in-Err.ensures.row in
    let lt = c.loop-test.true in
    run_told c.args.cycles before now c.in-Err.stop c.loop.taken
    (run_stays (c.loop.counter + 1) c.args.cycles before now c.in-Err.stop c.loop.taken (stops_sound between now c.in-Err.stop c.in-Err.ensures.row) (omega (arith, lt))
    (subst (RunTakes (c.loop.counter + 1) before now c.in-Err.stop) (let e : c.loop.taken + 0 ≡ c.loop.taken = omega arith in e)
    (run_more c.loop.counter before between now c.in-Err.stop c.loop.taken 0 i.limits i.run one)))

pub returns-clause-run : goal.returns-clause-run
returns-clause-run g c =
    let seen = seen_by g.I.Source g.O.Sink in
    let before = seen c.args.machine.now c.args.input.now c.args.out.now in
    let now = seen c.loop.machine c.loop.input c.loop.out in
    let end : c.loop.counter ≡ c.args.cycles = (let a = c.loop-test.false in let b = c.loop.auto.counter-end in omega (arith, a, b)) in
    run_told c.args.cycles before now Budget c.loop.taken
    (subst (λ n. RunTakes n before now Budget c.loop.taken) end c.loop.invariant.run)
