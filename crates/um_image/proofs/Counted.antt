-- Runs whose bytes are counted, cycle by cycle.
use Rattle.std.proofs.Common.{◌≡◌, ◌≢◌, ℕ, ◌+◌, ◌-◌, ◌<◌, ◌≤◌, List, [], length, Bool, true, false, Option, Some, None, refl, sym, ap, subst, arith}
use Rattle.std.specs.Prelude.{IfSome, Ok, Err}
use Rattle.um_word.specs.State.{State}
use Rattle.um_word.specs.Table.{op_under}
use Rattle.um_word.specs.Run.{Standing, Stands, Failed}
use Rattle.um_word.specs.Rule.{Identifiers, next_identifier, ruled}
use Rattle.um_machine.specs.declared.stop.Stop.{Stop}
use Rattle.um_machine.specs.declared.stop.Stop.TheVariants.{Halted, Budget}
use Rattle.um_machine.specs.declared.stop.Turn.TheVariants as turns
use Rattle.um_machine.specs.MachineView.{state_of}
use Rattle.um_machine.specs.Stops.{unfailed_end}
use Rattle.um_machine.specs.Runs.{Seen, Took, EndsAs, GoesFromTo, RunEnds, CycleEnds}
use Rattle.um_machine.proofs.Cycles.{stays}
use Rattle.um_machine.proofs.Joined.{joined, weakened, later, stay, stands_there}
use Rattle.um_machine.proofs.Rests.{some_rest, some_held}
use Rattle.um_image.specs.Counting.{TakesBytes}
use Rattle.um_image.specs.inner.Inputs.{asked_by, given_by}
use Rattle.um_image.proofs.Taking.{Takes, cycle_takes, one_goes, takes_more, failed_takes, failed_ends, none_taken, not_budget, not_halted}

-- a run of up to n cycles that took so many bytes
abbrev pub RunTakes : ℕ → Seen → Seen → Stop → ℕ → Type 0
RunTakes n before now stop taken = GoesFromTo before now (λ s t. RunEnds n before.machine now.machine s t stop × Takes s t taken)

-- one call, of which another thing is said
reframed : (before now : Seen) (Call Other : State → State → Type 0) →
    ((rest held left out : List ℕ) → Call (state_of before.machine rest held) (state_of now.machine left out) → Other (state_of before.machine rest held) (state_of now.machine left out)) →
    GoesFromTo before now Call → GoesFromTo before now Other
reframed before now Call Other other call left may =
    let took : Took before now left Call = call left may in
    record {
      rest = took.rest;
      may = took.may;
      sends = λ held holds. let x = took.sends held holds in record { out = x.out; may = x.may; call = other took.rest held left x.out x.call };
    }

-- what contracts say of it
pub run_told : (n : ℕ) (before now : Seen) (stop : Stop) (taken : ℕ) → RunTakes n before now stop taken →
    GoesFromTo before now (λ s t. RunEnds n before.machine now.machine s t stop × TakesBytes s t taken)
run_told n before now stop taken r =
    weakened before now (λ s t. RunEnds n before.machine now.machine s t stop × Takes s t taken)
    (λ s t. RunEnds n before.machine now.machine s t stop × TakesBytes s t taken)
    (λ s t x. (x.0, record { gone = x.1.gone; split = x.1.split; given = x.1.given })) r

pub run_more : (n : ℕ) (before between now : Seen) (stop : Stop) (taken count : ℕ) → between.machine.limits ≡ before.machine.limits →
    RunTakes n before between Budget taken → RunTakes 1 between now stop count → RunTakes (n + 1) before now stop (taken + count)
run_more n before between now stop taken count same first second =
    joined before between now (λ s t. RunEnds n before.machine between.machine s t Budget × Takes s t taken)
    (λ s t. RunEnds 1 between.machine now.machine s t stop × Takes s t count)
    (λ s t. RunEnds (n + 1) before.machine now.machine s t stop × Takes s t (taken + count))
    (λ s u t x y. (
      later n 1 before.machine between.machine now.machine same s u t
          (stands_there _ between.machine u x.0) stop y.0,
      takes_more s u t taken count x.1 y.1,
    ))
    first second

pub run_stays : (n m : ℕ) (before now : Seen) (stop : Stop) (taken : ℕ) → stop ≢ Budget → n ≤ m → RunTakes n before now stop taken → RunTakes m before now stop taken
run_stays n m before now stop taken other le r =
    let e : n + (m - n) ≡ m = omega (arith, le) in
    subst (λ k. RunTakes k before now stop taken) e
    (weakened before now (λ s t. RunEnds n before.machine now.machine s t stop × Takes s t taken) (λ s t. RunEnds (n + (m - n)) before.machine now.machine s t stop × Takes s t taken)
    (λ s t x. (stay n (m - n) before.machine now.machine s t stop other x.0, x.1)) r)

-- no run was made
pub run_none : (m : ℕ) (now : Seen) (stop : Stop) → stop ≡ unfailed_end now.machine.halted → (now.machine.halted ≡ false → m ≡ 0) → RunTakes m now now stop 0
run_none m now stop is none left may = record {
  rest = left;
  may = may;
  sends = λ held holds. record { out = held; may = holds; call = (ended held stop is, none_taken _ _ refl refl) };
}
  where
    stands : (held : List ℕ) → ruled now.machine.limits m now.machine.identifiers (state_of now.machine left held) ≡ Stands (state_of now.machine left held) now.machine.identifiers
    stands held = elim now.machine.halted as (λ b. now.machine.halted ≡ b → ruled now.machine.limits m now.machine.identifiers (state_of now.machine left held) ≡ Stands (state_of now.machine left held) now.machine.identifiers) [
      | true ↦ λ e. stays now.machine.limits m now.machine.identifiers (state_of now.machine left held) e
      | false ↦ λ e. ap (λ k. ruled now.machine.limits k now.machine.identifiers (state_of now.machine left held)) (none e)
    ] refl

    as_end : (held : List ℕ) (stop : Stop) → stop ≡ unfailed_end now.machine.halted → EndsAs (ruled now.machine.limits m now.machine.identifiers (state_of now.machine left held)) now.machine (state_of now.machine left held) stop
    as_end held stop is = subst (λ x. EndsAs x now.machine (state_of now.machine left held) stop) (sym (stands held)) (refl, refl, is)

    by_end : (held : List ℕ) (b : Bool) → unfailed_end now.machine.halted ≡ unfailed_end b → RunEnds m now.machine now.machine (state_of now.machine left held) (state_of now.machine left held) (unfailed_end b)
    by_end held true e = as_end held Halted (sym e)
    by_end held false e = as_end held Budget (sym e)

    ended : (held : List ℕ) (stop : Stop) → stop ≡ unfailed_end now.machine.halted → RunEnds m now.machine now.machine (state_of now.machine left held) (state_of now.machine left held) stop
    ended held stop is = subst (RunEnds m now.machine now.machine (state_of now.machine left held) (state_of now.machine left held)) (sym is) (by_end held now.machine.halted refl)

module _ (before now : Seen) (running : before.machine.halted ≡ false) where
  module _ (below : IfSome (asked_by (op_under (state_of before.machine [] []))) (λ c. c < length before.machine.registers)) where
    pub cycle_runs : GoesFromTo before now (λ s t. CycleEnds before.machine now.machine s t (Ok turns.Running)) →
        RunTakes 1 before now Budget (given_by (asked_by (op_under (state_of before.machine [] []))) now.machine.registers)
    cycle_runs r = reframed before now (λ s t. CycleEnds before.machine now.machine s t (Ok turns.Running)) _ (λ rest held left out x. (
      x,
      cycle_takes before.machine.limits (next_identifier before.machine.identifiers) (state_of before.machine rest held) (state_of now.machine left out)
          (one_goes before.machine.limits before.machine.identifiers (state_of before.machine rest held) (state_of now.machine left out) now.machine Budget running not_budget x) below,
    )) r

    pub cycle_halts : GoesFromTo before now (λ s t. CycleEnds before.machine now.machine s t (Ok turns.Halted)) →
        RunTakes 1 before now Halted (given_by (asked_by (op_under (state_of before.machine [] []))) now.machine.registers)
    cycle_halts r = reframed before now (λ s t. CycleEnds before.machine now.machine s t (Ok turns.Halted)) _ (λ rest held left out x. (
      x,
      cycle_takes before.machine.limits (next_identifier before.machine.identifiers) (state_of before.machine rest held) (state_of now.machine left out)
          (one_goes before.machine.limits before.machine.identifiers (state_of before.machine rest held) (state_of now.machine left out) now.machine Halted running not_halted x) below,
    )) r

    -- the cycle that halts, behind those before it
    pub halts_more : (first : Seen) (n m taken given : ℕ) → before.machine.limits ≡ first.machine.limits → n < m →
        given ≡ given_by (asked_by (op_under (state_of before.machine [] []))) now.machine.registers →
        RunTakes n first before Budget taken →
        GoesFromTo before now (λ s t. CycleEnds before.machine now.machine s t (Ok turns.Halted)) →
        RunTakes m first now Halted (taken + given)
    halts_more first n m taken given same lt is begun row =
        let one : RunTakes 1 before now Halted given = subst (RunTakes 1 before now Halted) (sym is) (cycle_halts row) in
        run_stays (n + 1) m first now Halted (taken + given) (λ e. let h = e in cc) (omega (arith, lt))
        (run_more n first before now Halted taken given same begun one)

  pub cycle_fails : (stop : Stop) → GoesFromTo before now (λ s t. CycleEnds before.machine now.machine s t (Err stop)) → RunTakes 1 before now stop 0
  cycle_fails stop r = reframed before now (λ s t. CycleEnds before.machine now.machine s t (Err stop)) _ (λ rest held left out x. (
    (failed_ends before.machine now.machine (state_of before.machine rest held) (state_of now.machine left out) stop x).0,
    failed_takes before.machine now.machine (state_of before.machine rest held) (state_of now.machine left out) stop running x,
  )) r

-- what the states say of the machines
pub fewer_taken : (n : ℕ) (before now : Seen) (stop : Stop) (taken : ℕ) → RunTakes n before now stop taken → before.machine.cycles + taken ≤ now.machine.cycles
fewer_taken n before now stop taken r =
    let left = some_rest now.input in
    let took = r left.0 left.1 in
    let held = some_held before.output in
    (took.sends held.0 held.1).call.1.cycles

pub stops_sound : (before now : Seen) (stop : Stop) → GoesFromTo before now (λ s t. CycleEnds before.machine now.machine s t (Err stop)) → stop ≢ Budget
stops_sound before now stop r =
    let left = some_rest now.input in
    let took = r left.0 left.1 in
    let held = some_held before.output in
    (failed_ends before.machine now.machine _ _ stop (took.sends held.0 held.1).call).1

pub below_registers : (asked there : Option ℕ) (registers : List ℕ) → length registers ≡ 8 → asked ≡ there → IfSome asked (λ c. c < 8) →
    IfSome there (λ c. c < length registers)
below_registers asked there registers eight is h = subst (λ o. IfSome o (λ c. c < length registers)) is (go asked h)
  where
    go : (o : Option ℕ) → IfSome o (λ c. c < 8) → IfSome o (λ c. c < length registers)
    go None h = tt
    go (Some c) h = omega (arith, h, eight)

-- where all cycles were made the machine runs on
pub runs_on : (n : ℕ) (before now : Seen) (taken : ℕ) → RunTakes n before now Budget taken → now.machine.halted ≡ false
runs_on n before now taken r =
    let left = some_rest now.input in
    let took = r left.0 left.1 in
    let held = some_held before.output in
    let x = took.sends held.0 held.1 in
    by (ruled before.machine.limits n before.machine.identifiers (state_of before.machine took.rest held.0)) (state_of now.machine left.0 x.out) x.call.0
  where
    unhalted : (b : Bool) → Budget ≡ unfailed_end b → b ≡ false
    unhalted true e = cc
    unhalted false e = refl

    by : (s : Standing Identifiers) (t : State) → EndsAs s now.machine t Budget → t.halted ≡ false
    by (Stands u i) t e = unhalted t.halted e.2
    by (Failed u i fault) t e = absurd (not_budget fault e.2)
