-- Runs that follow one another, and runs that have stopped.
use Rattle.std.proofs.Common.{◌≡◌, ◌≢◌, ℕ, ◌+◌, Bool, true, false, refl, sym, ap, ◌∙◌, subst, arith}
use Rattle.um_word.specs.State.{State}
use Rattle.um_word.specs.Table as table
use Rattle.um_word.specs.Table.{Fault, Goes, cycle}
use Rattle.um_word.specs.Run.{Standing, Stands, Failed, going_on}
use Rattle.um_word.specs.Rule.{Identifiers, next_identifier, identifiers_left, ruled}
use Rattle.um_word.proofs.Runs.{runs_compose}
use Rattle.um_machine.specs.declared.stop.Stop.{Stop}
use Rattle.um_machine.specs.declared.stop.Stop.TheVariants.{Budget, ReadFault, WriteFault, Memory}
use Rattle.um_machine.specs.MachineView.{MachineView, state_of}
use Rattle.um_machine.specs.Stops.{stop_of, unfailed_end}
use Rattle.um_machine.specs.Runs.{Seen, Took, GoesFromTo, EndsAs, EndsEarly, RunEnds}
use Rattle.um_machine.specs.WholeRuns.{RunsJoin, StoppedRunsStay}
use Rattle.um_machine.proofs.Cycles.{goes_on, stays}

-- two calls, one after the other, are one call
pub joined : (before between now : Seen) (First Second Both : State → State → Type 0) →
    ((s u t : State) → First s u → Second u t → Both s t) → GoesFromTo before between First → GoesFromTo between now Second →
    GoesFromTo before now Both
joined before between now First Second Both both first second left may =
    let later : Took between now left Second = second left may in
    let earlier : Took before between later.rest First = first later.rest later.may in
    record {
      rest = earlier.rest;
      may = earlier.may;
      sends = λ held holds.
          let x = earlier.sends held holds in
          let y = later.sends x.out x.may in
          record {
            out = y.out;
            may = y.may;
            call = both (state_of before.machine earlier.rest held) (state_of between.machine later.rest x.out) (state_of now.machine left y.out) x.call y.call;
          };
    }

-- one call of which less is said
pub weakened : (before now : Seen) (Call Other : State → State → Type 0) → ((s t : State) → Call s t → Other s t) →
    GoesFromTo before now Call → GoesFromTo before now Other
weakened before now Call Other other call left may =
    let took : Took before now left Call = call left may in
    record {
      rest = took.rest;
      may = took.may;
      sends = λ held holds.
          let x = took.sends held holds in
          record { out = x.out; may = x.may; call = other (state_of before.machine took.rest held) (state_of now.machine left x.out) x.call };
    }

not_budget : (fault : Fault) → Budget ≡ stop_of fault → ⊥
not_budget table.FingerOutside e = cc
not_budget _ e = cc

is_running : (b : Bool) → Budget ≡ unfailed_end b → b ≡ false
is_running true e = cc
is_running false e = refl

has_halted : (b : Bool) (stop : Stop) → stop ≢ Budget → stop ≡ unfailed_end b → b ≡ true
has_halted true stop other e = refl
has_halted false stop other e = absurd (other e)

-- where a run made all its cycles it stands, and the machine runs
pub stands_there : (x : Standing Identifiers) (new : MachineView) (u : State) → EndsAs x new u Budget → x ≡ Stands u new.identifiers
stands_there (Stands v i) new u e = ap (λ s. Stands s i) e.0 ∙ ap (Stands u) e.1
stands_there (Failed v i fault) new u e = absurd (not_budget fault e.2)

module _ (n k : ℕ) (first old new : MachineView) (same : old.limits ≡ first.limits) (s u t : State)
    (stands : ruled first.limits n first.identifiers s ≡ Stands u old.identifiers) where
  on : (j : ℕ) → ruled first.limits (n + j) first.identifiers s ≡ ruled old.limits j old.identifiers u
  on j = goes_on first.limits n j first.identifiers old.identifiers s u stands ∙ ap (λ L. ruled L j old.identifiers u) (sym same)

  later_as : (stop : Stop) → EndsAs (ruled old.limits k old.identifiers u) new t stop → EndsAs (ruled first.limits (n + k) first.identifiers s) new t stop
  later_as stop e = subst (λ x. EndsAs x new t stop) (sym (on k)) e

  later_early : (stop : Stop) → EndsEarly k old new u t stop → EndsEarly (n + k) first new s t stop
  later_early stop e = record {
    made = n + e.made;
    fewer = let less = e.fewer in omega (arith, less);
    at = e.at;
    stands = on e.made ∙ e.stands;
    running = e.running;
    fails = e.fails;
    next = e.next;
    goes = subst (λ L. cycle e.at L (next_identifier new.identifiers) ≡ Goes e.next) same e.goes;
    remains = e.remains;
  }

  pub later : (stop : Stop) → RunEnds k old new u t stop → RunEnds (n + k) first new s t stop
  later ReadFault e = later_early ReadFault e
  later WriteFault e = later_early WriteFault e
  later Memory e = later_early Memory e
  later stop e = later_as stop e

pub runs_join : RunsJoin
runs_join n k before between now stop same first second =
    joined before between now (λ s t. RunEnds n before.machine between.machine s t Budget) (λ s t. RunEnds k between.machine now.machine s t stop)
    (λ s t. RunEnds (n + k) before.machine now.machine s t stop)
    (λ s u t x y. later n k before.machine between.machine now.machine same s u t
    (stands_there (ruled before.machine.limits n before.machine.identifiers s) between.machine u x) stop y)
    first second

module _ (n k : ℕ) (old new : MachineView) (s t : State) where
  -- a halted state stays, and so does a fault
  stays_as : (stop : Stop) → stop ≢ Budget → (x : Standing Identifiers) → EndsAs x new t stop →
      EndsAs (going_on x (λ u i. ruled old.limits k i u)) new t stop
  stays_as stop other (Failed u i fault) e = e
  stays_as stop other (Stands u i) e =
      let halted : u.halted ≡ true = ap (λ (v : State). v.halted) e.0 ∙ has_halted t.halted stop other e.2 in
      subst (λ x. EndsAs x new t stop) (sym (stays old.limits k i u halted)) e

  stay_as : (stop : Stop) → stop ≢ Budget → EndsAs (ruled old.limits n old.identifiers s) new t stop → EndsAs (ruled old.limits (n + k) old.identifiers s) new t stop
  stay_as stop other e =
      subst (λ x. EndsAs x new t stop) (sym (runs_compose next_identifier identifiers_left old.limits n k old.identifiers s))
      (stays_as stop other (ruled old.limits n old.identifiers s) e)

  stay_early : (stop : Stop) → EndsEarly n old new s t stop → EndsEarly (n + k) old new s t stop
  stay_early stop e = record {
    made = e.made;
    fewer = let less = e.fewer in omega (arith, less);
    at = e.at;
    stands = e.stands;
    running = e.running;
    fails = e.fails;
    next = e.next;
    goes = e.goes;
    remains = e.remains;
  }

  pub stay : (stop : Stop) → stop ≢ Budget → RunEnds n old new s t stop → RunEnds (n + k) old new s t stop
  stay ReadFault other e = stay_early ReadFault e
  stay WriteFault other e = stay_early WriteFault e
  stay Memory other e = stay_early Memory e
  stay stop other e = stay_as stop other e

pub stopped_runs_stay : StoppedRunsStay
stopped_runs_stay n k before now stop other run =
    weakened before now (λ s t. RunEnds n before.machine now.machine s t stop) (λ s t. RunEnds (n + k) before.machine now.machine s t stop)
    (λ s t e. stay n k before.machine now.machine s t stop other e) run
