-- Cycles with points, and runs of the machine.
use Rattle.std.proofs.Common.{◌≡◌, ◌≢◌, ℕ, zero, suc, ◌+◌, ◌≤◌, Bool, true, false, refl, sym, ap, ◌∙◌, subst, arith}
use Rattle.std.specs.Prelude.{if◌then◌else◌, Result, Ok}
use Rattle.umix_base.specs.declared.limits.Limits.{Limits}
use Rattle.um_word.specs.State.{State}
use Rattle.um_word.specs.Table as table
use Rattle.um_word.specs.Table.{Fault}
use Rattle.um_word.specs.Run.{Standing, Stands, Failed, going_on}
use Rattle.um_word.specs.Rule.{Identifiers, next_identifier, identifiers_left, ruled}
use Rattle.um_word.proofs.Runs.{runs_compose}
use Rattle.um_machine.specs.declared.stop.Stop.{Stop}
use Rattle.um_machine.specs.declared.stop.Stop.TheVariants.{Halted, Budget, ReadFault, WriteFault, Memory}
use Rattle.um_machine.specs.MachineView.{MachineView}
use Rattle.um_machine.specs.Stops.{stop_of, unfailed_end}
use Rattle.um_machine.specs.Runs.{Seen, GoesFromTo, EndsAs, EndsEarly, RunEnds}
use Rattle.um_machine.proofs.Cycles.{goes_on, stays}
use Rattle.um_machine.proofs.Joined.{weakened}
use Rattle.um_debug.specs.declared.course.Came.{Came}
use Rattle.um_debug.specs.declared.course.Came.TheVariants as came
use Rattle.um_debug.specs.declared.debugger.DebugEnd.{DebugEnd}
use Rattle.um_debug.specs.Course.{no_points, Going, Goes, Ends, after_cycle, one_more, goes_for, IsCutOff}
use Rattle.um_debug.specs.inner.Calls.{CameTo, Course, came_by}

-- how a run goes, of which only the end is looked at
abbrev pub going_of : Standing Identifiers → Going
going_of (Failed t j fault) = Ends t j (came.Failed (stop_of fault))
going_of (Stands t j) = if t.halted then Ends t j came.Halted else Goes t j

after_alike : (s : State) (x : Standing Identifiers) → after_cycle no_points s x ≡ going_of x
after_alike s (Failed t j fault) = refl
after_alike s (Stands t j) = refl

-- one cycle more
module _ (L : Limits) where
  more_of : (n : ℕ) (i : Identifiers) (s t : State) (j : Identifiers) (b : Bool) → t.halted ≡ b →
      one_more L no_points (if b then Ends t j came.Halted else Goes t j) ≡ going_of (ruled L 1 j t)
  more_of n i s t j true h =
      ap (λ b. if b then Ends t j came.Halted else Goes t j) (sym h) ∙ ap going_of (sym (stays L 1 j t h))
  more_of n i s t j false h = after_alike t (ruled L 1 j t)

  more_from : (n : ℕ) (i : Identifiers) (s : State) (x : Standing Identifiers) → ruled L n i s ≡ x →
      one_more L no_points (going_of x) ≡ going_of (ruled L (n + 1) i s)
  more_from n i s (Failed t j fault) e =
      ap going_of (sym (runs_compose next_identifier identifiers_left L n 1 i s ∙ ap (λ x. going_on x (λ u k. ruled L 1 k u)) e))
  more_from n i s (Stands t j) e =
      more_of n i s t j t.halted refl ∙ ap going_of (sym (goes_on L n 1 i j s t e))

  unpointed : (n : ℕ) (i : Identifiers) (s : State) → goes_for L no_points (suc n) i s ≡ going_of (ruled L (suc n) i s)
  unfolding goes_for
  unpointed zero i s = after_alike s (ruled L 1 i s)
  unpointed (suc n) i s =
      let e : suc n + 1 ≡ suc (suc n) = omega arith in
      ap (one_more L no_points) (unpointed n i s) ∙ rw e at (more_from (suc n) i s (ruled L (suc n) i s) refl)

-- why a run stopped
not_budget : (fault : Fault) → Budget ≡ stop_of fault → ⊥
not_budget table.FingerOutside e = cc
not_budget _ e = cc

not_halted : (fault : Fault) → Halted ≡ stop_of fault → ⊥
not_halted table.FingerOutside e = cc
not_halted _ e = cc

is_running : (b : Bool) → Budget ≡ unfailed_end b → b ≡ false
is_running true e = cc
is_running false e = refl

has_halted : (b : Bool) → Halted ≡ unfailed_end b → b ≡ true
has_halted true e = refl
has_halted false e = cc

neither : (b : Bool) (stop : Stop) → stop ≢ Budget → stop ≢ Halted → stop ≡ unfailed_end b → ⊥
neither true stop budget halted e = halted e
neither false stop budget halted e = budget e

-- a state that runs on, and one that has halted
goes_running : (t : State) (j : Identifiers) → t.halted ≡ false → going_of (Stands t j) ≡ Goes t j
goes_running t j h = ap (λ b. if b then Ends t j came.Halted else Goes t j) h

ends_halted : (t : State) (j : Identifiers) → t.halted ≡ true → going_of (Stands t j) ≡ Ends t j came.Halted
ends_halted t j h = ap (λ b. if b then Ends t j came.Halted else Goes t j) h

-- a machine that ran on stands there, and runs
pub running_there : (new : MachineView) (t : State) (x : Standing Identifiers) → EndsAs x new t Budget →
    (x ≡ Stands t new.identifiers) × (t.halted ≡ false)
running_there new t (Stands u j) e = (ap (λ v. Stands v j) e.0 ∙ ap (Stands t) e.1, is_running t.halted e.2)
running_there new t (Failed u j fault) e = absurd (not_budget fault e.2)

-- one that halted stands there, and has halted
pub halted_there : (new : MachineView) (t : State) (x : Standing Identifiers) → EndsAs x new t Halted →
    (x ≡ Stands t new.identifiers) × (t.halted ≡ true)
halted_there new t (Stands u j) e = (ap (λ v. Stands v j) e.0 ∙ ap (Stands t) e.1, has_halted t.halted e.2)
halted_there new t (Failed u j fault) e = absurd (not_halted fault e.2)

-- any other failed there
pub failed_there : (new : MachineView) (t : State) (stop : Stop) (x : Standing Identifiers) → stop ≢ Budget → stop ≢ Halted →
    EndsAs x new t stop → (fault : Fault) × (x ≡ Failed t new.identifiers fault) × (stop ≡ stop_of fault)
failed_there new t stop (Stands u j) budget halted e = absurd (neither t.halted stop budget halted e.2)
failed_there new t stop (Failed u j fault) budget halted e =
    (fault, ap (λ v. Failed v j fault) e.0 ∙ ap (λ k. Failed t k fault) e.1, e.2)

-- what cycles without points came to, where a run stood so
module _ (new : MachineView) (t : State) where
  at_budget : (x : Standing Identifiers) → EndsAs x new t Budget → going_of x ≡ Goes t new.identifiers
  at_budget x e = let r = running_there new t x e in ap going_of r.0 ∙ goes_running t new.identifiers r.1

  at_halt : (x : Standing Identifiers) → EndsAs x new t Halted → going_of x ≡ Ends t new.identifiers came.Halted
  at_halt x e = let r = halted_there new t x e in ap going_of r.0 ∙ ends_halted t new.identifiers r.1

  at_fault : (stop : Stop) (x : Standing Identifiers) → stop ≢ Budget → stop ≢ Halted → EndsAs x new t stop →
      going_of x ≡ Ends t new.identifiers (came.Failed stop)
  at_fault stop x budget halted e =
      let r = failed_there new t stop x budget halted e in
      ap going_of r.1 ∙ ap (λ why. Ends t new.identifiers (came.Failed why)) (sym r.2)

pub came_to : (x y : Going) (j : Identifiers) (t : State) (why : Came) → x ≡ y → CameTo y j t why → CameTo x j t why
came_to x y j t why e c = subst (λ z. CameTo z j t why) (sym e) c

-- a run of at least one cycle, as cycles without points
module _ (n : ℕ) (input output : Type 0) (old new : MachineView) (s t : State) where
  to_course : (y : Going) (why : Came) → goes_for old.limits no_points (suc n) old.identifiers s ≡ y →
      CameTo y new.identifiers t why → Course no_points (suc n) input output old new s t (Ok why)
  to_course y why e c = came_to (goes_for old.limits no_points (suc n) old.identifiers s) y new.identifiers t why e c

  pub budget_course : RunEnds (suc n) old new s t Budget → Course no_points (suc n) input output old new s t (Ok came.Stopped)
  budget_course e =
      to_course (Goes t new.identifiers) came.Stopped
      (unpointed old.limits n old.identifiers s ∙ at_budget new t (ruled old.limits (suc n) old.identifiers s) e) (refl, refl, refl)

  pub halt_course : RunEnds (suc n) old new s t Halted → Course no_points (suc n) input output old new s t (Ok came.Halted)
  halt_course e =
      to_course (Ends t new.identifiers came.Halted) came.Halted
      (unpointed old.limits n old.identifiers s ∙ at_halt new t (ruled old.limits (suc n) old.identifiers s) e) (refl, refl, refl)

  fault_course : (stop : Stop) → stop ≢ Budget → stop ≢ Halted → EndsAs (ruled old.limits (suc n) old.identifiers s) new t stop →
      Course no_points (suc n) input output old new s t (Ok (came.Failed stop))
  fault_course stop budget halted e =
      to_course (Ends t new.identifiers (came.Failed stop)) (came.Failed stop)
      (unpointed old.limits n old.identifiers s ∙ at_fault new t stop (ruled old.limits (suc n) old.identifiers s) budget halted e) (refl, refl, refl)

  made_goes : (m : ℕ) (at : State) → ruled old.limits m old.identifiers s ≡ Stands at new.identifiers → at.halted ≡ false →
      goes_for old.limits no_points m old.identifiers s ≡ Goes at new.identifiers
  unfolding goes_for
  made_goes zero at e h = let f : Stands s old.identifiers ≡ Stands at new.identifiers = e in cc
  made_goes (suc m) at e h =
      unpointed old.limits m old.identifiers s ∙ ap going_of e ∙ goes_running at new.identifiers h

  early : (stop : Stop) → EndsEarly (suc n) old new s t stop → IsCutOff old.limits no_points (suc n) old.identifiers s stop new.identifiers t
  early stop e = record {
    made = e.made;
    fewer = e.fewer;
    at = e.at;
    goes = made_goes e.made e.at e.stands e.running;
    running = e.running;
    fails = e.fails;
    next = e.next;
    would_go = e.goes;
    remains = e.remains;
  }

  pub other_course : (stop : Stop) → stop ≢ Budget → stop ≢ Halted → (stop ≡ ReadFault → input) → (stop ≡ WriteFault → output) →
      RunEnds (suc n) old new s t stop → Course no_points (suc n) input output old new s t (came_by stop)
  other_course ReadFault budget halted i o e = (ReadFault, early ReadFault e, (refl, i refl))
  other_course WriteFault budget halted i o e = (WriteFault, early WriteFault e, (refl, o refl))
  other_course Memory budget halted i o e = (Memory, early Memory e, refl)
  other_course Budget budget halted i o e = absurd (budget refl)
  other_course Halted budget halted i o e = absurd (halted refl)
  other_course stop budget halted i o e = fault_course stop budget halted e

-- a call of `run`, as a course without points
pub as_course : (n : ℕ) → 1 ≤ n → (input output : Type 0) (before now : Seen) (stop : Stop) (result : Result Came DebugEnd) →
    ((k : ℕ) (s t : State) → RunEnds (suc k) before.machine now.machine s t stop →
    Course no_points (suc k) input output before.machine now.machine s t result) →
    GoesFromTo before now (λ s t. RunEnds n before.machine now.machine s t stop) →
    GoesFromTo before now (λ s t. Course no_points n input output before.machine now.machine s t result)
as_course zero some input output before now stop result ends run = absurd (omega (arith, some))
as_course (suc k) some input output before now stop result ends run =
    weakened before now (λ s t. RunEnds (suc k) before.machine now.machine s t stop)
    (λ s t. Course no_points (suc k) input output before.machine now.machine s t result) (ends k) run
