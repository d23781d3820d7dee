-- How runs end.
use Rattle.std.proofs.Common.{◌≡◌, ℕ, suc, ◌+◌, ◌-◌, ◌<◌, ◌≤◌, List, [], true, false, Option, Some, refl, sym, ap, ◌∙◌, subst, arith, inl, inr}
use Rattle.std.specs.Prelude.{Err}
use Rattle.um_word.specs.State.{State}
use Rattle.um_word.specs.declared.op.Op.{Op}
use Rattle.um_word.specs.declared.op.Op.TheVariants.{Amend, Alloc, Out, Input}
use Rattle.um_word.specs.Table as table
use Rattle.um_word.specs.Table.{Next, Goes, Stops, Fault, cycle, op_under}
use Rattle.um_word.specs.Run.{Stands, Failed}
use Rattle.um_word.specs.Rule.{next_identifier, ruled}
use Rattle.um_machine.specs.declared.stop.Stop.{Stop}
use Rattle.um_machine.specs.declared.stop.Stop.TheVariants.{Halted, Budget, ReadFault, WriteFault, Memory}
use Rattle.um_machine.specs.MachineView.{MachineView, state_of}
use Rattle.um_machine.specs.Outside.{MayHold}
use Rattle.um_machine.specs.Stops.{stop_of, unfailed_end, MayFail}
use Rattle.um_machine.specs.inner.OperatorCalls.{AnswersRow, Wrote}
use Rattle.um_machine.specs.Runs.{Seen, Sends, EndsAs, Remains, EndsEarly, RunEnds}
use Rattle.um_machine.proofs.Cycles.{goes_on, stays, next, Made}

-- where a run may be taken to stand, and how it ended there
pub record Ended (n : ℕ) (old new : MachineView) (s : State) (left : List ℕ) (now : Option (List ℕ)) (stop : Stop) : Type 0 where
  pub sent : List ℕ
  pub holds : MayHold now sent
  pub ends : RunEnds n old new s (state_of new left sent) stop

-- a run that stands at a halted state stands there after more cycles
pub halted_end : (k n : ℕ) (old new : MachineView) (s : State) (left : List ℕ) (now : Option (List ℕ)) → k ≤ n →
    Made k old s new left now → new.halted ≡ true → Ended n old new s left now Halted
halted_end k n old new s left now le m h =
    let t : State = state_of new left m.sent in
    let e : n ≡ k + (n - k) = omega arith in
    let stands : ruled old.limits n old.identifiers s ≡ Stands t new.identifiers =
    ap (λ j. ruled old.limits j old.identifiers s) e
    ∙ goes_on old.limits k (n - k) old.identifiers new.identifiers s t m.stands
    ∙ stays old.limits (n - k) new.identifiers t h in
    record {
      sent = m.sent;
      holds = m.holds;
      ends = subst (λ x. EndsAs x new t Halted) (sym stands) (refl, refl, ap unfailed_end (sym h));
    }

pub budget_end : (n : ℕ) (old new : MachineView) (s : State) (left : List ℕ) (now : Option (List ℕ)) →
    Made n old s new left now → new.halted ≡ false → Ended n old new s left now Budget
budget_end n old new s left now m h = record {
  sent = m.sent;
  holds = m.holds;
  ends = subst (λ x. EndsAs x new (state_of new left m.sent) Budget) (sym m.stands) (refl, refl, ap unfailed_end (sym h));
}

-- a fault of the table is none of the outside or of memory
of_table : (fault : Fault) (n : ℕ) (old new : MachineView) (s t : State) →
    EndsAs (ruled old.limits n old.identifiers s) new t (stop_of fault) → RunEnds n old new s t (stop_of fault)
of_table table.FingerOutside n old new s t e = e
of_table _ n old new s t e = e

-- what isn't of the table ends a run early
early : (op : Option Op) (stop : Stop) (n : ℕ) (old new : MachineView) (s t : State) →
    MayFail op stop → EndsEarly n old new s t stop → RunEnds n old new s t stop
early (Some (Input c)) ReadFault n old new s t f e = e
early (Some (Out c)) WriteFault n old new s t f e = e
early (Some (Alloc b c)) Memory n old new s t f e = e
early (Some (Amend a b c)) Memory n old new s t f e = e
early op stop n old new s t f e = absurd f

-- a run whose next cycle failed
module _ (k n : ℕ) (first old : MachineView) (s : State) (left : List ℕ) (before now : Option (List ℕ)) (fewer : k < n)
    (m : Made k first s old left before) (running : old.halted ≡ false) (same : old.limits ≡ first.limits) where
  u : State
  u = state_of old left m.sent

  held : now ≡ before → MayHold now m.sent
  held e = subst (λ o. MayHold o m.sent) (sym e) m.holds

  remains : (stop : Stop) (t : State) → Wrote stop (now ≡ before) (MayHold now t.out) →
      (sent : List ℕ) × MayHold now sent × Remains stop (state_of old left m.sent) t (state_of old left sent)
  remains WriteFault t w = elim w [ inl e ↦ (m.sent, held e, inl refl) | inr h ↦ (t.out, h, inr refl) ]
  remains _ t w = (m.sent, held w, refl)

  stopped : (fault : Fault) → cycle (state_of old left m.sent) old.limits (next_identifier old.identifiers) ≡ Stops fault →
      ruled first.limits n first.identifiers s ≡ Failed (state_of old left m.sent) old.identifiers fault
  stopped fault q =
      let e : n ≡ k + suc (n - (k + 1)) = omega (arith, fewer) in
      ap (λ j. ruled first.limits j first.identifiers s) e
      ∙ goes_on first.limits k (suc (n - (k + 1))) first.identifiers old.identifiers s (state_of old left m.sent) m.stands
      ∙ subst (λ L. ruled L (suc (n - (k + 1))) old.identifiers (state_of old left m.sent) ≡ Failed (state_of old left m.sent) old.identifiers fault) same
      (next old.limits (n - (k + 1)) old.identifiers (state_of old left m.sent) (Stops fault) running q)

  at_fault : (fault : Fault) (stop : Stop) → cycle (state_of old left m.sent) old.limits (next_identifier old.identifiers) ≡ Stops fault →
      (stop ≡ stop_of fault) × (now ≡ before) → Ended n first old s left now stop
  at_fault fault stop q x = record {
    sent = m.sent;
    holds = held x.1;
    ends = subst (λ y. RunEnds n first old s (state_of old left m.sent) y) (sym x.0)
        (of_table fault n first old s (state_of old left m.sent)
        (subst (λ y. EndsAs y old (state_of old left m.sent) (stop_of fault)) (sym (stopped fault q)) (refl, refl, refl)));
  }

  at_failure : (stop : Stop) (t : State) → cycle (state_of old left m.sent) old.limits (next_identifier old.identifiers) ≡ Goes t →
      MayFail (op_under (state_of old [] [])) stop × Wrote stop (now ≡ before) (MayHold now t.out) → Ended n first old s left now stop
  at_failure stop t q x =
      let r = remains stop t x.1 in
      record {
        sent = r.0;
        holds = r.1;
        ends = early (op_under (state_of old [] [])) stop n first old s (state_of old left r.0) x.0 (record {
          made = k;
          fewer = fewer;
          at = state_of old left m.sent;
          stands = m.stands;
          running = running;
          fails = x.0;
          next = t;
          goes = subst (λ L. cycle (state_of old left m.sent) L (next_identifier old.identifiers) ≡ Goes t) same q;
          remains = r.2;
        });
      }

  go : (stop : Stop) (r : Next) → cycle (state_of old left m.sent) old.limits (next_identifier old.identifiers) ≡ r →
      AnswersRow (op_under (state_of old [] [])) old left before now r (Err stop) → Ended n first old s left now stop
  go stop (Goes t) q x = at_failure stop t q x
  go stop (Stops fault) q x = at_fault fault stop q x

pub failed_end : (k n : ℕ) (first old new : MachineView) (s : State) (left : List ℕ) (before now : Option (List ℕ)) (stop : Stop) → k < n →
    (m : Made k first s old left before) → old.halted ≡ false → old.limits ≡ first.limits → new ≡ old →
    AnswersRow (op_under (state_of old [] [])) new left before now (cycle (state_of old left m.sent) old.limits (next_identifier old.identifiers)) (Err stop) →
    Ended n first new s left now stop
failed_end k n first old new s left before now stop fewer m running limits same meets =
    subst (λ x. Ended n first x s left now stop) (sym same)
    (go k n first old s left before now fewer m running limits stop (cycle (state_of old left m.sent) old.limits (next_identifier old.identifiers)) refl
    (subst (λ x. AnswersRow (op_under (state_of old [] [])) x left before now (cycle (state_of old left m.sent) old.limits (next_identifier old.identifiers)) (Err stop)) same meets))

-- how a run ended, for what was written before
pub sent_by : (n : ℕ) (before now : Seen) (rest left held : List ℕ) (stop : Stop) →
    Ended n before.machine now.machine (state_of before.machine rest held) left now.output stop →
    Sends before now rest left held (λ s t. RunEnds n before.machine now.machine s t stop)
sent_by n before now rest left held stop e = record { out = e.sent; may = e.holds; call = e.ends }
