-- One cycle as a run of one.
use Rattle.std.proofs.Common.{◌≡◌, ℕ, List, [], false, Option, Some, None, refl, sym, subst, arith}
use Rattle.std.specs.Prelude.{Result, Ok, Err, OnOk, OnErr, IfOk}
use Rattle.um_word.specs.declared.op.Op.{Op}
use Rattle.um_word.specs.declared.op.Op.TheVariants.{Input}
use Rattle.um_word.specs.State.{State}
use Rattle.um_word.specs.Table as table
use Rattle.um_word.specs.Table.{Next, Goes, Stops, Fault, cycle, op_under}
use Rattle.um_word.specs.Rule.{next_identifier, identifiers_left}
use Rattle.um_machine.specs.declared.stop.Turn.{Turn}
use Rattle.um_machine.specs.declared.stop.Turn.TheVariants as turns
use Rattle.um_machine.specs.declared.stop.Stop.{Stop}
use Rattle.um_machine.specs.declared.stop.Stop.TheVariants.{Halted, Budget}
use Rattle.um_machine.specs.MachineView.{MachineView, state_of}
use Rattle.um_machine.specs.Outside.{MayHold}
use Rattle.um_machine.specs.Stops.{stop_of, turn_of, MayFail}
use Rattle.um_machine.specs.inner.OperatorCalls.{AnswersRow, rest_before}
use Rattle.um_machine.specs.Runs.{Seen, Sends, RunEnds, CycleEnds}
use Rattle.um_machine.proofs.Cycles.{made_more, still_running, now_halted}
use Rattle.um_machine.proofs.Ends.{halted_end, budget_end, failed_end, sent_by}

not_halted : (fault : Fault) → Halted ≡ stop_of fault → ⊥
not_halted table.FingerOutside e = cc
not_halted _ e = cc

not_budget : (fault : Fault) → Budget ≡ stop_of fault → ⊥
not_budget table.FingerOutside e = cc
not_budget _ e = cc

may_not_halt : (op : Option Op) → MayFail op Halted → ⊥
may_not_halt None f = f
may_not_halt (Some (Input c)) f = f
may_not_halt _ f = f

may_not_budget : (op : Option Op) → MayFail op Budget → ⊥
may_not_budget None f = f
may_not_budget (Some (Input c)) f = f
may_not_budget _ f = f

module _ (op : Option Op) (old new : MachineView) (left : List ℕ) (before now : Option (List ℕ)) where
  never_halted : (r : Next) → AnswersRow op new left before now r (Err Halted) → ⊥
  never_halted (Goes t) x = may_not_halt op x.0
  never_halted (Stops fault) x = not_halted fault x.0

  never_budget : (r : Next) → AnswersRow op new left before now r (Err Budget) → ⊥
  never_budget (Goes t) x = may_not_budget op x.0
  never_budget (Stops fault) x = not_budget fault x.0

  failed : (stop : Stop) (r : Next) (s t : State) → AnswersRow op new left before now r (Err stop) → RunEnds 1 old new s t stop → CycleEnds old new s t (Err stop)
  failed Halted r s t x e = absurd (never_halted r x)
  failed Budget r s t x e = absurd (never_budget r x)
  failed _ r s t x e = e

-- one cycle of a running machine
pub cycle_sends : (before now : Seen) (rest left held : List ℕ) (r : Result Turn Stop) →
    before.machine.halted ≡ false → MayHold before.output held →
    AnswersRow (op_under (state_of before.machine [] [])) now.machine left before.output now.output
    (cycle (state_of before.machine rest held) before.machine.limits (next_identifier before.machine.identifiers)) r →
    IfOk r (λ turn. turn ≡ turn_of now.machine.halted) →
    OnOk r (now.machine.identifiers ≡ identifiers_left (state_of before.machine [] []) before.machine.identifiers) →
    OnErr r ((now.machine ≡ before.machine) × (rest ≡ left)) →
    Sends before now rest left held (λ s t. CycleEnds before.machine now.machine s t r)
cycle_sends before now rest left held (Ok turns.Running) h holds meets turn ids kept =
    sent_by 1 before now rest left held Budget
    (budget_end 1 before.machine now.machine (state_of before.machine rest held) left now.output
    (made_more 0 before.machine (state_of before.machine rest held) before.machine now.machine rest left before.output now.output turns.Running (record { sent = held; holds = holds; stands = refl }) h refl ids meets)
    (still_running now.machine turn))
cycle_sends before now rest left held (Ok turns.Halted) h holds meets turn ids kept =
    sent_by 1 before now rest left held Halted
    (halted_end 1 1 before.machine now.machine (state_of before.machine rest held) left now.output (omega arith)
    (made_more 0 before.machine (state_of before.machine rest held) before.machine now.machine rest left before.output now.output turns.Halted (record { sent = held; holds = holds; stands = refl }) h refl ids meets)
    (now_halted now.machine turn))
cycle_sends before now rest left held (Err stop) h holds meets turn ids kept =
    let old : MachineView = before.machine in
    let new : MachineView = now.machine in
    let same : rest ≡ left = kept.1 in
    let meets' : AnswersRow (op_under (state_of old [] [])) new left before.output now.output (cycle (state_of old left held) old.limits (next_identifier old.identifiers)) (Err stop) =
    subst (λ x. AnswersRow (op_under (state_of old [] [])) new left before.output now.output (cycle (state_of old x held) old.limits (next_identifier old.identifiers)) (Err stop)) same meets in
    let e = failed_end 0 1 old old new (state_of old left held) left before.output now.output stop (omega arith) (record { sent = held; holds = holds; stands = refl }) h refl kept.0 meets' in
    subst (λ x. Sends before now x left held (λ s t. CycleEnds old new s t (Err stop))) (sym same) (record {
      out = e.sent;
      may = e.holds;
      call = failed (op_under (state_of old [] [])) old new left before.output now.output stop (cycle (state_of old left held) old.limits (next_identifier old.identifiers)) (state_of old left held) (state_of new left e.sent) meets' e.ends;
    })

-- a cycle that failed took nothing from its source
pub kept_rest : (r : Result Turn Stop) (old new : MachineView) (Q : Type 0) (op : Option Op) (before : Option (List ℕ)) (registers left : List ℕ) →
    OnErr r ((new ≡ old) × Q) → OnErr r ((new ≡ old) × (rest_before r op before registers left ≡ left))
kept_rest (Ok turn) old new Q op before registers left kept = tt
kept_rest (Err stop) old new Q op before registers left kept = (kept.0, refl)
