-- Cycles that go on, one after another.
use Rattle.std.proofs.Common.{◌≡◌, ℕ, suc, ◌+◌, List, [], Bool, true, false, Option, Some, refl, sym, ap, ◌∙◌, subst}
use Rattle.std.specs.Prelude.{if◌then◌else◌, Ok}
use Rattle.umix_base.specs.declared.limits.Limits.{Limits}
use Rattle.um_word.specs.declared.op.Op.{Op}
use Rattle.um_word.specs.declared.op.Op.TheVariants.{Abandon}
use Rattle.um_word.specs.State.{State}
use Rattle.um_word.specs.Table.{Next, Goes, Stops, cycle, op_under}
use Rattle.um_word.specs.Run.{Stands, run_after, going_on}
use Rattle.um_word.specs.Rule.{Identifiers, next_identifier, identifiers_left, left_by, ruled}
use Rattle.um_word.proofs.Runs.{runs_compose, halted_stays}
use Rattle.um_machine.specs.declared.stop.Turn.{Turn}
use Rattle.um_machine.specs.declared.stop.Turn.TheVariants as turns
use Rattle.um_machine.specs.MachineView.{MachineView, state_of}
use Rattle.um_machine.specs.Outside.{MayHold}
use Rattle.um_machine.specs.Stops.{turn_of}
use Rattle.um_machine.specs.inner.OperatorCalls.{AnswersRow}

pub goes_on : (L : Limits) (n k : ℕ) (i j : Identifiers) (s t : State) → ruled L n i s ≡ Stands t j → ruled L (n + k) i s ≡ ruled L k j t
goes_on L n k i j s t e =
    runs_compose next_identifier identifiers_left L n k i s ∙ ap (λ x. going_on x (λ t j. ruled L k j t)) e

pub stays : (L : Limits) (m : ℕ) (i : Identifiers) (s : State) → s.halted ≡ true → ruled L m i s ≡ Stands s i
stays L m i s e = halted_stays next_identifier identifiers_left L m i s e

-- the next cycle of a run
pub next : (L : Limits) (n : ℕ) (i : Identifiers) (s : State) (r : Next) → s.halted ≡ false → cycle s L (next_identifier i) ≡ r →
    ruled L (suc n) i s ≡ run_after r s i (ruled L n (identifiers_left s i))
next L n i s r h g =
    ap (λ b. if b then Stands s i else run_after (cycle s L (next_identifier i)) s i (ruled L n (identifiers_left s i))) h
    ∙ ap (λ r. run_after r s i (ruled L n (identifiers_left s i))) g

left_alike : (op : Option Op) (m : MachineView) (rest out : List ℕ) (i : Identifiers) →
    left_by op (state_of m rest out) i ≡ left_by op (state_of m [] []) i
left_alike (Some (Abandon c)) m rest out i = refl
left_alike _ m rest out i = refl

-- the identifiers that a cycle leaves don't depend on input and output
pub left_same : (m : MachineView) (rest out : List ℕ) (i : Identifiers) →
    identifiers_left (state_of m rest out) i ≡ identifiers_left (state_of m [] []) i
left_same m rest out i = left_alike (op_under (state_of m rest out)) m rest out i

-- n cycles were made, and came here
pub record Made (n : ℕ) (old : MachineView) (s : State) (new : MachineView) (left : List ℕ) (now : Option (List ℕ)) : Type 0 where
  pub sent : List ℕ
  pub holds : MayHold now sent
  pub stands : ruled old.limits n old.identifiers s ≡ Stands (state_of new left sent) new.identifiers

-- one more
pub made_more : (n : ℕ) (first : MachineView) (s : State) (old new : MachineView) (rest left : List ℕ) (before now : Option (List ℕ)) (turn : Turn) →
    (m : Made n first s old rest before) → old.halted ≡ false → old.limits ≡ first.limits →
    new.identifiers ≡ identifiers_left (state_of old [] []) old.identifiers →
    AnswersRow (op_under (state_of old [] [])) new left before now (cycle (state_of old rest m.sent) old.limits (next_identifier old.identifiers)) (Ok turn) →
    Made (n + 1) first s new left now
made_more n first s old new rest left before now turn m h same ids meets =
    go (cycle (state_of old rest m.sent) old.limits (next_identifier old.identifiers)) refl meets
  where
    u : State
    u = state_of old rest m.sent

    go : (r : Next) → cycle u old.limits (next_identifier old.identifiers) ≡ r →
        AnswersRow (op_under (state_of old [] [])) new left before now r (Ok turn) → Made (n + 1) first s new left now
    go (Stops fault) q x = absurd x
    go (Goes t) q x = record {
      sent = t.out;
      holds = x.2;
      stands =
          goes_on first.limits n 1 first.identifiers old.identifiers s u m.stands
          ∙ subst (λ L. ruled L 1 old.identifiers u ≡ Stands t (identifiers_left u old.identifiers)) same (next old.limits 0 old.identifiers u (Goes t) h q)
          ∙ ap (λ v. Stands v (identifiers_left u old.identifiers)) x.1
          ∙ ap (Stands (state_of new left t.out)) (left_same old rest m.sent old.identifiers ∙ sym ids);
    }

turn_true : (b : Bool) → turns.Halted ≡ turn_of b → b ≡ true
turn_true true e = refl
turn_true false e = cc

turn_false : (b : Bool) → turns.Running ≡ turn_of b → b ≡ false
turn_false false e = refl
turn_false true e = cc

pub still_running : (m : MachineView) → turns.Running ≡ turn_of m.halted → m.halted ≡ false
still_running m e = turn_false m.halted e

pub now_halted : (m : MachineView) → turns.Halted ≡ turn_of m.halted → m.halted ≡ true
now_halted m e = turn_true m.halted e
