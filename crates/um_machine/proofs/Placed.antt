-- A machine whose finger and count of cycles are kept aside.
use Rattle.std.proofs.Common.{◌≡◌, ℕ, ◌+◌, List, [], Option, Some, false, refl, sym, ap, ◌∙◌, subst, arith}
use Rattle.std.specs.Prelude.{Ok, Err, slice_get}
use Rattle.umix_base.specs.declared.limits.Limits.{Limits}
use Rattle.um_word.specs.declared.op.Op.{Op}
use Rattle.um_word.specs.declared.op.Op.TheVariants.{Abandon}
use Rattle.um_word.specs.Operators.{decode_word}
use Rattle.um_word.specs.State.{State, array_at, platter}
use Rattle.um_word.specs.Table.{Next, Goes, Stops, FingerOutside, BadOperator, with_some, row, moved, cycle, op_of, op_under}
use Rattle.um_word.specs.Run.{Stands}
use Rattle.um_word.specs.Rule.{Identifiers, next_identifier, identifiers_left, left_by}
use Rattle.um_machine.specs.declared.stop.Turn.{Turn}
use Rattle.um_machine.specs.declared.stop.Stop.{Stop}
use Rattle.um_machine.specs.MachineView.{MachineView, state_of}
use Rattle.um_machine.specs.Outside.{MayHold}
use Rattle.um_machine.specs.Stops.{turn_of}
use Rattle.um_machine.specs.inner.OperatorCalls.{placed, op_at, AnswersRow}
use Rattle.um_machine.specs.Runs.{Sends, CycleEnds}
use Rattle.um_machine.proofs.Cycles.{Made, made_more}
use Rattle.um_machine.proofs.OneCycle.{cycle_sends}

left_alike : (op : Option Op) (m : MachineView) (f c : ℕ) (i : Identifiers) →
    left_by op (state_of (placed m f c) [] []) i ≡ left_by op (state_of (placed m f 0) [] []) i
left_alike (Some (Abandon k)) m f c i = refl
left_alike _ m f c i = refl

-- the identifiers that a cycle leaves don't depend on the count of cycles
pub left_uncounted : (m : MachineView) (f c : ℕ) (i : Identifiers) →
    identifiers_left (state_of (placed m f c) [] []) i ≡ identifiers_left (state_of (placed m f 0) [] []) i
left_uncounted m f c i = left_alike (op_at m f) m f c i

-- what a failed cycle says doesn't depend on the machine that it leaves
pub failed_alike : (op : Option Op) (m new : MachineView) (left : List ℕ) (before now : Option (List ℕ)) (r : Next) (stop : Stop) →
    AnswersRow op m left before now r (Err stop) → AnswersRow op new left before now r (Err stop)
failed_alike op m new left before now (Goes t) stop x = x
failed_alike op m new left before now (Stops fault) stop x = x

-- a cycle is the row of the operator under the finger
pub under : (s : State) (L : Limits) (id word : ℕ) (op : Op) → platter s ≡ Some word → decode_word word ≡ Some op →
    cycle s L id ≡ row op L id (moved s)
under s L id word op p d =
    ap (λ x. with_some x FingerOutside (λ word. with_some (decode_word word) BadOperator (λ op. row op L id (moved s)))) p
    ∙ ap (λ x. with_some x BadOperator (λ op. row op L id (moved s))) d

pub row_failed : (m mid new : MachineView) (f cycles : ℕ) (left held : List ℕ) (L : Limits) (id word : ℕ) (op : Op) (stop : Stop) (before now : Option (List ℕ)) →
    slice_get (array_at m.arrays 0) f ≡ Some word → decode_word word ≡ Some op →
    AnswersRow (Some op) mid left before now (row op L id (state_of (placed m (f + 1) (cycles + 1)) left held)) (Err stop) →
    AnswersRow (op_at m f) new left before now (cycle (state_of (placed m f cycles) left held) L id) (Err stop)
row_failed m mid new f cycles left held L id word op stop before now p d meets =
    let s : State = state_of (placed m f cycles) left held in
    let o : op_at m f ≡ Some op = ap op_of p ∙ d in
    subst (λ x. AnswersRow x new left before now (cycle s L id) (Err stop)) (sym o)
    (subst (λ r. AnswersRow (Some op) new left before now r (Err stop)) (sym (under s L id word op p d))
    (failed_alike (Some op) mid new left before now (row op L id (moved s)) stop meets))

-- before the first cycle
pub made_none : (m : MachineView) (f : ℕ) (left held : List ℕ) (now : Option (List ℕ)) → f ≡ m.finger → MayHold now held →
    Made 0 m (state_of m left held) (placed m f (m.cycles + 0)) left now
made_none m f left held now e holds =
    let none : m.cycles ≡ m.cycles + 0 = omega arith in
    record {
      sent = held;
      holds = holds;
      stands =
          ap (λ x. Stands (state_of (placed m x m.cycles) left held) m.identifiers) (sym e)
          ∙ ap (λ x. Stands (state_of (placed m f x) left held) m.identifiers) none;
    }

-- one more
pub made_on : (n : ℕ) (first : MachineView) (s : State) (old new : MachineView) (f there : ℕ) (rest left : List ℕ) (before now : Option (List ℕ)) (turn : Turn) →
    (m : Made n first s (placed old f (first.cycles + n)) rest before) → old.halted ≡ false → old.limits ≡ first.limits →
    new.identifiers ≡ identifiers_left (state_of (placed old f 0) [] []) old.identifiers →
    AnswersRow (op_at old f) (placed new there (first.cycles + n + 1)) left before now
    (cycle (state_of (placed old f (first.cycles + n)) rest m.sent) old.limits (next_identifier old.identifiers)) (Ok turn) →
    Made (n + 1) first s (placed new there (first.cycles + (n + 1))) left now
made_on n first s old new f there rest left before now turn m h same ids meets =
    let e : first.cycles + n + 1 ≡ first.cycles + (n + 1) = omega arith in
    subst (λ c. Made (n + 1) first s (placed new there c) left now) e
    (made_more n first s (placed old f (first.cycles + n)) (placed new there (first.cycles + n + 1)) rest left before now turn m h same
    (ids ∙ sym (left_uncounted old f (first.cycles + n) old.identifiers)) meets)

-- where a count is another's equal
pub settled : (new mid : MachineView) (f a b : ℕ) → new ≡ placed mid f a → a ≡ b → new ≡ placed mid f b
settled new mid f a b e same = e ∙ ap (placed mid f) same

-- one cycle that was made, with its finger and its count written back
pub cycle_made : (old mid new : MachineView) (f there : ℕ) (input asked before now : Option (List ℕ)) (rest left held : List ℕ) (turn : Turn) →
    old.halted ≡ false → MayHold before held → f ≡ old.finger → mid.cycles ≡ old.cycles → new ≡ placed mid there (mid.cycles + 1) →
    AnswersRow (op_at old f) (placed mid there (old.cycles + 1)) left before now
    (cycle (state_of (placed old f old.cycles) rest held) old.limits (next_identifier old.identifiers)) (Ok turn) →
    turn ≡ turn_of mid.halted → mid.identifiers ≡ identifiers_left (state_of (placed old f 0) [] []) old.identifiers →
    Sends (record { machine = old; input = input; output = before }) (record { machine = new; input = asked; output = now }) rest left held
    (λ s t. CycleEnds old new s t (Ok turn))
cycle_made old mid new f there input asked before now rest left held turn h holds at counted settled meets is ids =
    let e : new ≡ placed mid there (old.cycles + 1) = settled ∙ ap (λ n. placed mid there (n + 1)) counted in
    let left_same : mid.identifiers ≡ identifiers_left (state_of old [] []) old.identifiers =
    ids ∙ sym (left_uncounted old f old.cycles old.identifiers)
    ∙ ap (λ x. identifiers_left (state_of (placed old x old.cycles) [] []) old.identifiers) at in
    let row_same : AnswersRow (op_under (state_of old [] [])) (placed mid there (old.cycles + 1)) left before now
    (cycle (state_of old rest held) old.limits (next_identifier old.identifiers)) (Ok turn) =
    subst (λ x. AnswersRow (op_at old x) (placed mid there (old.cycles + 1)) left before now
    (cycle (state_of (placed old x old.cycles) rest held) old.limits (next_identifier old.identifiers)) (Ok turn)) at meets in
    subst (λ m. Sends (record { machine = old; input = input; output = before }) (record { machine = m; input = asked; output = now }) rest left held
    (λ s t. CycleEnds old m s t (Ok turn))) (sym e)
    (cycle_sends (record { machine = old; input = input; output = before }) (record { machine = placed mid there (old.cycles + 1); input = asked; output = now })
    rest left held (Ok turn) h holds row_same is left_same tt)

-- one cycle that failed
pub cycle_failed : (old new : MachineView) (f there : ℕ) (input asked before now : Option (List ℕ)) (left held : List ℕ) (stop : Stop) →
    old.halted ≡ false → MayHold before held → f ≡ old.finger → new ≡ old →
    AnswersRow (op_at old f) (placed new there (old.cycles + 1)) left before now
    (cycle (state_of (placed old f old.cycles) left held) old.limits (next_identifier old.identifiers)) (Err stop) →
    Sends (record { machine = old; input = input; output = before }) (record { machine = new; input = asked; output = now }) left left held
    (λ s t. CycleEnds old new s t (Err stop))
cycle_failed old new f there input asked before now left held stop h holds at kept meets =
    let row_same : AnswersRow (op_under (state_of old [] [])) (placed new there (old.cycles + 1)) left before now
    (cycle (state_of old left held) old.limits (next_identifier old.identifiers)) (Err stop) =
    subst (λ x. AnswersRow (op_at old x) (placed new there (old.cycles + 1)) left before now
    (cycle (state_of (placed old x old.cycles) left held) old.limits (next_identifier old.identifiers)) (Err stop)) at meets in
    cycle_sends (record { machine = old; input = input; output = before }) (record { machine = new; input = asked; output = now })
    left left held (Err stop) h holds
    (failed_alike (op_under (state_of old [] [])) (placed new there (old.cycles + 1)) new left before now
    (cycle (state_of old left held) old.limits (next_identifier old.identifiers)) stop row_same) tt tt (kept, refl)
