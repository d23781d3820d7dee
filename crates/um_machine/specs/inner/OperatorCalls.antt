-- What the machine's own calls of one cycle say, by the row of the operator. Public clauses are in Runs.
use Rattle.std.specs.Prelude.{◌≡◌, ℕ, ◌+◌, ◌⊎◌, List, [], ◌∷◌, Option, Some, None, Result, Ok, Err}
use Rattle.std.specs.Prelude.{OnOk, OnErr, slice_index}
use Rattle.um_word.specs.declared.op.Op.{Op}
use Rattle.um_word.specs.declared.op.Op.TheVariants.{Input, Load}
use Rattle.um_word.specs.State.{State}
use Rattle.um_word.specs.Table.{Next, Goes, Stops, row, cycle, op_under}
use Rattle.um_word.specs.Rule.{next_identifier, left_by}
use Rattle.um_machine.specs.declared.stop.Turn.{Turn}
use Rattle.um_machine.specs.declared.stop.Stop.{Stop}
use Rattle.um_machine.specs.declared.stop.Stop.TheVariants.{ReadFault, WriteFault}
use Rattle.um_machine.specs.MachineView.{MachineView, state_of}
use Rattle.um_machine.specs.Outside.{MayRest, MayHold}
use Rattle.um_machine.specs.Stops.{stop_of, turn_of, MayFail}

-- the machine with its finger at this offset, and with this count of cycles
abbrev pub placed : MachineView → (finger cycles : ℕ) → MachineView
placed m finger cycles = record m { finger = finger; cycles = cycles }

-- the operator under a finger
abbrev pub op_at : MachineView → (finger : ℕ) → Option Op
op_at m finger = op_under (state_of (placed m finger 0) [] [])

-- where an operator leaves the finger that has moved on
abbrev pub finger_left : Op → MachineView → (finger : ℕ) → ℕ
finger_left (Load b c) m finger = slice_index m.registers c
finger_left op m finger = finger

-- a cycle that failed has written nothing, or at a failed Output perhaps its byte
abbrev pub Wrote : Stop → (nothing byte : Type 0) → Type 0
Wrote WriteFault nothing byte = nothing ⊎ byte
Wrote stop nothing byte = nothing

-- An answer and what it leaves, by what the cycle comes to: the machine, the rest of the input, and what
-- the sink held before and holds now.
abbrev pub AnswersRow : Option Op → MachineView → List ℕ → Option (List ℕ) → Option (List ℕ) →
    Next → Result Turn Stop → Type 0
AnswersRow op new left before now (Goes t) (Ok turn) = (turn ≡ turn_of t.halted) ×
    (t ≡ state_of new left t.out) × MayHold now t.out
AnswersRow op new left before now (Goes t) (Err stop) = MayFail op stop × Wrote stop (now ≡ before) (MayHold now t.out)
AnswersRow op new left before now (Stops fault) (Ok turn) = ⊥
AnswersRow op new left before now (Stops fault) (Err stop) = (stop ≡ stop_of fault) × (now ≡ before)

-- the rest of a source before a call, by the rest after it: at an Input of one that doesn't tell, also what
-- came into the register
abbrev pub rest_before : Result Turn Stop → Option Op → Option (List ℕ) → List ℕ → List ℕ → List ℕ
rest_before (Ok turn) (Some (Input c)) None registers left = slice_index registers c ∷ left
rest_before (Ok turn) (Some (Input c)) (Some told) registers left = told
rest_before result op before registers left = left

-- an answer and what it leaves, whatever may be left of the input and may have been written before:
-- by what the cycle comes to of each state
abbrev pub AnswersCall : Option Op → (State → Next) → (old new : MachineView) →
    (rest left_rest before now : Option (List ℕ)) → Result Turn Stop → Type 0
AnswersCall op comes old new rest left_rest before now result =
    (left : List ℕ) → MayRest left_rest left → (held : List ℕ) → MayHold before held →
    AnswersRow op new left before now
    (comes (state_of old (rest_before result op rest new.registers left) held)) result

-- what an operator's row, and a cycle, come to of each state of a machine
abbrev pub row_of : Op → MachineView → State → Next
row_of op m s = row op m.limits (next_identifier m.identifiers) s

abbrev pub cycle_of : MachineView → State → Next
cycle_of m s = cycle s m.limits (next_identifier m.identifiers)

-- an answer and the machine that it leaves, of a call that asks neither the source nor the sink
abbrev pub AnswersRowAlone : Op → MachineView → (rest out : List ℕ) → Next → Result (Unit {0}) Stop → Type 0
AnswersRowAlone op new rest out (Goes t) (Ok done) = t ≡ state_of new rest out
AnswersRowAlone op new rest out (Goes t) (Err stop) = MayFail (Some op) stop
AnswersRowAlone op new rest out (Stops fault) (Ok done) = ⊥
AnswersRowAlone op new rest out (Stops fault) (Err stop) = stop ≡ stop_of fault

-- what the call for one operator that asks neither of them answers and leaves
pub record DoesRow (op : Op) (old new : MachineView) (result : Result (Unit {0}) Stop) : Type 0 where
  pub row : (finger cycles : ℕ) (rest out : List ℕ) →
      AnswersRowAlone op (placed new (finger_left op old finger) cycles) rest out
      (row op old.limits (next_identifier old.identifiers) (state_of (placed old finger cycles) rest out)) result
  pub identifiers : OnOk result (new.identifiers ≡ left_by (Some op) (state_of old [] []) old.identifiers)
  pub limits : new.limits ≡ old.limits
  pub halted : new.halted ≡ old.halted
  pub place : (new.finger ≡ old.finger) × (new.cycles ≡ old.cycles)
  pub kept : OnErr result (new ≡ old)
  pub inside : (result ≡ Err ReadFault → ⊥) × (result ≡ Err WriteFault → ⊥)
