-- What a run of the machine comes to.
use Rattle.std.specs.Prelude.{◌≡◌, ℕ, ◌<◌, ◌⊎◌, false, List, Option, Result, Ok, Err}
use Rattle.umix_base.specs.declared.source.Source as source
use Rattle.umix_base.specs.declared.sink.Sink as sink
use Rattle.um_word.specs.State.{State}
use Rattle.um_word.specs.Table.{Goes, cycle, op_under}
use Rattle.um_word.specs.Run.{Standing, Stands, Failed}
use Rattle.um_word.specs.Rule.{Identifiers, next_identifier, ruled}
use Rattle.um_machine.specs.declared.stop.Turn.{Turn}
use Rattle.um_machine.specs.declared.stop.Turn.TheVariants as turns
use Rattle.um_machine.specs.declared.stop.Stop.{Stop}
use Rattle.um_machine.specs.declared.stop.Stop.TheVariants.{Halted, Budget, ReadFault, WriteFault, Memory}
use Rattle.um_machine.specs.MachineView.{MachineView, state_of}
use Rattle.um_machine.specs.Outside.{MayRest, MayHold}
use Rattle.um_machine.specs.Stops.{stop_of, unfailed_end, MayFail}

-- a machine, with what its source and its sink tell
pub record Seen : Type 0 where
  pub machine : MachineView
  pub input : Option (List ℕ)
  pub output : Option (List ℕ)

abbrev pub seen_by : {I O : Type 0} → source.Ghosts I → sink.Ghosts O → MachineView → I → O → Seen
seen_by i o machine input out = record { machine = machine; input = i.rest input; output = o.written out }

-- an output that may have been received after a call, with which it led from the one state to the other
pub record Sends (before now : Seen) (rest left held : List ℕ) (Call : State → State → Type 0) : Type 0 where
  pub out : List ℕ
  pub may : MayHold now.output out
  pub call : Call (state_of before.machine rest held) (state_of now.machine left out)

-- a rest of the input that may have been there before a call, whatever was written before it
pub record Took (before now : Seen) (left : List ℕ) (Call : State → State → Type 0) : Type 0 where
  pub rest : List ℕ
  pub may : MayRest before.input rest
  pub sends : (held : List ℕ) → MayHold before.output held → Sends before now rest left held Call

-- Whatever is left of the input, a call led there from a rest before it; and whatever was written before
-- it, it led to what is written now. Where source and sink tell, these are what they tell.
abbrev pub GoesFromTo : (before now : Seen) → (State → State → Type 0) → Type 0
GoesFromTo before now Call = (left : List ℕ) → MayRest now.input left → Took before now left Call

-- the machine stands where the run stands, and tells why
abbrev pub EndsAs : Standing Identifiers → MachineView → State → Stop → Type 0
EndsAs (Stands u identifiers) new t stop = (u ≡ t) × (identifiers ≡ new.identifiers) × (stop ≡ unfailed_end t.halted)
EndsAs (Failed u identifiers fault) new t stop = (u ≡ t) × (identifiers ≡ new.identifiers) × (stop ≡ stop_of fault)

-- a cycle that failed leaves the state as it was, but for the byte of a failed Output, which may be out
abbrev pub Remains : Stop → (u next t : State) → Type 0
Remains WriteFault u next t = (t ≡ u) ⊎ (t ≡ record u { out = next.out })
Remains stop u next t = t ≡ u

-- Fewer than n cycles were made. The next one would go on by the table, but the outside or the memory
-- failed it.
pub record EndsEarly (n : ℕ) (old new : MachineView) (s t : State) (stop : Stop) : Type 0 where
  pub made : ℕ
  pub fewer : made < n
  pub at : State
  pub stands : ruled old.limits made old.identifiers s ≡ Stands at new.identifiers
  pub running : at.halted ≡ false
  pub fails : MayFail (op_under at) stop
  pub next : State
  pub goes : cycle at old.limits (next_identifier new.identifiers) ≡ Goes next
  pub remains : Remains stop at next t

-- up to n cycles with the identifiers of the rule, from s to t
abbrev pub RunEnds : ℕ → (old new : MachineView) → (s t : State) → Stop → Type 0
RunEnds n old new s t ReadFault = EndsEarly n old new s t ReadFault
RunEnds n old new s t WriteFault = EndsEarly n old new s t WriteFault
RunEnds n old new s t Memory = EndsEarly n old new s t Memory
RunEnds n old new s t stop = EndsAs (ruled old.limits n old.identifiers s) new t stop

-- one cycle is a run of one; it never answers that a budget is spent
abbrev pub CycleEnds : (old new : MachineView) → (s t : State) → Result Turn Stop → Type 0
CycleEnds old new s t (Ok turns.Running) = RunEnds 1 old new s t Budget
CycleEnds old new s t (Ok turns.Halted) = RunEnds 1 old new s t Halted
CycleEnds old new s t (Err Halted) = ⊥
CycleEnds old new s t (Err Budget) = ⊥
CycleEnds old new s t (Err stop) = RunEnds 1 old new s t stop
