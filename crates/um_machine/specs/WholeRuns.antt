-- What runs come to together, and a run without what was written before it.
use Rattle.std.specs.Prelude.{◌≡◌, ◌≢◌, ℕ, ◌+◌, List, [], ◌++◌}
use Rattle.umix_base.specs.declared.limits.Limits.{Limits}
use Rattle.umix_base.specs.Causes.{KeepsTelling}
use Rattle.um_word.specs.State.{start_of}
use Rattle.um_machine.specs.declared.stop.Stop.{Stop}
use Rattle.um_machine.specs.declared.stop.Stop.TheVariants.{Budget}
use Rattle.um_machine.specs.MachineView.{state_of, machine_of}
use Rattle.um_machine.specs.Outside.{MayRest, MayHold}
use Rattle.um_machine.specs.Runs.{Seen, GoesFromTo, RunEnds}

-- a run of up to n cycles led from the one to the other, and this is why it stopped
abbrev pub RunsTo : ℕ → (before now : Seen) → Stop → Type 0
RunsTo n before now stop = GoesFromTo before now (λ s t. RunEnds n before.machine now.machine s t stop)

-- a run of n cycles that were all made, and then one of k, are a run of n + k
abbrev pub RunsJoin : Type 0
RunsJoin = (n k : ℕ) (before between now : Seen) (stop : Stop) →
    between.machine.limits ≡ before.machine.limits → RunsTo n before between Budget → RunsTo k between now stop →
    RunsTo (n + k) before now stop

-- a run that stopped otherwise than by its budget stops in the same way however many cycles more it may make
abbrev pub StoppedRunsStay : Type 0
StoppedRunsStay = (n k : ℕ) (before now : Seen) (stop : Stop) →
    stop ≢ Budget → RunsTo n before now stop → RunsTo (n + k) before now stop

-- A run, as it is from a state in which nothing was written: from a rest of the input that may have been
-- there to what is left of it, with the bytes that it wrote. They went out behind what was written before.
pub record RunsAlone (n : ℕ) (before now : Seen) (left : List ℕ) (stop : Stop) : Type 0 where
  pub rest : List ℕ
  pub may : MayRest before.input rest
  pub out : List ℕ
  pub ends : RunEnds n before.machine now.machine (state_of before.machine rest []) (state_of now.machine left out) stop
  pub wrote : (held : List ℕ) → MayHold before.output held → MayHold now.output (held ++ out)

abbrev pub RunsAreAlone : Type 0
RunsAreAlone = (n : ℕ) (before now : Seen) (left : List ℕ) (stop : Stop) →
    KeepsTelling before.output now.output → MayRest now.input left → RunsTo n before now stop →
    RunsAlone n before now left stop

-- so the run of words is the run from their start
abbrev pub StartsAtTheStart : Type 0
StartsAtTheStart = (words input : List ℕ) (limits : Limits) →
    state_of (machine_of words limits) input [] ≡ start_of words input
