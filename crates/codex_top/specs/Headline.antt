-- The headline: one meaning ties a grid's events, `eval` of it, and `run` of what was compiled.
use Rattle.std.specs.Prelude.{◌≡◌, ◌⊎◌, ℕ, ◌+◌, ◌^◌, ◌<◌, ◌≤◌, true, false, Some, None, Ok}
use Rattle.std.specs.Prelude.{List, [], ◌++◌, length, slice_index}
use Rattle.umix_base.specs.Causes.{Rose}
use Rattle.um_word.specs.Loads.{IsLimit, fault_in, state_in}
use Rattle.um_word.specs.Rule.{Identifiers, none_made, ruled}
use Rattle.um_word.specs.Run.{Standing}
use Rattle.um_word.specs.Scroll.{scroll}
use Rattle.um_word.specs.State.{start_of}
use Rattle.um_word.specs.Table.{Fault}
use Rattle.two_d.specs.Program.{program_of}
use Rattle.two_d.specs.Programs.{Program}
use Rattle.two_d.specs.Meaning.{Meaning, Outcome}
use Rattle.two_d.specs.Steps.{Choice, Event, Table, HasMeaning, HasNoOutcome}
use Rattle.two_d.specs.Steps.{EachReady, IsStateOf, instance_at, is_ready, start}
use Rattle.two_d.specs.Texts.{text_of}
use Rattle.lower_link.specs.Realises.{AreEnough, Realises}
use Rattle.codex_top.specs.declared.status.Status.{Status}
use Rattle.codex_top.specs.declared.status.Status.TheVariants.{Done, Stuck, Limit, Budget}
use Rattle.codex_top.specs.declared.status.Status.TheVariants.{ReadFault, WriteFault, Memory}
use Rattle.codex_top.specs.Calls.{Call, Wrote, WroteNothing, Has, EachCall}
use Rattle.codex_top.specs.Endings.{status_of_finish}
use Rattle.codex_top.specs.Evaluating.{finish_of, IsMeantWithin, IsSpent}
use Rattle.codex_top.specs.Limits.{limits}
use Rattle.codex_top.specs.Words.{checks, evaluates, compiles, runs}

-- In whatever order boxes fire: a state in which instance 0 has ended has the outcome that the
-- program means; in one in which it hasn't, an event is ready; and no more events come than the
-- meaning takes.
pub record EveryOrderAgrees (P : Program) : Type 0 where
  pub agrees : (T : Table) (o : Outcome) → IsStateOf P T → (instance_at T 0).outcome ≡ Some o →
      (r : Meaning) × HasMeaning P r × (r.outcome ≡ o)
  pub some_ready : (T : Table) → IsStateOf P T → (instance_at T 0).outcome ≡ None →
      (e : Event) × (is_ready P T e ≡ true)
  pub ends : (r : Meaning) (events : List Event) → HasMeaning P r → EachReady P (start P) events →
      length events ≤ r.firings + r.instances

-- where a command writes what it makes: to the output, or into a file
pub data Target : Type 0 where
  Output File : Target

-- What cuts a call short, with its status: there was no memory; or the outside failed in this call,
-- and counted it.
pub data IsCutShort (target : Target) (c : Call) : Status → Type 0 where
  no_memory : IsCutShort target c Memory
  read_failed : Rose c.before.shelf.read_faults c.now.shelf.read_faults →
      IsCutShort target c ReadFault
  write_failed : target ≡ File → Rose c.before.shelf.write_faults c.now.shelf.write_faults →
      IsCutShort target c WriteFault
  output_failed : target ≡ Output →
      Rose c.before.streams.output.faults c.now.streams.output.faults →
      IsCutShort target c WriteFault
  err_failed : Rose c.err_before.faults c.err_now.faults → IsCutShort target c WriteFault

-- How `eval` stops that has so many events to make. It wrote the text of what the program means; or
-- nothing, since so many events aren't enough; or it was cut short, before that text or within it.
pub data EvalStops (P : Program) (events : ℕ) (c : Call) : Status → Type 0 where
  told : (r : Meaning) → IsMeantWithin events P r → Wrote (text_of P r.outcome) c →
      EvalStops P events c (status_of_finish (finish_of r.outcome))
  spent : IsSpent events P → WroteNothing c → EvalStops P events c Budget
  cut_before : (status : Status) → IsCutShort Output c status → WroteNothing c →
      EvalStops P events c status
  cut_within : (r : Meaning) (wrote more : List ℕ) (status : Status) →
      IsCutShort Output c status → IsMeantWithin events P r →
      wrote ++ more ≡ text_of P r.outcome → Wrote wrote c → EvalStops P events c status

-- How the run of the machine's definition stands that makes so many cycles from the start of these
-- words: under the program's limits, with the identifiers of the rule, and on no input.
abbrev pub run_of : (words : List ℕ) (cycles : ℕ) → Standing Identifiers
run_of words cycles = ruled limits cycles none_made (start_of words [])

-- a run still goes
pub record IsGoing (run : Standing Identifiers) : Type 0 where
  pub faultless : fault_in run ≡ None
  pub running : (state_in run).halted ≡ false

-- How `run` of a compiled scroll stops that has so many cycles to make and wrote this, where the
-- run of its words stands so after them. It is done: the run has halted, with the text of what the
-- program means. Or it is out of cycles: the run still goes, and the program has no outcome or
-- these cycles are fewer than enough. Or the run met a limit. Or it was cut short.
pub data RunStops (P : Program) (cycles : ℕ) (run : Standing Identifiers) (c : Call) :
    (wrote : List ℕ) → Status → Type 0 where
  done : (r : Meaning) → HasMeaning P r → (state_in run).halted ≡ true →
      RunStops P cycles run c (text_of P r.outcome) Done
  out_of_cycles : IsGoing run → ((r : Meaning) → HasMeaning P r → AreEnough P r cycles → ⊥) →
      RunStops P cycles run c (state_in run).out Budget
  limited : (fault : Fault) → fault_in run ≡ Some fault → IsLimit fault →
      RunStops P cycles run c (state_in run).out Limit
  cut_short : (wrote : List ℕ) (status : Status) → IsCutShort Output c status →
      RunStops P cycles run c wrote status

-- What it wrote is a beginning of the program's text, or nothing where the program has no outcome.
-- It took no input.
pub record RunTells (P : Program) (words : List ℕ) (cycles : ℕ) (c : Call) : Type 0 where
  pub wrote : List ℕ
  pub received : Wrote wrote c
  pub begins : (r : Meaning) → HasMeaning P r →
      (more : List ℕ) × (wrote ++ more ≡ text_of P r.outcome)
  pub silent : HasNoOutcome P → wrote ≡ []
  pub untaken : c.now.streams.input.bytes ≡ c.before.streams.input.bytes
  pub stops : RunStops P cycles (run_of words cycles) c wrote c.status

-- What was compiled, words of 32 bits: whichever legal identifiers are handed out, they realise the
-- program; and each `run` of a file with their scroll tells what the program means.
pub record IsCompiled (IsCall : Call → Type 0) (P : Program) (words : List ℕ) : Type 0 where
  pub small : (at : ℕ) → slice_index words at < 2 ^ 32
  pub realises : Realises P words
  pub each_run : (file : List ℕ) (cycles : ℕ) →
      EachCall IsCall (runs file cycles) (Has file (scroll words)) (RunTells P words cycles)

-- how `compile` of an accepted grid stops: its file has the scroll of what was compiled; or it was
-- cut short
pub data CompileStops (IsCall : Call → Type 0) (P : Program) (out : List ℕ) (c : Call) :
    Status → Type 0 where
  done : (words : List ℕ) → Has out (scroll words) c.now → IsCompiled IsCall P words →
      CompileStops IsCall P out c Done
  cut_short : (status : Status) → IsCutShort File c status → CompileStops IsCall P out c status

-- The program of a text means one thing at most. Every order of its events comes to it; each
-- `check` of a file with the text is done, or cut short; each `eval` of one tells what it means,
-- whatever the picks; and each `compile` of one writes what runs to it.
pub record IsTied (IsCall : Call → Type 0) (text : List ℕ) (P : Program) : Type 0 where
  pub one_meaning : (r s : Meaning) → HasMeaning P r → HasMeaning P s → r ≡ s
  pub every_order : EveryOrderAgrees P
  pub each_check : (file : List ℕ) →
      EachCall IsCall (checks file) (Has file text)
      (λ c. (c.status ≡ Done) ⊎ IsCutShort Output c c.status)
  pub each_eval : (file : List ℕ) (picks : Choice) (events : ℕ) →
      EachCall IsCall (evaluates file picks events) (Has file text)
      (λ c. EvalStops P events c c.status)
  pub each_compile : (file out : List ℕ) →
      EachCall IsCall (compiles file out) (Has file text)
      (λ c. CompileStops IsCall P out c c.status)

-- a grid is accepted: the text has a program
abbrev pub IsAccepted : (text : List ℕ) → Type 0
IsAccepted text = (P : Program) × program_of text (Ok P)

-- Of these calls, which are those of `codex`: a text has one program at most; for every accepted
-- grid the program is tied; and where `check` or `compile` of a text is done, or `eval` of it is
-- done or stuck, it is one. What was written is said where the output tells what it received.
pub record Headline (IsCall : Call → Type 0) : Type 0 where
  pub one_program : (text : List ℕ) (P Q : Program) → program_of text (Ok P) →
      program_of text (Ok Q) → P ≡ Q
  pub accepted : (text : List ℕ) (P : Program) → program_of text (Ok P) → IsTied IsCall text P
  pub checked : (file text : List ℕ) →
      EachCall IsCall (checks file) (Has file text) (λ c. c.status ≡ Done → IsAccepted text)
  pub evaluated : (file text : List ℕ) (picks : Choice) (events : ℕ) →
      EachCall IsCall (evaluates file picks events) (Has file text)
      (λ c. (c.status ≡ Done) ⊎ (c.status ≡ Stuck) → IsAccepted text)
  pub compiled : (file out text : List ℕ) →
      EachCall IsCall (compiles file out) (Has file text)
      (λ c. c.status ≡ Done → IsAccepted text)
