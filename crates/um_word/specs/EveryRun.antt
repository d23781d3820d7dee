-- What is true of every cycle and of every run.
use Rattle.std.specs.Prelude.{◌≡◌, ℕ, ◌+◌, ◌^◌, ◌<◌, ◌↔◌, List, ◌++◌, slice_index}
use Rattle.umix_base.specs.declared.limits.Limits.{Limits}
use Rattle.um_word.specs.State.{State, IsWellFormed, start_of}
use Rattle.um_word.specs.Table.{Fault, Goes, Stops, cycle}
use Rattle.um_word.specs.Run.{Standing, Stands, Failed, run_by, run, AreLegal}
use Rattle.um_word.specs.Loads.{state_in}

-- the identifier that is offered has no part in a refusal
abbrev pub RefusalsAgree : Type 0
RefusalsAgree = (L : Limits) (s : State) (id other : ℕ) (fault : Fault) →
    cycle s L id ≡ Stops fault → cycle s L other ≡ Stops fault

-- what holds where a run has not failed, of its state and of the identifiers that are left
abbrev pub WhereStands : {I : Type 0} → Standing I → (State → I → Type 0) → Type 0
WhereStands (Stands s i) P = P s i
WhereStands (Failed s i fault) P = Unit {0}

-- identifiers are legal for n + m cycles exactly where they are for n, and what these leave is for m more
abbrev pub LegalSplits : Type 0
LegalSplits = (L : Limits) (n m : ℕ) (ids : List ℕ) (s : State) →
    AreLegal L (n + m) ids s ↔ (AreLegal L n ids s × WhereStands (run L n ids s) (λ t left. AreLegal L m left t))

-- a state in which these bytes were written before all others
abbrev pub written_first : List ℕ → State → State
written_first bytes s = record s { out = bytes ++ s.out }

abbrev pub standing_behind : {I : Type 0} → List ℕ → Standing I → Standing I
standing_behind bytes (Stands s i) = Stands (written_first bytes s) i
standing_behind bytes (Failed s i fault) = Failed (written_first bytes s) i fault

-- a run doesn't look at what was written before it, and writes behind it
abbrev pub OutputsAreBehind : {I : Type 0} → (I → ℕ) → (State → I → I) → Type 0
OutputsAreBehind {I} offer left = (bytes : List ℕ) (L : Limits) (n : ℕ) (i : I) (s : State) →
    run_by offer left L n i (written_first bytes s) ≡ standing_behind bytes (run_by offer left L n i s)

-- the one list begins with the other
abbrev pub IsBeginning : List ℕ → List ℕ → Type 0
IsBeginning xs ys = (more : List ℕ) × (ys ≡ xs ++ more)

-- the output of n cycles is a beginning of the output of n + m
abbrev pub OutputsGrow : {I : Type 0} → (I → ℕ) → (State → I → I) → Type 0
OutputsGrow {I} offer left = (L : Limits) (n m : ℕ) (i : I) (s : State) →
    IsBeginning (state_in (run_by offer left L n i s)).out (state_in (run_by offer left L (n + m) i s)).out

-- each number has 32 bits
abbrev pub AreWords : List ℕ → Type 0
AreWords words = (k : ℕ) → slice_index words k < 2 ^ 32

-- The run of words begins well formed. A cycle keeps it so, where the identifier that is offered has 32
-- bits; what it leaves of the input is no more than there was.
abbrev pub StartsAreFormed : Type 0
StartsAreFormed = (words input : List ℕ) → AreWords words → IsWellFormed (start_of words input)

abbrev pub CyclesKeepForm : Type 0
CyclesKeepForm = (L : Limits) (id : ℕ) (s t : State) → id < 2 ^ 32 → AreWords s.rest → IsWellFormed s →
    cycle s L id ≡ Goes t → IsWellFormed t × AreWords t.rest
