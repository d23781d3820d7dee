-- The table without its limits, and runs by it.
use Rattle.std.specs.Prelude.{◌≡◌, ℕ, zero, suc, ◌<◌, ◌⊎◌, false, ◌==◌, nat_le, if◌then◌else◌, List}
use Rattle.std.specs.Prelude.{Option, Some, None, replicate}
use Rattle.std.specs.FinMap as map
use Rattle.umix_base.specs.declared.limits.Limits.{Limits}
use Rattle.um_word.specs.declared.op.Op.{Op}
use Rattle.um_word.specs.declared.op.Op.TheVariants.{Alloc, Load}
use Rattle.um_word.specs.Operators.{decode_word}
use Rattle.um_word.specs.State.{State, reg, with_reg, with_array, platter}
use Rattle.um_word.specs.Table.{Fault, FingerOutside, BadOperator, LoadInactive, ArraysFull}
use Rattle.um_word.specs.Table.{WordsFull, Next, Goes, Stops, with_some, arrays_after_allocation}
use Rattle.um_word.specs.Table.{words_after_allocation, words_after_load, row, moved, op_under}
use Rattle.um_word.specs.Run.{Standing, Stands, Failed, run_after, run_by}

-- only Allocation and Load look at the limits
abbrev pub unread : Limits
unread = record { arrays = 0; words = 0 }

-- the rows without limits
abbrev pub free_row : Op → ℕ → State → Next
free_row (Alloc b c) id s = Goes (with_reg (with_array s id (replicate (reg s c) 0)) b id)
free_row (Load b c) id s =
    if reg s b == 0 then Goes (record s { finger = reg s c }) else
    with_some (map.get s.arrays (reg s b)) LoadInactive (λ words.
    Goes (record (with_array s 0 words) { finger = reg s c }))
free_row op id s = row op unread id s

-- the fault of a number over a limit, and else what comes after
abbrev pub over : ℕ → ℕ → (ℕ → Fault) → Option Fault → Option Fault
over limit count fault next = if nat_le count limit then next else Some (fault count)

abbrev pub over_load : Limits → State → Option (List ℕ) → Option Fault
over_load L s None = None
over_load L s (Some words) = over L.words (words_after_load s words) WordsFull None

-- the limit that an operator meets, if it meets one
abbrev pub limit_met : Op → Limits → State → Option Fault
limit_met (Alloc b c) L s =
    over L.arrays (arrays_after_allocation s) ArraysFull (
    over L.words (words_after_allocation s (reg s c)) WordsFull None)
limit_met (Load b c) L s = if reg s b == 0 then None else over_load L s (map.get s.arrays (reg s b))
limit_met _ L s = None

abbrev pub limit_by : Option Op → Limits → State → Option Fault
limit_by None L s = None
limit_by (Some op) L s = limit_met op L s

-- the limit that the next cycle meets, if it meets one
abbrev pub limit_at : Limits → State → Option Fault
limit_at L s = limit_by (op_under s) L (moved s)

abbrev pub limited : Option Fault → Next → Next
limited None next = next
limited (Some fault) next = Stops fault

-- one cycle without limits
abbrev pub free_cycle : State → ℕ → Next
free_cycle s id =
    with_some (platter s) FingerOutside (λ word.
    with_some (decode_word word) BadOperator (λ op.
    free_row op id (moved s)))

-- n cycles without limits
abbrev pub free_by : {I : Type 0} → (I → ℕ) → (State → I → I) → ℕ → I → State → Standing I
free_by offer left zero i s = Stands s i
free_by offer left (suc n) i s =
    if s.halted then Stands s i else run_after (free_cycle s (offer i)) s i (free_by offer left n (left s i))

-- A run of n cycles ends at a limit: up to a moment it is the free run, and there the limit is met.
pub record EndsAtLimit {I : Type 0} (offer : I → ℕ) (left : State → I → I) (L : Limits) (n : ℕ)
    (i : I) (s : State) : Type 0 where
  pub moment : ℕ
  pub state : State
  pub rest : I
  pub fault : Fault
  pub before : moment < n
  pub free : free_by offer left moment i s ≡ Stands state rest
  pub same : run_by offer left L moment i s ≡ Stands state rest
  pub running : state.halted ≡ false
  pub met : limit_at L state ≡ Some fault
  pub ends : run_by offer left L n i s ≡ Failed state rest fault

-- a run is the free run, or the free run up to the first limit that is met
abbrev pub RunsAreLimited : {I : Type 0} → (I → ℕ) → (State → I → I) → Type 0
RunsAreLimited {I} offer left = (L : Limits) (n : ℕ) (i : I) (s : State) →
    (run_by offer left L n i s ≡ free_by offer left n i s) ⊎ EndsAtLimit offer left L n i s

-- the number that a limit's fault carries is over the limit
abbrev pub IsOver : Limits → Fault → Type 0
IsOver L (ArraysFull count) = L.arrays < count
IsOver L (WordsFull count) = L.words < count
IsOver L _ = Unit {0}

abbrev pub FailsOver : {I : Type 0} → Limits → Standing I → Type 0
FailsOver L (Stands s i) = Unit {0}
FailsOver L (Failed s i fault) = IsOver L fault

-- a run that fails at a limit fails with a number over it
abbrev pub FaultsAreOver : {I : Type 0} → (I → ℕ) → (State → I → I) → Type 0
FaultsAreOver {I} offer left = (L : Limits) (n : ℕ) (i : I) (s : State) → FailsOver L (run_by offer left L n i s)
