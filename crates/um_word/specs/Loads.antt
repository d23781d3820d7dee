-- The loads of a run, and how a run stands, whatever form the identifiers that are left have.
use Rattle.std.specs.Prelude.{ℕ, zero, suc, ◌+◌, ◌==◌, Bool, if◌then◌else◌, List, [], ◌∷◌, ◌++◌}
use Rattle.std.specs.Prelude.{map, Option, Some, None}
use Rattle.umix_base.specs.declared.limits.Limits.{Limits}
use Rattle.um_word.specs.declared.op.Op.{Op}
use Rattle.um_word.specs.declared.op.Op.TheVariants.{Load}
use Rattle.um_word.specs.State.{State, array_at, reg}
use Rattle.um_word.specs.Table.{Fault, ArraysFull, WordsFull, Next, Goes, Stops, cycle, op_under}
use Rattle.um_word.specs.Run.{Standing, Stands, Failed}

-- what was loaded, and the offset where the finger went
pub record Loaded : Type 0 where
  pub words : List ℕ
  pub offset : ℕ

-- one for each load of an array other than 0, in order
abbrev pub Loads : Type 0
Loads = List Loaded

abbrev pub load_by : Option Op → State → Loads
load_by (Some (Load b c)) s = if reg s b == 0 then []
    else record { words = array_at s.arrays (reg s b); offset = reg s c } ∷ []
load_by _ s = []

-- what the next cycle loads, if it succeeds
abbrev pub next_load : State → Loads
next_load s = load_by (op_under s) s

abbrev pub loads_after : Next → State → (State → Loads) → Loads
loads_after (Goes t) s more = next_load s ++ more t
loads_after (Stops fault) s more = []

-- the loads of n cycles
abbrev pub loads_by : {I : Type 0} → (I → ℕ) → (State → I → I) → Limits → ℕ → I → State → Loads
loads_by offer left L zero i s = []
loads_by offer left L (suc n) i s =
    if s.halted then [] else loads_after (cycle s L (offer i)) s (loads_by offer left L n (left s i))

-- what was loaded, and whether it was entered at offset 0
abbrev pub seen : Loads → List (List ℕ × Bool)
seen loads = map (λ load. (load.words, load.offset == 0)) loads

-- the loads with offset 0
abbrev pub entries : Loads → ℕ
entries [] = 0
entries (load ∷ loads) = (if load.offset == 0 then 1 else 0) + entries loads

-- the state in which a run stands
abbrev pub state_in : {I : Type 0} → Standing I → State
state_in (Stands s i) = s
state_in (Failed s i fault) = s

-- the fault at which a run has failed, if it has
abbrev pub fault_in : {I : Type 0} → Standing I → Option Fault
fault_in (Stands s i) = None
fault_in (Failed s i fault) = Some fault

abbrev pub IsLimit : Fault → Type 0
IsLimit (ArraysFull count) = Unit {0}
IsLimit (WordsFull count) = Unit {0}
IsLimit _ = ⊥
