-- Runs of the machine, by whatever identifiers are handed out.
use Rattle.std.specs.Prelude.{◌≡◌, ℕ, zero, suc, ◌+◌, ◌^◌, ◌<◌, ◌≤◌, Bool, true, false}
use Rattle.std.specs.Prelude.{if◌then◌else◌, List, [], ◌∷◌, length, Option, Some, None}
use Rattle.std.specs.FinMap as map
use Rattle.umix_base.specs.declared.limits.Limits.{Limits}
use Rattle.um_word.specs.declared.op.Op.{Op}
use Rattle.um_word.specs.declared.op.Op.TheVariants.{Alloc}
use Rattle.um_word.specs.State.{State}
use Rattle.um_word.specs.Table.{Fault, Next, Goes, Stops, cycle, op_under}

-- How a run stands: in the state after its cycles, or at its first fault in the state before it.
-- Beside the state are the identifiers that are left to hand out, in whatever form I.
pub data Standing (I : Type 0) : Type 0 where
  Stands : State → I → Standing I
  Failed : State → I → Fault → Standing I

-- the number of the cycle that comes next, which is that of a fault met here
abbrev pub next_number : State → ℕ
next_number s = s.cycles + 1

abbrev pub run_after : {I : Type 0} → Next → State → I → (State → Standing I) → Standing I
run_after (Goes t) s i go = go t
run_after (Stops fault) s i go = Failed s i fault

-- n cycles, of which each is offered the next identifier; a halted state stays as it is
abbrev pub run_by : {I : Type 0} → (I → ℕ) → (State → I → I) → Limits → ℕ → I → State → Standing I
run_by offer left L zero i s = Stands s i
run_by offer left L (suc n) i s =
    if s.halted
    then Stands s i
    else run_after (cycle s L (offer i)) s i (run_by offer left L n (left s i))

-- the operator is an Allocation
abbrev pub is_allocation : Option Op → Bool
is_allocation (Some (Alloc b c)) = true
is_allocation _ = false

abbrev pub first_of : List ℕ → ℕ
first_of [] = 0
first_of (id ∷ ids) = id

abbrev pub rest_of : List ℕ → List ℕ
rest_of [] = []
rest_of (id ∷ ids) = ids

-- an Allocation takes the first of the list
abbrev pub ids_left : State → List ℕ → List ℕ
ids_left s ids = if is_allocation (op_under s) then rest_of ids else ids

-- n cycles, in which the Allocations that succeed take the identifiers of the list, in order
abbrev pub run : Limits → ℕ → List ℕ → State → Standing (List ℕ)
run = run_by first_of ids_left

-- the identifier may be handed out
pub record IsLegal (s : State) (id : ℕ) : Type 0 where
  pub positive : 1 ≤ id
  pub fits : id < 2 ^ 32
  pub fresh : map.get s.arrays id ≡ None

abbrev pub OnGoes : Next → (State → Type 0) → Type 0
OnGoes (Goes t) P = P t
OnGoes (Stops fault) P = Unit {0}

-- an Allocation that succeeds here takes the first of the list, and it is legal
abbrev pub TakesLegal : List ℕ → State → Type 0
TakesLegal ids s = is_allocation (op_under s) ≡ true → (1 ≤ length ids) × IsLegal s (first_of ids)

-- in n cycles the list is long enough, and each identifier is legal when it is taken
abbrev pub AreLegal : Limits → ℕ → List ℕ → State → Type 0
AreLegal L zero ids s = Unit {0}
AreLegal L (suc n) ids s =
    s.halted ≡ false →
    OnGoes (cycle s L (first_of ids)) (λ t. TakesLegal ids s × AreLegal L n (ids_left s ids) t)

-- a run goes on from where it stands
abbrev pub going_on : {I : Type 0} → Standing I → (State → I → Standing I) → Standing I
going_on (Stands s i) go = go s i
going_on (Failed s i fault) go = Failed s i fault

-- a run of n + m cycles is one of n cycles that goes on for m more
abbrev pub RunsCompose : {I : Type 0} → (I → ℕ) → (State → I → I) → Type 0
RunsCompose {I} offer left = (L : Limits) (n m : ℕ) (i : I) (s : State) →
    run_by offer left L (n + m) i s ≡ going_on (run_by offer left L n i s) (λ t j. run_by offer left L m j t)
