-- Where a run comes without limits, whatever new identifiers are handed out, and what it loads on the way.
use Rattle.std.specs.Prelude.{◌≡◌, ◌≢◌, ℕ, zero, suc, true, false, ◌++◌, Some, None}
use Rattle.std.specs.FinMap as map
use Rattle.umix_base.specs.declared.limits.Limits.{Limits}
use Rattle.um_word.specs.State.{State, Arrays}
use Rattle.um_word.specs.Table.{Fault, Next, Goes, Stops, op_under}
use Rattle.um_word.specs.Run.{Standing, Stands, Failed, is_allocation}
use Rattle.um_word.specs.Free.{free_cycle, limit_at}
use Rattle.um_word.specs.Loads.{Loads, next_load, IsLimit}

-- an identifier that is not 0, and that no array has
pub record IsNew (arrays : Arrays) (id : ℕ) : Type 0 where
  pub not_zero : id ≢ 0
  pub absent : map.get arrays id ≡ None

abbrev pub OnGoing : Next → (State → Type 0) → Type 0
OnGoing (Goes t) P = P t
OnGoing (Stops fault) P = ⊥

-- The machine is running and has I in this state and in the n - 1 states after it, and then comes a state
-- that has Q; both may speak of the loads so far.
unfoldable pub Leads : (State → Loads → Type 0) → ℕ → (State → Loads → Type 0) → State → Loads → Type 0
Leads I zero Q s l = Q s l
Leads I (suc n) Q s l =
    (s.halted ≡ false) × I s l
    × ((id : ℕ) → (is_allocation (op_under s) ≡ true → IsNew s.arrays id) →
    OnGoing (free_cycle s id) (λ t. Leads I n Q t (l ++ next_load s)))

-- how a run stands: in a state with P, or failed in a state with F
abbrev pub OnStanding : {I : Type 0} → Standing I → (State → Type 0) → (State → Fault → Type 0) → Type 0
OnStanding (Stands t i) P F = P t
OnStanding (Failed t i fault) P F = F t fault

-- the run has met this limit on the way to Q
pub record MeetsLimit (I : State → Loads → Type 0) (Q : State → Loads → Type 0) (L : Limits)
    (l : Loads) (t : State) (fault : Fault) : Type 0 where
  pub limit : IsLimit fault
  pub met : limit_at L t ≡ Some fault
  pub more : ℕ
  pub way : Leads I (suc more) Q t l
