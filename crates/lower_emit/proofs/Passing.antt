-- What a block does without limits, it does in runs, where no limit is met.
use Rattle.std.specs.List.{Contains}
use Rattle.std.proofs.Common.{◌≡◌, ℕ, zero, suc, false, List, [], ◌∷◌, ◌++◌, sym, subst, arith}
use Rattle.um_word.specs.State.{State}
use Rattle.um_word.specs.Table.{Fault}
use Rattle.um_word.specs.Run.{Standing, Stands, Failed, run, first_of, ids_left}
use Rattle.um_word.specs.Loads.{Loads, loads_by, IsLimit}
use Rattle.um_word.specs.Leads.{Leads, OnStanding, MeetsLimit}
use Rattle.um_word.proofs.Moments.{moments}
use Rattle.lower_emit.specs.BlocksAlone.{OnTheWay, ComesInRuns}

-- without limits, whatever new identifiers are handed out
abbrev pub AloneFreely : (State → Type 0) → ℕ → (State → Type 0) → State → Type 0
AloneFreely I n Q s = Leads (λ t k. I t) n (λ t k. Q t) s []

on_standing : {I : Type 0} (standing : Standing I) (P Q : State → Type 0) (F G : State → Fault → Type 0) →
    ((t : State) → P t → Q t) → ((t : State) (fault : Fault) → F t fault → G t fault) → OnStanding standing P F → OnStanding standing Q G
on_standing (Stands t i) P Q F G f g h = f t h
on_standing (Failed t i fault) P Q F G f g h = g t fault h

-- what passes freely, passes in runs
pub passes : (I : State → Type 0) (n : ℕ) (Q : State → Type 0) (s : State) → AloneFreely I n Q s → ComesInRuns I n Q s
unfolding Leads
passes I n Q s h L done left ids sum legal =
    on_standing (run L done ids s) (λ t. Leads (λ t k. I t) left (λ t k. Q t) t all) (λ t. OnTheWay I left Q t) (MeetsLimit (λ t k. I t) (λ t k. Q t) L all) (λ t fault. IsLimit fault × I t)
    (on_way left) (λ t fault r. (r.limit, (first_moment r.more t r.way).1))
    (moments (λ t k. I t) (λ t k. Q t) L done left ids s [] legal (subst (λ k. AloneFreely I k Q s) (sym sum) h))
  where
    all : Loads
    all = [] ++ loads_by first_of ids_left L done ids s

    first_moment : (k : ℕ) (t : State) → Leads (λ t k. I t) (suc k) (λ t k. Q t) t all → (t.halted ≡ false) × I t
    first_moment k t way = (way.0, way.1)

    on_way : (k : ℕ) (t : State) → Leads (λ t k. I t) k (λ t k. Q t) t all → OnTheWay I k Q t
    on_way zero t way = way
    on_way (suc k) t way = first_moment k t way

-- the frame of a block is none of the others, nor that of its caller, who is among them
pub frame_apart : (others : List ℕ) (caller frame : ℕ) → Contains others caller → (Contains others frame → ⊥) → Contains (caller ∷ others) frame → ⊥
frame_apart others caller frame there alone (zero, lt, is) = alone (subst (Contains others) is there)
frame_apart others caller frame there alone (suc k, lt, is) = alone (k, omega (arith, lt), is)
