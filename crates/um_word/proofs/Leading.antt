-- How stretches of a run are joined.
use Rattle.std.proofs.Common.{◌≡◌, ℕ, zero, suc, ◌+◌, ◌++◌, true, false, arith, zero-add}
use Rattle.um_word.specs.State.{State}
use Rattle.um_word.specs.Table.{Next, Goes, Stops, op_under}
use Rattle.um_word.specs.Run.{is_allocation}
use Rattle.um_word.specs.Free.{free_cycle}
use Rattle.um_word.specs.Loads.{Loads, next_load}
use Rattle.um_word.specs.Leads.{IsNew, OnGoing, Leads}

pub on_going : (next : Next) (P Q : State → Type 0) → ((t : State) → P t → Q t) → OnGoing next P → OnGoing next Q
on_going (Goes t) P Q f h = f t h
on_going (Stops fault) P Q f h = h

module _ (I : State → Loads → Type 0) where
  pub no_step : (Q : State → Loads → Type 0) (s : State) (l : Loads) → Q s l → Leads I 0 Q s l
  unfolding Leads
  no_step Q s l h = h

  pub is_there : (Q : State → Loads → Type 0) (s : State) (l : Loads) → Leads I 0 Q s l → Q s l
  unfolding Leads
  is_there Q s l h = h

  pub one_more : (n : ℕ) (Q : State → Loads → Type 0) (s : State) (l : Loads) → s.halted ≡ false → I s l →
      ((id : ℕ) → (is_allocation (op_under s) ≡ true → IsNew s.arrays id) → OnGoing (free_cycle s id) (λ t. Leads I n Q t (l ++ next_load s))) →
      Leads I (suc n) Q s l
  unfolding Leads
  one_more n Q s l running along next = (running, along, next)

  pub weaken : (n : ℕ) (Q R : State → Loads → Type 0) → ((t : State) (k : Loads) → Q t k → R t k) → (s : State) (l : Loads) → Leads I n Q s l → Leads I n R s l
  unfolding Leads
  weaken zero Q R f s l h = f s l h
  weaken (suc n) Q R f s l h =
      (h.0, h.1, λ id new. on_going (free_cycle s id) (λ t. Leads I n Q t (l ++ next_load s)) (λ t. Leads I n R t (l ++ next_load s)) (λ t. weaken n Q R f t (l ++ next_load s)) (h.2 id new))

  pub join : (n m : ℕ) (Q : State → Loads → Type 0) (s : State) (l : Loads) → Leads I n (Leads I m Q) s l → Leads I (n + m) Q s l
  unfolding Leads
  join zero m Q s l h = rw zero-add h
  join (suc n) m Q s l h =
      let e : suc n + m ≡ suc (n + m) = omega arith in
      rw e (h.0, h.1, λ id new. on_going (free_cycle s id) (λ t. Leads I n (Leads I m Q) t (l ++ next_load s)) (λ t. Leads I (n + m) Q t (l ++ next_load s)) (λ t. join n m Q t (l ++ next_load s)) (h.2 id new))

pub weaken_along : (I J : State → Loads → Type 0) (n : ℕ) (Q : State → Loads → Type 0) → ((t : State) (k : Loads) → I t k → J t k) → (s : State) (l : Loads) → Leads I n Q s l → Leads J n Q s l
unfolding Leads
weaken_along I J zero Q f s l h = h
weaken_along I J (suc n) Q f s l h =
    (h.0, f s l h.1, λ id new. on_going (free_cycle s id) (λ t. Leads I n Q t (l ++ next_load s)) (λ t. Leads J n Q t (l ++ next_load s)) (λ t. weaken_along I J n Q f t (l ++ next_load s)) (h.2 id new))
