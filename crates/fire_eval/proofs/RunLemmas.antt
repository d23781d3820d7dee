-- One event more by the picks.
use Rattle.std.specs.Prelude.{◌≡◌, ℕ, zero, suc, ◌+◌, ◌-◌, ◌<◌, ◌≤◌, Option, Some, None, List, [], ◌∷◌, ◌++◌, Bool, true, false, not, is_some, slice_set, length}
use Rattle.std.specs.Option.{option_map}
use Rattle.std.proofs.Common.{refl, sym, ◌∙◌, ap, arith}
use Rattle.std.proofs.lemmas.List.{append_assoc, append-nil, length-set, length_push}
use Rattle.two_d.specs.Good.{IsGood}
use Rattle.two_d.specs.Programs.{Program}
use Rattle.two_d.specs.Texts.{IsOutcomeOf}
use Rattle.two_d.proofs.ProgramTrails.{outcome_of_program}
use Rattle.two_d.specs.Meaning.{Meaning, Effect, Done, Starts, Outcome, mean, quiet, returned}
use Rattle.two_d.specs.Steps.{Table, Event, Fire, End, Choice, pick, ready, is_ready, is_live, instance_at, firing, fire, with_cell, set_cell, begun, ended, end_of, deliver, step, start, after, events_by, events_from, EachReady, IsStateOf, HasMeaning, fires_in}
use Rattle.two_d.proofs.Picks.{get-filter, pick_one, IsPicked, events_by-picked, evaluated, evaluated_means, evaluated_only}
use Rattle.two_d.proofs.Runs.{run_counts, sound-start}

by-ended : (P : Program) (picks : Choice) (n k : ℕ) (T : Table) → is_live (instance_at T 0) ≡ false → events_by P picks n k T ≡ []
unfolding events_by
by-ended P picks zero k T dead = refl
by-ended P picks (suc n) k T dead = rw dead refl

by-none : (P : Program) (picks : Choice) (n k : ℕ) (T : Table) → is_live (instance_at T 0) ≡ true → pick picks k (ready P T) ≡ None → events_by P picks n k T ≡ []
unfolding events_by
by-none P picks zero k T live none = refl
by-none P picks (suc n) k T live none = rw (live, none) refl

by-some : (P : Program) (picks : Choice) (n k : ℕ) (T : Table) (e : Event) → is_live (instance_at T 0) ≡ true → pick picks k (ready P T) ≡ Some e →
    events_by P picks (suc n) k T ≡ e ∷ events_by P picks n (suc k) (step P T e)
unfolding events_by
by-some P picks n k T e live is = rw (live, is) refl

pub pick-ready : (P : Program) (picks : Choice) (k : ℕ) (T : Table) (e : Event) → pick picks k (ready P T) ≡ Some e → is_ready P T e ≡ true
unfolding ready
pick-ready P picks k T e is = let (j, at) = pick_one picks k (ready P T) e is in get-filter (is_ready P T) (events_from P 0 T) j e at

pub step-length : (P : Program) (T : Table) (e : Event) → length (step P T e) ≤ length T + 1
unfolding step
step-length P T (Fire i b) = by (firing P (instance_at T i) b)
  where
    by : (x : Option Effect) → length (fire P T i b x) ≤ length T + 1
    by None = omega arith
    by (Some (Done c)) = omega (arith, length-set T i (with_cell (instance_at T i) b c))
    by (Some (Starts m a)) = omega (arith, length-set T i (with_cell (instance_at T i) b quiet), length_push (set_cell T i b quiet) (begun P m (Some (i, b)) a))
step-length P T (End i) =
    by (slice_set T i (ended (instance_at T i) (end_of P (instance_at T i)))) (instance_at T i).parent (end_of P (instance_at T i)) (length-set T i (ended (instance_at T i) (end_of P (instance_at T i))))
  where
    by : (U : Table) (p : Option (ℕ × ℕ)) (o : Outcome) → length U ≡ length T → length (deliver U p o) ≤ length T + 1
    by U None o same = omega (arith, same)
    by U (Some p) o same = omega (arith, same, length-set U p.0 (with_cell (instance_at U p.0) p.1 (returned (instance_at U p.0).kind p.1 o)))

-- so many events were made, and those that follow are all that are left
pub record IsRunning (P : Program) (picks : Choice) (budget made : ℕ) (T : Table) (log : List Event) : Type 0 where
  pub table : T ≡ after P (start P) log
  pub each : EachReady P (start P) log
  pub rest : log ++ events_by P picks (budget - made) made T ≡ events_by P picks budget 0 (start P)
  pub few : length T ≤ made + 1

pub running_begun : (P : Program) (picks : Choice) (budget : ℕ) (T : Table) (log : List Event) → T ≡ start P → log ≡ [] → IsRunning P picks budget 0 T log
running_begun P picks budget T log is none = rw (is, none) (record { table = refl; each = tt; rest = let same : budget - 0 ≡ budget = omega arith in rw same refl; few = omega arith })

pub running_state : (P : Program) (picks : Choice) (budget made : ℕ) (T : Table) (log : List Event) → IsRunning P picks budget made T log → IsStateOf P T
running_state P picks budget made T log h = record { events = log; each_ready = h.each; is = h.table }

pub running_ended : (P : Program) (picks : Choice) (budget made : ℕ) (T : Table) (log : List Event) → IsRunning P picks budget made T log →
    is_live (instance_at T 0) ≡ false → log ≡ events_by P picks budget 0 (start P)
running_ended P picks budget made T log h dead = sym (append-nil log) ∙ (ap (λ l. log ++ l) (sym (by-ended P picks (budget - made) made T dead)) ∙ h.rest)

pub running_none : (P : Program) (picks : Choice) (budget made : ℕ) (T : Table) (log : List Event) → IsRunning P picks budget made T log →
    is_live (instance_at T 0) ≡ true → pick picks made (ready P T) ≡ None → log ≡ events_by P picks budget 0 (start P)
running_none P picks budget made T log h live none = sym (append-nil log) ∙ (ap (λ l. log ++ l) (sym (by-none P picks (budget - made) made T live none)) ∙ h.rest)

pub running_spent : (P : Program) (picks : Choice) (budget made : ℕ) (T : Table) (log : List Event) → IsRunning P picks budget made T log → budget ≤ made →
    log ≡ events_by P picks budget 0 (start P)
unfolding events_by
running_spent P picks budget made T log h all =
    let none : budget - made ≡ 0 = omega arith in
    let rest : log ++ [] ≡ events_by P picks budget 0 (start P) = rw none at h.rest in
    sym (append-nil log) ∙ rest

after-more : (P : Program) (T : Table) (log : List Event) (e : Event) → step P (after P T log) e ≡ after P T (log ++ e ∷ [])
after-more P T [] e = refl
after-more P T (f ∷ log) e = after-more P (step P T f) log e

each-more : (P : Program) (T : Table) (log : List Event) (e : Event) → EachReady P T log → is_ready P (after P T log) e ≡ true → EachReady P T (log ++ e ∷ [])
each-more P T [] e each is = (is, tt)
each-more P T (f ∷ log) e each is = (each.0, each-more P (step P T f) log e each.1 is)

pub running_more : (P : Program) (picks : Choice) (budget made : ℕ) (T U : Table) (log more : List Event) (e : Event) → IsRunning P picks budget made T log → made < budget →
    is_live (instance_at T 0) ≡ true → pick picks made (ready P T) ≡ Some e → U ≡ step P T e → more ≡ log ++ e ∷ [] → IsRunning P picks budget (made + 1) U more
running_more P picks budget made T U log more e h lt live is stepped pushed = rw (stepped, pushed) (record {
  table = ap (λ V. step P V e) h.table ∙ after-more P (start P) log e;
  each = each-more P (start P) log e h.each (ap (λ V. is_ready P V e) (sym h.table) ∙ pick-ready P picks made T e is);
  rest = rest;
  few = omega (arith, h.few, step-length P T e);
})
  where
    rest : (log ++ e ∷ []) ++ events_by P picks (budget - (made + 1)) (made + 1) (step P T e) ≡ events_by P picks budget 0 (start P)
    rest =
        let left : budget - made ≡ suc (budget - (made + 1)) = omega arith in
        let next : made + 1 ≡ suc made = omega arith in
        append_assoc log (e ∷ []) (events_by P picks (budget - (made + 1)) (made + 1) (step P T e))
        ∙ (ap (λ k. log ++ (e ∷ events_by P picks (budget - (made + 1)) k (step P T e))) next
        ∙ (ap (λ l. log ++ l) (sym (by-some P picks (budget - (made + 1)) made T e live is))
        ∙ (ap (λ n. log ++ events_by P picks n made T) (sym left) ∙ h.rest)))

-- an instance whose outcome is kept as an option
pub live-is : {A B : Type 0} (f : A → B) (r : Option A) (o : Option B) (t u : Bool) → option_map f r ≡ o → t ≡ is_some r → t ≡ u → not (is_some o) ≡ not u
live-is f None o t u e is same = rw (← e) (ap not (sym is ∙ same))
live-is f (Some x) o t u e is same = rw (← e) (ap not (sym is ∙ same))

pub fires_in-append : (xs ys : List Event) → fires_in (xs ++ ys) ≡ fires_in xs + fires_in ys
fires_in-append [] ys = omega arith
fires_in-append (Fire i b ∷ xs) ys = omega (arith, fires_in-append xs ys)
fires_in-append (End i ∷ xs) ys = fires_in-append xs ys

pub fires_in-le : (xs : List Event) → fires_in xs ≤ length xs
fires_in-le [] = omega arith
fires_in-le (Fire i b ∷ xs) = omega (arith, fires_in-le xs)
fires_in-le (End i ∷ xs) = omega (arith, fires_in-le xs)

-- where the log is that of the picks, an outcome is the program's, within the budget, and only there
module _ {O : Type 0} (f : O → Outcome) (kept : Option O) (P : Program) (picks : Choice) (budget : ℕ) (log : List Event)
    (same : log ≡ events_by P picks budget 0 (start P)) (is : option_map f kept ≡ (instance_at (after P (start P) log) 0).outcome) where
  pub outcome_means : (r : Meaning) → HasMeaning P r → r.firings + r.instances ≤ budget → option_map f kept ≡ Some r.outcome
  outcome_means r has enough =
      is ∙ (ap (λ l. (instance_at (after P (start P) l) 0).outcome) same ∙ evaluated_means P picks budget has.depth r has.means enough)

  pub outcome_only : (o : Outcome) → option_map f kept ≡ Some o → (r : Meaning) × HasMeaning P r × (r.outcome ≡ o) × (r.firings + r.instances ≤ budget)
  outcome_only o e =
      let (n, r, means, gives, within) = evaluated_only P picks budget o (ap (λ l. (instance_at (after P (start P) l) 0).outcome) (sym same) ∙ (sym is ∙ e)) in
      (r, record { depth = n; means = means }, gives, within)

  pub outcome_of : IsGood P → (o : Outcome) → option_map f kept ≡ Some o → IsOutcomeOf P o
  outcome_of good o e = let (r, has, gives, within) = outcome_only o e in rw (← gives) (outcome_of_program P r good has)

-- where the log is that of the picks, within a budget that serves, its counts are those of the program's outcome
pub log_counts : (P : Program) (picks : Choice) (budget : ℕ) (log : List Event) → log ≡ events_by P picks budget 0 (start P) →
    (r : Meaning) → HasMeaning P r → r.firings + r.instances ≤ budget →
    (fires_in log ≡ r.firings) × (length (after P (start P) log) ≡ r.instances) × (length log ≡ r.firings + r.instances)
log_counts P picks budget log same r has enough = rw same (run_counts P has.depth r has.means (events_by P picks budget 0 (start P)) picked.ready down)
  where
    picked : IsPicked P (start P) budget (events_by P picks budget 0 (start P))
    picked = events_by-picked P picks budget 0 0 (start P) (sound-start P (mean P 0))

    down : is_live (instance_at (evaluated P picks budget) 0) ≡ false
    down = rw (evaluated_means P picks budget has.depth r has.means enough) refl
