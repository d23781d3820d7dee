-- Events that are picked from the ready ones.
use Rattle.std.specs.Prelude.{Option, Some, None, ◌≡◌, ℕ, zero, suc, ◌+◌, ◌-◌, ◌%◌, ◌<◌, ◌≤◌, List, [], ◌∷◌, ◌++◌, Bool, true, false, cond, length, slice_get, slice_index}
use Rattle.std.specs.List.{filter}
use Rattle.std.proofs.Common.{refl, sym, ◌∙◌, ap, arith, add-zero, zero-add, ◌⊎◌, inl, inr}
use Rattle.std.proofs.lemmas.Bool.{cases_eq}
use Rattle.std.proofs.lemmas.Option.{same_Some}
use Rattle.two_d.specs.Programs.{Program, main_of, box_count}
use Rattle.two_d.specs.Meaning.{Meaning, Outcome, mean, no_inputs}
use Rattle.two_d.specs.Steps.{Event, Fire, End, First, Last, Listed, Choice, pick, Table, is_ready, step, start, after, EachReady, ready, events_from, fires_below, events_by, instance_at, is_live}
use Rattle.two_d.proofs.Depth.{act_there, mean-one}
use Rattle.two_d.proofs.State.{Sound, live_within}
use Rattle.two_d.proofs.Firing.{can_fire-ready}
use Rattle.two_d.proofs.Ending.{over-ready}
use Rattle.two_d.proofs.Progress.{progress}
use Rattle.two_d.proofs.Runs.{sound-start, sound-step, run_means, run_counts, run_shorter}

abbrev IsIn : {A : Type 0} → A → List A → Type 0
IsIn x [] = ⊥
IsIn x (y ∷ ys) = (y ≡ x) ⊎ IsIn x ys

in_left : {A : Type 0} (x : A) (xs ys : List A) → IsIn x xs → IsIn x (xs ++ ys)
in_left x [] ys h = absurd h
in_left x (y ∷ xs) ys (inl is) = inl is
in_left x (y ∷ xs) ys (inr h) = inr (in_left x xs ys h)

in_right : {A : Type 0} (x : A) (xs ys : List A) → IsIn x ys → IsIn x (xs ++ ys)
in_right x [] ys h = h
in_right x (y ∷ xs) ys h = inr (in_right x xs ys h)

pub get-filter : {A : Type 0} (p : A → Bool) (xs : List A) (k : ℕ) (x : A) → slice_get (filter p xs) k ≡ Some x → p x ≡ true
get-filter p [] k x e = absurd (cc)
get-filter p (y ∷ xs) k x e = by (p y) refl k e (λ j. get-filter p xs j x)
  where
    by : (t : Bool) → p y ≡ t → (k : ℕ) → slice_get (cond t (y ∷ filter p xs) (filter p xs)) k ≡ Some x →
        ((j : ℕ) → slice_get (filter p xs) j ≡ Some x → p x ≡ true) → p x ≡ true
    by true is zero e rest = ap p (sym (same_Some y x e)) ∙ is
    by true is (suc k) e rest = rest k e
    by false is k e rest = rest k e

some-filter : {A : Type 0} (p : A → Bool) (x : A) (xs : List A) → p x ≡ true → IsIn x xs → 0 < length (filter p xs)
some-filter p x [] e h = absurd h
some-filter p x (y ∷ xs) e (inl is) = rw (is, e) (omega arith)
some-filter p x (y ∷ xs) e (inr h) = by (p y) (some-filter p x xs e h)
  where
    by : (t : Bool) → 0 < length (filter p xs) → 0 < length (cond t (y ∷ filter p xs) (filter p xs))
    by true lt = omega arith
    by false lt = lt

in_fires : (i b n : ℕ) → b < n → IsIn (Fire i b) (fires_below i n)
in_fires i b zero lt = absurd (omega arith)
in_fires i b (suc n) lt = elim (cases_eq b n) [
  | inl is ↦ in_right (Fire i b) (fires_below i n) (Fire i n ∷ []) (inl (ap (Fire i) (sym is)))
  | inr other ↦ in_left (Fire i b) (fires_below i n) (Fire i n ∷ []) (in_fires i b n (omega arith))
]

in_events-fire : (P : Program) (T : Table) (from i b : ℕ) → i < length T → b < box_count P (instance_at T i).kind → IsIn (Fire (from + i) b) (events_from P from T)
in_events-fire P [] from i b lt box = absurd (omega arith)
in_events-fire P (x ∷ T) from zero b lt box = rw add-zero (in_left (Fire from b) _ _ (in_fires from b (box_count P x.kind) box))
in_events-fire P (x ∷ T) from (suc i) b lt box =
    let h = in_events-fire P T (suc from) i b (omega arith) box in
    let same : from + suc i ≡ suc from + i = omega arith in
    rw same (in_right (Fire (suc from + i) b) (fires_below from (box_count P x.kind)) _ (inr h))

in_events-end : (P : Program) (T : Table) (from i : ℕ) → i < length T → IsIn (End (from + i)) (events_from P from T)
in_events-end P [] from i lt = absurd (omega arith)
in_events-end P (x ∷ T) from zero lt = rw add-zero (in_right (End from) (fires_below from (box_count P x.kind)) _ (inl refl))
in_events-end P (x ∷ T) from (suc i) lt =
    let h = in_events-end P T (suc from) i (omega arith) in
    let same : from + suc i ≡ suc from + i = omega arith in
    rw same (in_right (End (suc from + i)) (fires_below from (box_count P x.kind)) _ (inr h))

in_events : (P : Program) (T : Table) (e : Event) → is_ready P T e ≡ true → IsIn e (events_from P 0 T)
in_events P T (Fire i b) ready =
    let (x, fires) = can_fire-ready P T i b ready in
    rw zero-add at (in_events-fire P T 0 i b (live_within T i fires.live) (act_there P _ _ b x fires.acts))
in_events P T (End i) ready = rw zero-add at (in_events-end P T 0 i (live_within T i (over-ready P T i ready).0))

-- a list of picks that isn't empty always picks one
abbrev pub IsChoice : Choice → Type 0
IsChoice First = Unit {0}
IsChoice Last = Unit {0}
IsChoice (Listed picks) = 0 < length picks

some_at : (events : List Event) (k : ℕ) → k < length events → (e : Event) × (slice_get events k ≡ Some e)
some_at [] k lt = absurd (omega arith)
some_at (e ∷ events) zero lt = (e, refl)
some_at (e ∷ events) (suc k) lt = some_at events k (omega arith)

pick_some : (picks : Choice) (k : ℕ) (events : List Event) → 0 < length events → (e : Event) × (pick picks k events ≡ Some e)
pick_some First k events lt = some_at events 0 lt
pick_some Last k events lt = some_at events (length events - 1) (omega arith)
pick_some (Listed picks) k events lt = some_at events (slice_index picks (k % length picks) % length events) (omega arith)

pub pick_one : (picks : Choice) (k : ℕ) (events : List Event) (e : Event) → pick picks k events ≡ Some e → (j : ℕ) × (slice_get events j ≡ Some e)
pick_one First k events e is = (0, is)
pick_one Last k events e is = (length events - 1, is)
pick_one (Listed picks) k events e is = (slice_index picks (k % length picks) % length events, is)

-- events by picks are ready in their turn, and there are fewer than allowed only where instance 0 has ended
pub record IsPicked (P : Program) (T : Table) (n : ℕ) (events : List Event) : Type 0 where
  pub ready : EachReady P T events
  pub few : length events ≤ n
  pub all : is_live (instance_at (after P T events) 0) ≡ true → length events ≡ n

picked_ready : (P : Program) (picks : Choice) (k : ℕ) (T : Table) (e : Event) → pick picks k (ready P T) ≡ Some e → is_ready P T e ≡ true
unfolding ready
picked_ready P picks k T e is =
    let (j, there) = pick_one picks k (filter (is_ready P T) (events_from P 0 T)) e is in
    get-filter (is_ready P T) (events_from P 0 T) j e there

pub events_by-picked : (P : Program) (picks : Choice) (n k d : ℕ) (T : Table) → Sound P (mean P d) T → IsPicked P T n (events_by P picks n k T)
unfolding events_by ready
events_by-picked P picks zero k d T sound = record { ready = tt; few = omega arith; all = λ live. refl }
events_by-picked P picks (suc n) k d T sound =
    by (is_live (instance_at T 0)) refl (pick picks k (ready P T)) refl (λ e is. events_by-picked P picks n (suc k) (suc d) (step P T e) (sound-step P d T sound e is))
  where
    by : (live : Bool) → is_live (instance_at T 0) ≡ live → (o : Option Event) → pick picks k (ready P T) ≡ o →
        ((e : Event) → is_ready P T e ≡ true → IsPicked P (step P T e) n (events_by P picks n (suc k) (step P T e))) →
        IsPicked P T (suc n) (cond live (elim o [ None ↦ [] | Some e ↦ e ∷ events_by P picks n (suc k) (step P T e) ]) [])
    by false down o is rest = record { ready = tt; few = omega arith; all = λ live. let q : true ≡ false = sym live ∙ down in absurd (cc) }
    by true up None is rest =
        let (e, can) = progress P (mean P d) T sound up in
        let (x, picked) = pick_some picks k (ready P T) (some-filter (is_ready P T) e (events_from P 0 T) can (in_events P T e can)) in
        let q : None ≡ Some x = sym is ∙ picked in absurd (cc)
    by true up (Some e) is rest =
        let can = picked_ready P picks k T e is in
        let r = rest e can in
        record { ready = (can, r.ready); few = omega (arith, r.few); all = λ live. ap suc (r.all live) }

-- the table that an evaluation comes to
abbrev pub evaluated : Program → Choice → ℕ → Table
evaluated P picks budget = after P (start P) (events_by P picks budget 0 (start P))

-- within a budget that serves, an evaluation gives what the program means
pub evaluated_means : (P : Program) (picks : Choice) (budget n : ℕ) (r : Meaning) → mean P n (main_of P) no_inputs ≡ Some r →
    r.firings + r.instances ≤ budget → (instance_at (evaluated P picks budget) 0).outcome ≡ Some r.outcome
evaluated_means P picks budget n r e enough =
    let p = events_by-picked P picks budget 0 0 (start P) (sound-start P (mean P 0)) in
    by (instance_at (evaluated P picks budget) 0).outcome refl p
  where
    by : (o : Option Outcome) → (instance_at (evaluated P picks budget) 0).outcome ≡ o → IsPicked P (start P) budget (events_by P picks budget 0 (start P)) → o ≡ Some r.outcome
    by None is p =
        let live : is_live (instance_at (evaluated P picks budget) 0) ≡ true = rw is refl in
        let lt = run_shorter P n r e (events_by P picks budget 0 (start P)) p.ready live in
        let all = p.all live in
        absurd (omega arith)
    by (Some o) is p =
        let (m, s, means, same) = run_means P (events_by P picks budget 0 (start P)) p.ready o is in
        ap Some (sym same ∙ ap (λ (t : Meaning). t.outcome) (mean-one P m n (main_of P) no_inputs s r means e))

-- an evaluation that gives an outcome gives what the program means, within the budget
pub evaluated_only : (P : Program) (picks : Choice) (budget : ℕ) (o : Outcome) → (instance_at (evaluated P picks budget) 0).outcome ≡ Some o →
    (n : ℕ) × (r : Meaning) × (mean P n (main_of P) no_inputs ≡ Some r) × (r.outcome ≡ o) × (r.firings + r.instances ≤ budget)
evaluated_only P picks budget o is =
    let p = events_by-picked P picks budget 0 0 (start P) (sound-start P (mean P 0)) in
    let (m, s, means, same) = run_means P (events_by P picks budget 0 (start P)) p.ready o is in
    let down : is_live (instance_at (evaluated P picks budget) 0) ≡ false = rw is refl in
    let counts = run_counts P m s means (events_by P picks budget 0 (start P)) p.ready down in
    (m, s, means, same, omega (arith, counts.2, p.few))
