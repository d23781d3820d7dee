-- From ways without limits to runs under limits.
use Rattle.std.proofs.Common.{◌≡◌, ℕ, zero, suc, ◌+◌, ◌-◌, ◌<◌, ◌≤◌, ◌⊎◌, inl, inr, Bool, true, false, List, [], ◌++◌, length, refl, sym, ap, ◌∙◌, subst, arith, zero-add}
use Rattle.std.specs.Prelude.{if◌then◌else◌}
use Rattle.std.proofs.lemmas.Bool.{cases_lt}
use Rattle.std.proofs.lemmas.List.{append-nil, append_assoc}
use Rattle.umix_base.specs.declared.limits.Limits.{Limits}
use Rattle.um_word.specs.State.{State}
use Rattle.um_word.specs.Table.{Next, Goes, Stops, cycle}
use Rattle.um_word.specs.Run.{Standing, Stands, Failed, run, run_by, run_after, going_on, first_of, ids_left, OnGoes, TakesLegal, AreLegal}
use Rattle.um_word.specs.Free.{free_cycle}
use Rattle.um_word.specs.Loads.{Loads, next_load, loads_after, loads_by, seen, state_in}
use Rattle.um_word.specs.Leads.{OnGoing, Leads, OnStanding, MeetsLimit}
use Rattle.um_word.proofs.Leading.{is_there, on_going, weaken}
use Rattle.um_word.proofs.Moments.{moments}
use Rattle.um_word.proofs.Runs.{halted_stays, runs_compose}
use Rattle.code_templates.specs.Lines.{IsOwnAt}
use Rattle.code_templates.specs.inner.Spent.{spent}
use Rattle.code_templates.proofs.Fresh.{some_new}
use Rattle.code_templates.proofs.Staying.{IsSame}
use Rattle.lower_emit.specs.Entered.{BlocksStand}
use Rattle.lower_link.proofs.Compiled.{IsOnRoute}

on_goes : (next : Next) (P Q : State → Type 0) → ((t : State) → P t → Q t) → OnGoes next P → OnGoes next Q
on_goes (Goes t) P Q f h = f t h
on_goes (Stops fault) P Q f h = h

-- a list that is legal for more cycles is legal for fewer
legal_before : (L : Limits) (n d : ℕ) (ids : List ℕ) (s : State) → AreLegal L (n + d) ids s → AreLegal L n ids s
legal_before L zero d ids s h = tt
legal_before L (suc n) d ids s h =
    let e : suc n + d ≡ suc (n + d) = omega arith in
    let g : AreLegal L (suc (n + d)) ids s = subst (λ k. AreLegal L k ids s) e h in
    λ running. on_goes (cycle s L (first_of ids)) (λ t. TakesLegal ids s × AreLegal L (n + d) (ids_left s ids) t) (λ t. TakesLegal ids s × AreLegal L n (ids_left s ids) t)
    (λ t q. (q.0, legal_before L n d (ids_left s ids) t q.1)) (g running)

-- What holds of the loads at the end of a way, and is handed back from more loads to fewer, holds all along.
module _ (I Q : State → Loads → Type 0) (R : Loads → Type 0) (back : (l k : Loads) → R (l ++ k) → R l) (at_end : (t : State) (k : Loads) → Q t k → R k) where
  loads_begin : (n : ℕ) (s : State) (l : Loads) → Leads I n Q s l → R l
  unfolding Leads
  loads_begin zero s l h = at_end s l h
  loads_begin (suc n) s l h =
      let id = some_new s.arrays in
      by_next (λ t. loads_begin n t (l ++ next_load s)) (free_cycle s id.0) (h.2 id.0 (λ a. id.1))
    where
      by_next : ((t : State) → Leads I n Q t (l ++ next_load s) → R (l ++ next_load s)) → (next : Next) → OnGoing next (λ t. Leads I n Q t (l ++ next_load s)) → R l
      by_next again (Goes t) g = back l (next_load s) (again t g)
      by_next again (Stops fault) g = absurd g

  pub loads_along : (n : ℕ) (s : State) (l : Loads) → Leads I n Q s l → Leads (λ t k. I t k × R k) n Q s l
  unfolding Leads
  loads_along zero s l h = h
  loads_along (suc n) s l h = (
    h.0,
    (h.1, loads_begin (suc n) s l h),
    λ id new. on_going (free_cycle s id) (λ t. Leads I n Q t (l ++ next_load s)) (λ t. Leads (λ t k. I t k × R k) n Q t (l ++ next_load s)) (λ t. loads_along n t (l ++ next_load s)) (h.2 id new),
  )

module _ (I Q : State → Loads → Type 0) where
  -- on its way the machine is running
  pub running_along : (n : ℕ) (s : State) (l : Loads) → Leads I n Q s l → Leads (λ t k. (t.halted ≡ false) × I t k) n Q s l
  unfolding Leads
  running_along zero s l h = h
  running_along (suc n) s l h = (
    h.0,
    (h.0, h.1),
    λ id new. on_going (free_cycle s id) (λ t. Leads I n Q t (l ++ next_load s)) (λ t. Leads (λ t k. (t.halted ≡ false) × I t k) n Q t (l ++ next_load s)) (λ t. running_along n t (l ++ next_load s)) (h.2 id new),
  )

  -- a way of n + m cycles is one of n, from where it goes on
  pub split : (n m : ℕ) (s : State) (l : Loads) → Leads I (n + m) Q s l → Leads I n (Leads I m Q) s l
  unfolding Leads
  split zero m s l h = subst (λ k. Leads I k Q s l) (zero-add m) h
  split (suc n) m s l h =
      let e : suc n + m ≡ suc (n + m) = omega arith in
      let g = subst (λ k. Leads I k Q s l) e h in
      (g.0, g.1, λ id new. on_going (free_cycle s id) (λ t. Leads I (n + m) Q t (l ++ next_load s)) (λ t. Leads I n (Leads I m Q) t (l ++ next_load s)) (λ t. split n m t (l ++ next_load s)) (g.2 id new))

pub first_way : (I Q : State → Loads → Type 0) (n : ℕ) (t : State) (l : Loads) → Leads I (suc n) Q t l → (t.halted ≡ false) × I t l
unfolding Leads
first_way I Q n t l h = (h.0, h.1)

-- what holds along a way and at its end holds where it begins
pub begins_with : (J : State → Loads → Type 0) (n : ℕ) (t : State) (l : Loads) → Leads J n J t l → J t l
unfolding Leads
begins_with J zero t l h = h
begins_with J (suc n) t l h = h.1

-- How a run stands: J holds there, and E where it has not failed; else it has failed at a limit, on a way along which J holds.
pub record Stood (J : State → Loads → Type 0) (L : Limits) (E : State → Type 0) (standing : Standing (List ℕ)) (l : Loads) : Type 0 where
  pub here : J (state_in standing) l
  pub stands : OnStanding standing E (λ t fault. MeetsLimit J J L l t fault)

abbrev pub Halted : State → Type 0
Halted t = t.halted ≡ true

module _ (J : State → Loads → Type 0) (L : Limits) where
  stood_by : (E : State → Type 0) (standing : Standing (List ℕ)) (l : Loads) → OnStanding standing (λ t. Leads J 0 (λ t k. J t k × E t) t l) (MeetsLimit J (λ t k. J t k × E t) L l) → Stood J L E standing l
  stood_by E (Stands t ids) l h = let q = is_there J (λ t k. J t k × E t) t l h in record { here = q.0; stands = q.1 }
  stood_by E (Failed t ids fault) l r = record {
    here = (first_way J (λ t k. J t k × E t) r.more t l r.way).1;
    stands = record { limit = r.limit; met = r.met; more = r.more; way = weaken J (suc r.more) (λ t k. J t k × E t) J (λ t k q. q.0) t l r.way };
  }

  stood : (E : State → Type 0) (n : ℕ) (ids : List ℕ) (s : State) → AreLegal L n ids s → Leads J n (λ t k. J t k × E t) s [] → Stood J L E (run L n ids s) (loads_by first_of ids_left L n ids s)
  stood E n ids s legal h =
      let e : n ≡ n + 0 = omega arith in
      stood_by E (run L n ids s) (loads_by first_of ids_left L n ids s) (moments J (λ t k. J t k × E t) L n 0 ids s [] legal (subst (λ k. Leads J k (λ t k. J t k × E t) s []) e h))

  -- the loads of a run that has halted stay as they are
  halted_loads : (d : ℕ) (ids : List ℕ) (s : State) → s.halted ≡ true → loads_by first_of ids_left L d ids s ≡ []
  halted_loads zero ids s h = refl
  halted_loads (suc d) ids s h = ap (λ b. if b then [] else loads_after (cycle s L (first_of ids)) s (loads_by first_of ids_left L d (ids_left s ids))) h

  -- the loads of a run, once it is over
  loads_of : (d : ℕ) → Standing (List ℕ) → Loads
  loads_of d (Stands t ids) = loads_by first_of ids_left L d ids t
  loads_of d (Failed t ids fault) = []

  loads_split : (n d : ℕ) (ids : List ℕ) (s : State) → loads_by first_of ids_left L (n + d) ids s ≡ loads_by first_of ids_left L n ids s ++ loads_of d (run L n ids s)
  unfolding loads_of
  loads_split zero d ids s = ap (λ k. loads_by first_of ids_left L k ids s) (zero-add d)
  loads_split (suc n) d ids s =
      let e : suc n + d ≡ suc (n + d) = omega arith in
      ap (λ k. loads_by first_of ids_left L k ids s) e ∙ by_halted (λ t. loads_split n d (ids_left s ids) t) s.halted refl
    where
      by_cycle : ((t : State) → loads_by first_of ids_left L (n + d) (ids_left s ids) t ≡ loads_by first_of ids_left L n (ids_left s ids) t ++ loads_of d (run L n (ids_left s ids) t)) → (next : Next) → loads_after next s (loads_by first_of ids_left L (n + d) (ids_left s ids))
          ≡ loads_after next s (loads_by first_of ids_left L n (ids_left s ids)) ++ loads_of d (run_after next s ids (run L n (ids_left s ids)))
      by_cycle again (Goes t) = ap (λ k. next_load s ++ k) (again t) ∙ sym (append_assoc (next_load s) (loads_by first_of ids_left L n (ids_left s ids) t) (loads_of d (run L n (ids_left s ids) t)))
      by_cycle again (Stops fault) = refl

      by_halted : ((t : State) → loads_by first_of ids_left L (n + d) (ids_left s ids) t ≡ loads_by first_of ids_left L n (ids_left s ids) t ++ loads_of d (run L n (ids_left s ids) t)) → (b : Bool) → s.halted ≡ b → (if b then [] else loads_after (cycle s L (first_of ids)) s (loads_by first_of ids_left L (n + d) (ids_left s ids)))
          ≡ (if b then [] else loads_after (cycle s L (first_of ids)) s (loads_by first_of ids_left L n (ids_left s ids))) ++ loads_of d (if b then Stands s ids else run_after (cycle s L (first_of ids)) s ids (run L n (ids_left s ids)))
      by_halted again true h = sym (halted_loads d ids s h)
      by_halted again false h = by_cycle again (cycle s L (first_of ids))

  -- past the end nothing changes
  past : (d : ℕ) (l : Loads) (standing : Standing (List ℕ)) → Stood J L Halted standing l → Stood J L Halted (going_on standing (λ t j. run_by first_of ids_left L d j t)) (l ++ loads_of d standing)
  unfolding loads_of
  past d l (Stands t ids) h =
      let none : l ++ loads_by first_of ids_left L d ids t ≡ l = ap (λ k. l ++ k) (halted_loads d ids t h.stands) ∙ append-nil l in
      subst (λ k. Stood J L Halted (run_by first_of ids_left L d ids t) k) (sym none)
      (subst (λ s. Stood J L Halted s l) (sym (halted_stays first_of ids_left L d ids t h.stands)) h)
  past d l (Failed t ids fault) h = subst (λ k. Stood J L Halted (Failed t ids fault) k) (sym (append-nil l)) h

  because : (E F : State → Type 0) → ((t : State) → E t → F t) → (standing : Standing (List ℕ)) (l : Loads) → Stood J L E standing l → Stood J L F standing l
  because E F f (Stands t ids) l h = record { here = h.here; stands = f t h.stands }
  because E F f (Failed t ids fault) l h = record { here = h.here; stands = h.stands }

  -- A way of N cycles to where the machine has halted says how a run of n cycles stands; at N it is over.
  pub stands_to : (N n : ℕ) (ids : List ℕ) (s : State) → AreLegal L n ids s → Leads J N (λ t k. J t k × Halted t) s [] →
      Stood J L (λ t. N ≤ n → Halted t) (run L n ids s) (loads_by first_of ids_left L n ids s)
  stands_to N n ids s legal h = by_order (cases_lt N n)
    where
      by_order : (N < n) ⊎ (n ≤ N) → Stood J L (λ t. N ≤ n → Halted t) (run L n ids s) (loads_by first_of ids_left L n ids s)
      by_order (inl lt) =
          let d = n - N in
          let e : n ≡ N + d = omega (arith, lt) in
          let all = loads_by first_of ids_left L N ids s in
          let legal2 : AreLegal L N ids s = legal_before L N d ids s (subst (λ k. AreLegal L k ids s) e legal) in
          because Halted (λ t. N ≤ n → Halted t) (λ t h le. h) (run L n ids s) (loads_by first_of ids_left L n ids s)
          (subst (λ k. Stood J L Halted (run L k ids s) (loads_by first_of ids_left L k ids s)) (sym e)
          (subst (λ k. Stood J L Halted (run L (N + d) ids s) k) (sym (loads_split N d ids s))
          (subst (λ x. Stood J L Halted x (all ++ loads_of d (run L N ids s))) (sym (runs_compose first_of ids_left L N d ids s))
          (past d all (run L N ids s) (stood Halted N ids s legal2 h)))))
      by_order (inr ge) =
          let k = N - n in
          let e : N ≡ n + k = omega (arith, ge) in
          let Q : State → Loads → Type 0 = λ t k. J t k × Halted t in
          stood (λ t. N ≤ n → Halted t) n ids s legal
          (weaken J n (Leads J k Q) (λ t l. J t l × (N ≤ n → Halted t)) (at_split k e) s [] (split J Q n k s [] (subst (λ k. Leads J k Q s []) e h)))
        where
          at_split : (k : ℕ) → N ≡ n + k → (t : State) (l : Loads) → Leads J k (λ t k. J t k × Halted t) t l → J t l × (N ≤ n → Halted t)
          at_split zero e t l h = let q = is_there J (λ t k. J t k × Halted t) t l h in (q.0, λ le. q.1)
          at_split (suc k) e t l h = ((first_way J (λ t k. J t k × Halted t) k t l h).1, λ le. absurd (omega (arith, e, le)))

  -- A way of more cycles says how a run of n cycles stands.
  pub stands_before : (N n : ℕ) (ids : List ℕ) (s : State) → n < N → AreLegal L n ids s → Leads J N (λ t k. Unit {0}) s [] →
      Stood J L (λ t. Unit {0}) (run L n ids s) (loads_by first_of ids_left L n ids s)
  stands_before N n ids s lt legal h =
      let k = N - n - 1 in
      let e : N ≡ n + suc k = omega (arith, lt) in
      let Q : State → Loads → Type 0 = λ t k. Unit {0} in
      stood (λ t. Unit {0}) n ids s legal
      (weaken J n (Leads J (suc k) Q) (λ t l. J t l × Unit {0}) (λ t l h. ((first_way J Q k t l h).1, tt)) s [] (split J Q n (suc k) s [] (subst (λ k. Leads J k Q s []) e h)))

-- once something was loaded, the blocks stand in so many arrays
abbrev pub BlocksMade : (codes : ℕ → List ℕ) → (count : ℕ) → State → Loads → Type 0
BlocksMade codes count t k = 1 ≤ length k → (table : List ℕ) × (length table ≡ count) × BlocksStand codes table t

-- What holds of a state on the way, with the loads before it: of its operator, its input and array 0, the loads, the blocks, what was written,
-- and what was spent.
pub record Sound (input first : List ℕ) (whole : List (List ℕ × Bool)) (Written Ended : List ℕ → Type 0) (bound : Loads → ℕ → ℕ) (codes : ℕ → List ℕ) (count : ℕ) (t : State) (k : Loads) : Type 0 where
  pub own : t.halted ≡ false → IsOwnAt t
  pub same : IsSame input first t k
  pub begins : IsOnRoute whole k
  pub all : t.halted ≡ true → seen k ≡ whole
  pub blocks : BlocksMade codes count t k
  pub writes : Written t.out
  pub wrote : t.halted ≡ true → Ended t.out
  pub spends : spent t ≤ bound k (length t.out)
