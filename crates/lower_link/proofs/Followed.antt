-- What is made of the plans of a good program follows it, within bounds.
use Rattle.std.proofs.Common.{◌≡◌, ℕ, zero, suc, ◌+◌, ◌*◌, ◌≤◌, inl, inr, Bool, true, false, List, [], ◌∷◌, ◌++◌, length, take, drop, Option, Some, None, refl, sym, ap, ◌∙◌, subst, arith, length-append}
use Rattle.std.specs.Prelude.{IfSome, if◌then◌else◌, is_some, map, ◌==◌}
use Rattle.std.proofs.lemmas.List.{length-map, append-nil}
use Rattle.umix_base.specs.declared.limits.Limits.{Limits}
use Rattle.um_word.specs.State.{State, array_at, live_arrays, start_of}
use Rattle.um_word.specs.Table.{Fault, FingerOutside, BadOperator, ArraysFull, WordsFull, Next, Goes, Stops, cycle, op_under}
use Rattle.um_word.specs.Run.{Standing, Stands, Failed, run, first_of, ids_left, AreLegal}
use Rattle.um_word.specs.Free.{free_cycle}
use Rattle.um_word.specs.Loads.{Loads, next_load, loads_after, loads_by, seen, entries, state_in, fault_in, Loaded}
use Rattle.um_word.specs.Leads.{Leads, MeetsLimit}
use Rattle.um_word.proofs.Leading.{on_going}
use Rattle.two_d.specs.Programs.{Program, main_of, module_at}
use Rattle.two_d.specs.Good.{IsGood}
use Rattle.two_d.specs.Meaning.{Meaning, no_inputs, mean}
use Rattle.two_d.specs.Walks.{Visit, load_of, walk, route}
use Rattle.two_d.specs.Weights.{part, weight}
use Rattle.code_templates.specs.inner.Spent.{words_beside}
use Rattle.code_templates.proofs.Holding.{one_load}
use Rattle.code_templates.proofs.Staying.{last_length, same_long}
use Rattle.code_templates.proofs.Counts.{IsCount, next_counts}
use Rattle.lower_plan.specs.declared.plan.Plan.{Plan}
use Rattle.lower_plan.specs.Plans.{ArePlans}
use Rattle.lower_emit.specs.Entered.{BlocksStand}
use Rattle.lower_emit.specs.inner.Plans.{plans_of, orders_of, prices_of}
use Rattle.lower_emit.proofs.Priced.{weighs_some}
use Rattle.lower_link.proofs.Compiled.{may_spend_all}
use Rattle.lower_link.specs.Realises.{units}
use Rattle.lower_link.specs.Follows.{extent, block_at, HoldsBlocks, IsCountWithin, IsBounded, Followed}
use Rattle.lower_link.specs.inner.Made.{places_of, IsMade, FollowsLaw}
use Rattle.lower_link.proofs.Planned.{orders_are, kept_are}
use Rattle.lower_link.proofs.Realising.{Sound, Stood, begins_with}
use Rattle.lower_link.proofs.Weighing.{spent_within}
use Rattle.lower_link.proofs.Made.{is_weighed}
use Rattle.lower_link.proofs.Realised.{with_outcome, without_outcome}
use Rattle.two_d.proofs.Staying.{route_first, route_whole}

-- n cycles make at most n loads
module _ (L : Limits) where
  loads_few : (n : ℕ) (ids : List ℕ) (s : State) → length (loads_by first_of ids_left L n ids s) ≤ n
  loads_few zero ids s = omega arith
  loads_few (suc n) ids s = by_halted (λ t. loads_few n (ids_left s ids) t) s.halted
    where
      by_next : ((t : State) → length (loads_by first_of ids_left L n (ids_left s ids) t) ≤ n) → (next : Next) → length (loads_after next s (loads_by first_of ids_left L n (ids_left s ids))) ≤ suc n
      by_next again (Goes t) =
          let one = one_load (op_under s) s in
          let all = length-append (next_load s) (loads_by first_of ids_left L n (ids_left s ids) t) in
          let rest = again t in
          omega (arith, one, all, rest)
      by_next again (Stops fault) = omega arith

      by_halted : ((t : State) → length (loads_by first_of ids_left L n (ids_left s ids) t) ≤ n) → (b : Bool) →
          length {A = Loaded} (if b then [] else loads_after (cycle s L (first_of ids)) s (loads_by first_of ids_left L n (ids_left s ids))) ≤ suc n
      by_halted again true = omega arith
      by_halted again false = by_next again (cycle s L (first_of ids))

-- no list is longer than this
AreShort : ℕ → List (List ℕ × Bool) → Type 0
AreShort most [] = Unit {0}
AreShort most (x ∷ xs) = (length x.0 ≤ most) × AreShort most xs

take_shorter : (n : ℕ) (xs : List ℕ) → length (take n xs) ≤ length xs
take_shorter zero xs = omega arith
take_shorter (suc n) [] = omega arith
take_shorter (suc n) (x ∷ xs) = let h = take_shorter n xs in omega (arith, h)

drop_shorter : (n : ℕ) (xs : List ℕ) → length (drop n xs) ≤ length xs
drop_shorter zero xs = omega arith
drop_shorter (suc n) [] = omega arith
drop_shorter (suc n) (x ∷ xs) = let h = drop_shorter n xs in omega (arith, h)

-- the words loaded last are short
last_short : (most first : ℕ) (k : Loads) (rest : List (List ℕ × Bool)) → first ≤ most → AreShort most (seen k ++ rest) → last_length first k ≤ most
unfolding AreShort
last_short most first [] rest le h = le
last_short most first (x ∷ k) rest le h = last_short most (length x.words) k rest h.0 h.1

module _ (P : Program) (order : ℕ → List ℕ) (words : List ℕ) (blocks : List (ℕ × ℕ)) where
  block_shorter : (i : ℕ) → length (block_at words blocks i) ≤ length words
  block_shorter i =
      let b : ℕ × ℕ = extent blocks i in
      let h = take_shorter b.1 (drop b.0 words) in
      let g = drop_shorter b.0 words in
      omega (arith, h, g)

  visits_short : (vs : List Visit) (rest : List (List ℕ × Bool)) → AreShort (length words) rest → AreShort (length words) (map (load_of (block_at words blocks)) vs ++ rest)
  unfolding AreShort
  visits_short [] rest h = h
  visits_short (Rattle.two_d.specs.Walks.Calls m ∷ vs) rest h = (block_shorter m, visits_short vs rest h)
  visits_short (Rattle.two_d.specs.Walks.Returns m ∷ vs) rest h = (block_shorter m, visits_short vs rest h)

  -- each load of a route is short
  route_short : (n : ℕ) → AreShort (length words) (route P order (block_at words blocks) (block_at words blocks (length P)) n)
  unfolding AreShort
  route_short n = visits_short (walk P order n (main_of P) no_inputs) (if is_some (mean P n (main_of P) no_inputs) then (block_at words blocks (length P), true) ∷ [] else []) (by (is_some (mean P n (main_of P) no_inputs)))
    where
      by : (b : Bool) → AreShort (length words) (if b then (block_at words blocks (length P), true) ∷ [] else [])
      by true = (block_shorter (length P), tt)
      by false = tt

-- what a state has is within bounds
record HasWithin (bound : ℕ) (t : State) : Type 0 where
  arrays : live_arrays t.arrays ≤ 8 * bound
  beside : words_beside t.arrays ≤ 128 * bound
  zero_is : length (array_at t.arrays 0) ≤ 48 * bound
  cycles : t.cycles ≤ 512 * bound

module _ (P : Program) (good : IsGood P) (plans : List Plan) (are : ArePlans P plans) (blocks : List (ℕ × ℕ)) (words : List ℕ) (made : IsMade P plans blocks words)
    (input : List ℕ) (whole : List (List ℕ × Bool)) (short : AreShort (length words) whole) (Written Ended : List ℕ → Type 0) where
  abbrev J : State → Loads → Type 0
  J = Sound input words whole Written Ended (may_spend_all P (plans_of P plans) (prices_of P) (places_of blocks)) (block_at words blocks) (suc (length P))

  abbrev bound_of : Loads → State → ℕ
  bound_of k t = units P (entries k) (length t.out)

  here_within : (t : State) (k : Loads) → J t k → HasWithin (bound_of k t) t
  here_within t k h =
      let g = weight P in
      let some = weighs_some P good in
      let all = spent_within P (plans_of P plans) (prices_of P) (places_of blocks) (λ m. part (module_at P m)) (weight P) (is_weighed P good plans are blocks words made) (omega (arith, some)) t k (length t.out) h.spends in
      let first : length (array_at t.arrays 0) ≤ length words =
      (let long = same_long input words t k h.same in let last = last_short (length words) (length words) k h.begins.0 (omega arith) (subst (AreShort (length words)) (sym h.begins.1) short) in omega (arith, long, last)) in
      let few = made.short in
      let more : g * (entries k + 1) ≡ g * entries k + g = omega arith in
      record { arrays = omega (arith, all); beside = omega (arith, all); zero_is = omega (arith, first, few, more); cycles = omega (arith, all) }

  -- a limit's fault has a number within bounds
  module _ (L : Limits) (l : Loads) (t : State) where
    next_within : (fault : Fault) (u : State) → J t l → IsCount fault (next_load t) t u → J u (l ++ next_load t) → IsCountWithin (bound_of l t) fault
    next_within (ArraysFull count) u here c h =
        let same : l ++ next_load t ≡ l = ap (λ k. l ++ k) c.0 ∙ append-nil l in
        let w = here_within u l (subst (J u) same h) in
        let a = subst (λ out. live_arrays u.arrays ≤ 8 * units P (entries l) (length out)) c.1 w.arrays in
        let is = c.2 in
        omega (arith, a, is)
    next_within (WordsFull count) u here (inl c) h =
        let same : l ++ next_load t ≡ l = ap (λ k. l ++ k) c.0 ∙ append-nil l in
        let w = here_within u l (subst (J u) same h) in
        let out = ap length c.1 in
        let a = w.beside in
        let z = w.zero_is in
        let is = c.2 in
        omega (arith, a, z, is, out)
    next_within (WordsFull count) u here (inr c) h =
        let w = here_within t l here in
        let a = w.beside in
        let long = same_long input words u (l ++ next_load t) h.same in
        let last = last_short (length words) (length words) (l ++ next_load t) h.begins.0 (omega arith) (subst (AreShort (length words)) (sym h.begins.1) short) in
        let few = made.short in
        let more : weight P * (entries l + 1) ≡ weight P * entries l + weight P = omega arith in
        omega (arith, a, long, last, few, more, c)
    next_within FingerOutside u here c h = tt
    next_within BadOperator u here c h = tt
    next_within _ u here c h = tt

    refused_within : (fault : Fault) → J t l → MeetsLimit J J L l t fault → IsCountWithin (bound_of l t) fault
    unfolding Leads
    refused_within fault here r =
        let next = next_counts L t fault (λ u. J u (l ++ next_load t)) here.same.there r.met
        (λ id new. on_going (free_cycle t id) (λ u. Leads J r.more J u (l ++ next_load t)) (λ u. J u (l ++ next_load t)) (λ u h. begins_with J r.more u (l ++ next_load t) h) (r.way.2 id new)) in
        next_within fault next.0 here next.1 next.2

  bounded : (L : Limits) (E : State → Type 0) (standing : Standing (List ℕ)) (l : Loads) → Stood J L E standing l → IsBounded (bound_of l (state_in standing)) standing
  bounded L E standing l h =
      let w = here_within (state_in standing) l h.here in
      let b = w.beside in
      let z = w.zero_is in
      let c = w.cycles in
      record { arrays = w.arrays; words = omega (arith, b, z); refused = refused standing h; cycles = omega (arith, c) }
    where
      refused : (standing : Standing (List ℕ)) → Stood J L E standing l → IfSome (fault_in standing) (IsCountWithin (bound_of l (state_in standing)))
      refused (Stands t ids) h = tt
      refused (Failed t ids fault) h = refused_within L l t fault h.here h.stands

module _ (P : Program) (good : IsGood P) (plans : List Plan) (are : ArePlans P plans) (blocks : List (ℕ × ℕ)) (words : List ℕ) (made : IsMade P plans blocks words)
    (L : Limits) (input : List ℕ) (n : ℕ) (ids : List ℕ) (legal : AreLegal L n ids (start_of words input)) where
  abbrev codes : ℕ → List ℕ
  codes = block_at words blocks

  abbrev standing : Standing (List ℕ)
  standing = run L n ids (start_of words input)

  abbrev loads : Loads
  loads = loads_by first_of ids_left L n ids (start_of words input)

  abbrev route_to : ℕ → List (List ℕ × Bool)
  route_to = route P (orders_of plans) codes (codes (length P))

  abbrev Holds : (List ℕ → Type 0) → (List ℕ → Type 0) → State → Loads → Type 0
  Holds Written Ended = Sound input words (route_to (suc n)) Written Ended (may_spend_all P (plans_of P plans) (prices_of P) (places_of blocks)) codes (suc (length P))

  count : length (seen loads) ≡ length loads
  count = length-map loads (λ load. (load.words, load.offset == 0))

  few : length (seen loads) ≤ n
  few = let a = loads_few L n ids (start_of words input) in let b = count in omega (arith, a, b)

  held_by : (t : State) → ((table : List ℕ) × (length table ≡ suc (length P)) × BlocksStand codes table t) → HoldsBlocks P words blocks t
  held_by t h = record {
    table = h.0;
    there = h.2.there;
    many = let e = h.1 in omega (arith, e);
    each = λ i le. let e = h.1 in h.2.each i (omega (arith, e, le));
  }

  stands_so : (Written Ended : List ℕ → Type 0) (E : State → Type 0) → Stood (Holds Written Ended) L E standing loads → Followed P words blocks route_to standing loads
  stands_so Written Ended E h = record {
    on_route = subst (λ k. seen loads ≡ take k (route_to (k + 1))) count (route_first P (orders_of plans) codes (codes (length P)) (orders_are P good plans are) n (seen loads) few h.here.begins);
    whole_route = λ halted. subst (λ k. seen loads ≡ route_to (k + 1)) count (route_whole P (orders_of plans) codes (codes (length P)) (orders_are P good plans are) n (seen loads) few (h.here.all halted));
    keeps = λ running. (h.here.own running).own;
    array_zero = h.here.same.zero_is;
    holds = λ some. held_by (state_in standing) (h.here.blocks some);
    bounds = bounded P good plans are blocks words made input (route_to (suc n)) (route_short P (orders_of plans) words blocks (suc n)) Written Ended L E standing loads h;
  }

  by : (o : Option Meaning) → mean P (suc n) (main_of P) no_inputs ≡ o → Followed P words blocks route_to standing loads
  by (Some r) e = stands_so _ _ _ (with_outcome P good plans are blocks words made L input n ids legal (suc n) r e)
  by None e = stands_so _ _ _ (without_outcome P good plans are blocks words made L input n ids legal e)

  followed : Followed P words blocks route_to standing loads
  followed = by (mean P (suc n) (main_of P) no_inputs) refl

pub follows : FollowsLaw
unfolding FollowsLaw
follows P good plans are blocks words made = record {
  short = made.short;
  blocks_are = made.blocks_are;
  order = orders_of plans;
  kept = kept_are P good plans are;
  runs = λ L input n ids fits legal. followed P good plans are blocks words made L input n ids legal;
}
