-- The plans of a good program push what it means.
use Rattle.std.specs.Prelude.{Option, Some, None, ◌≡◌, ℕ, suc, ◌<◌, IsTrue, Bool, true, false, List, [], ◌∷◌, ◌++◌, length, slice_get}
use Rattle.std.proofs.Common.{refl, sym, ◌∙◌, ap, subst, arith, ◌⊎◌, inl, inr}
use Rattle.std.proofs.lemmas.Bool.{cases_lt}
use Rattle.std.proofs.lemmas.Option.{slice_get_past}
use Rattle.two_d.specs.declared.module.Origin.{Origin}
use Rattle.two_d.specs.declared.module.Origin.TheVariants.{North, West}
use Rattle.two_d.specs.declared.module.To.{To}
use Rattle.two_d.specs.declared.module.To.TheVariants.{N, W, Exit}
use Rattle.two_d.specs.Programs.{BoxForm, ModuleForm, Program, module_at, main_of}
use Rattle.two_d.specs.Sound.{Comes, IsKeptOrder}
use Rattle.two_d.specs.Good.{IsGood}
use Rattle.two_d.specs.Meaning.{Inputs, Answers, act, look_of, meaning_of}
use Rattle.two_d.specs.Walks.{AreKeptOrders, AreOrders, visits}
use Rattle.two_d.proofs.KeptOrders.{kept_past, kept_valid}
use Rattle.lower_plan.specs.declared.plan.Plan.{Plan}
use Rattle.lower_plan.specs.Plans.{box_inputs, these, wire_starts, slot_of, ArePlans}
use Rattle.lower_plan.proofs.Wires.{IsIn, in_get, slot_holds}
use Rattle.lower_emit.specs.inner.Firing.{entry_wires}
use Rattle.lower_emit.specs.inner.Trips.{Trips, trips_of, came_to}
use Rattle.lower_emit.specs.KnownOutcomes.{known_of, texts_of}
use Rattle.lower_emit.specs.Plans.{block_of}
use Rattle.lower_emit.specs.inner.Plans.{block_if, plans_of, order_if, orders_of}
use Rattle.lower_emit.proofs.Outcomes.{push_came, push_trips}
use Rattle.lower_emit.proofs.Priced.{plan_here}
use Rattle.lower_link.specs.inner.Depth.{Push}

module _ (P : Program) (good : IsGood P) (plans : List Plan) (are : ArePlans P plans) where
  -- Outcomes and calls of the plans are those of the program.
  pub pushes : Push P (orders_of plans) (texts_of P) (plans_of P plans)
  pushes = record { outcomes = outcomes; calls = calls }
    where
      outcomes : (answer : Answers) (m : ℕ) (a : Inputs) → m < length P → came_to (known_of (texts_of P) answer) (plans_of P plans m) a ≡ known_of (texts_of P) (meaning_of P answer) m a
      outcomes answer m a lt =
          let h = plan_here P plans are m lt in
          subst (λ (r : Option Plan). came_to (known_of (texts_of P) answer) (block_if P r) a ≡ known_of (texts_of P) (meaning_of P answer) m a) (sym h.at)
          (subst (λ (k : ℕ). came_to (known_of (texts_of P) answer) (block_of P h.plan) a ≡ known_of (texts_of P) (meaning_of P answer) k a) h.number
          (push_came P answer a h.plan h.is (good.sound h.plan.«module» _ h.is.there)))

      calls : (trips : Trips) (answer : Answers) (m : ℕ) (a : Inputs) → m < length P →
          trips_of trips (known_of (texts_of P) answer) m (plans_of P plans m).boxes (entry_wires (plans_of P plans m) a.north a.west) ≡ visits trips answer m (act P m (look_of P answer m a)) (orders_of plans m)
      calls trips answer m a lt =
          let h = plan_here P plans are m lt in
          subst (λ (r : Option Plan). trips_of trips (known_of (texts_of P) answer) m (block_if P r).boxes (entry_wires (block_if P r) a.north a.west) ≡ visits trips answer m (act P m (look_of P answer m a)) (order_if r)) (sym h.at)
          (subst (λ (k : ℕ). trips_of trips (known_of (texts_of P) answer) k (block_of P h.plan).boxes (entry_wires (block_of P h.plan) a.north a.west) ≡ visits trips answer k (act P k (look_of P answer k a)) (order_if (Some h.plan))) h.number
          (push_trips P answer a h.plan h.is (good.sound h.plan.«module» _ h.is.there) trips))

  -- The orders of the plans are the kept ones.
  pub kept_are : AreKeptOrders P (orders_of plans)
  kept_are m = elim (cases_lt m (length P)) [
    | inl lt ↦ (
        let h = plan_here P plans are m lt in
        subst (λ (r : Option Plan). IsKeptOrder (module_at P m) (order_if r)) (sym h.at) (subst (λ (k : ℕ). IsKeptOrder (module_at P k) (order_if (Some h.plan))) h.number h.is.order)
        )
    | inr past ↦ subst (λ (r : Option Plan). IsKeptOrder (module_at P m) (order_if r)) (sym (slice_get_past plans m (omega (arith, past, are.one_each)))) (kept_past P m past)
  ]

  pub orders_are : AreOrders P (orders_of plans)
  orders_are = kept_valid P (orders_of plans) kept_are

-- a wire that begins somewhere ends somewhere
of_these : (os : List (Option Origin)) (o : Origin) → IsIn o (these os) → IsIn (Some o) os
of_these [] o h = absurd h
of_these (None ∷ os) o h = inr (of_these os o h)
of_these (Some p ∷ os) o (inl e) = inl (ap Some e)
of_these (Some p ∷ os) o (inr h) = inr (of_these os o h)

of_append : {A : Type 0} (x : A) (xs ys : List A) → IsIn x (xs ++ ys) → IsIn x xs ⊎ IsIn x ys
of_append x [] ys h = inr h
of_append x (y ∷ xs) ys (inl e) = inl (inl e)
of_append x (y ∷ xs) ys (inr h) = elim (of_append x xs ys h) [ inl a ↦ inl (inr a) | inr b ↦ inr b ]

record Input (rows : List BoxForm) (o : Origin) : Type 0 where
  box : ℕ
  row : BoxForm
  there : slice_get rows box ≡ Some row
  from : (row.n ≡ Some o) ⊎ (row.w ≡ Some o)

of_inputs : (rows : List BoxForm) (o : Origin) → IsIn (Some o) (box_inputs rows) → Input rows o
of_inputs [] o h = absurd h
of_inputs (row ∷ rows) o (inl e) = record { box = 0; row = row; there = refl; from = inl e }
of_inputs (row ∷ rows) o (inr (inl e)) = record { box = 0; row = row; there = refl; from = inr e }
of_inputs (row ∷ rows) o (inr (inr h)) = let i = of_inputs rows o h in record { box = suc i.box; row = i.row; there = i.there; from = i.from }

in_at : {A : Type 0} (x : A) (xs : List A) → IsIn x xs → (i : ℕ) × (slice_get xs i ≡ Some x)
in_at x [] h = absurd h
in_at x (y ∷ xs) (inl e) = (0, ap Some e)
in_at x (y ∷ xs) (inr h) = let r = in_at x xs h in (suc r.0, r.1)

comes_somewhere : (M : ModuleForm) (o : Origin) (k : ℕ) → slot_of M o ≡ Some k → (end : To) × Comes M o end
comes_somewhere M o k e = elim (of_append (Some o) (box_inputs M.boxes) M.exits (of_these _ o (in_get o (wire_starts M) k (slot_holds (wire_starts M) o k e)))) [
  | inl h ↦ (let i = of_inputs M.boxes o h in elim i.from [ inl n ↦ (N i.box, (i.row, i.there, n)) | inr w ↦ (W i.box, (i.row, i.there, w)) ])
  | inr h ↦ (let (i, at) = in_at (Some o) M.exits h in (Exit i, at))
]

module _ (P : Program) (good : IsGood P) (plans : List Plan) (are : ArePlans P plans) where
  -- No wire leaves the entries of `main`.
  pub main_closed : ((plans_of P plans (main_of P)).north ≡ None) × ((plans_of P plans (main_of P)).west ≡ None)
  main_closed =
      let h = plan_here P plans are (main_of P) good.main_there in
      subst (λ (r : Option Plan). ((block_if P r).north ≡ None) × ((block_if P r).west ≡ None)) (sym h.at) (
        h.is.north ∙ (ap (λ k. slot_of (module_at P k) North) h.number ∙ north (slot_of (module_at P (main_of P)) North) refl),
        h.is.west ∙ (ap (λ k. slot_of (module_at P k) West) h.number ∙ west (slot_of (module_at P (main_of P)) West) refl),
      )
    where
      closed : (b : Bool) → b ≡ false → IsTrue b → ⊥
      closed true e h = absurd (cc)
      closed false e h = absurd (cc)

      north : (s : Option ℕ) → slot_of (module_at P (main_of P)) North ≡ s → s ≡ None
      north None e = refl
      north (Some k) e =
          let (end, comes) = comes_somewhere (module_at P (main_of P)) North k e in
          absurd (closed _ good.main_closed.0 ((good.sound (main_of P) _ good.main_there).known North end comes))

      west : (s : Option ℕ) → slot_of (module_at P (main_of P)) West ≡ s → s ≡ None
      west None e = refl
      west (Some k) e =
          let (end, comes) = comes_somewhere (module_at P (main_of P)) West k e in
          absurd (closed _ good.main_closed.1 ((good.sound (main_of P) _ good.main_there).known West end comes))
