-- The outcome of an instance, from what was found in its row.
use Rattle.std.specs.Prelude.{Option, Some, None, ◌≡◌, ℕ, zero, suc, ◌+◌, ◌-◌, ◌<◌, List, [], ◌∷◌, ◌++◌, length, take}
use Rattle.std.specs.Option.{option_map}
use Rattle.std.proofs.Common.{refl, sym, ◌∙◌, ap, arith, zero-add, suc-add, get_or}
use Rattle.std.proofs.Math.Seq.{take-suc, take-length}
use Rattle.codex_values.specs.Value.{Value}
use Rattle.codex_values.specs.Store.{value_in}
use Rattle.two_d.specs.declared.module.Origin.{Origin}
use Rattle.two_d.specs.declared.outcome.Outcome as kept
use Rattle.two_d.specs.declared.outcome.Outcome.TheVariants.{Value as ValueKept, Stuck as StuckKept}
use Rattle.two_d.specs.Meaning.{Cell, Stuck, first_below, carried_by, result_of, outcome_of, stuck_of, returned}
use Rattle.two_d.specs.Programs.{Program, ModuleForm, module_at, box_count}
use Rattle.two_d.specs.Steps.{Instance, fired, wires, end_of}
use Rattle.two_d.specs.Texts.{outcome_in}
use Rattle.two_d.specs.Trails.{Trail, trail_in, via}
use Rattle.fire_core.specs.declared.outcomes.Carried.{Carried}
use Rattle.fire_core.specs.declared.outcomes.Carried.TheVariants.{One, More}
use Rattle.fire_core.specs.inner.Outcomes.{IsCarried, value_listed}

pub first_below-later : (n d : ℕ) (f : ℕ → Option Trail) (trail : Trail) → first_below n f ≡ Some trail → first_below (d + n) f ≡ Some trail
first_below-later n zero f trail e = rw zero-add e
first_below-later n (suc d) f trail e =
    rw suc-add (ap (λ (o : Option Trail). elim o [ None ↦ f (d + n) | Some s ↦ Some s ]) (first_below-later n d f trail e))

-- the first that is there, where there is none before it
pub first_below-at : (n k : ℕ) (f : ℕ → Option Trail) (trail : Trail) → k < n → first_below k f ≡ None → f k ≡ Some trail → first_below n f ≡ Some trail
first_below-at n k f trail lt none is =
    let here : first_below (suc k) f ≡ Some trail = rw none is in
    let all : (n - suc k) + suc k ≡ n = omega arith in
    rw all at (first_below-later (suc k) (n - suc k) f trail here)

pub first_below-none : (k : ℕ) (f : ℕ → Option Trail) → first_below k f ≡ None → f k ≡ None → first_below (k + 1) f ≡ None
first_below-none k f none is = let next : k + 1 ≡ suc k = omega arith in rw (next, none) is

pub carried_by-append : (look : Origin → Option Value) (xs ys : List (Option Origin)) → carried_by look (xs ++ ys) ≡ carried_by look xs ++ carried_by look ys
carried_by-append look [] ys = refl
carried_by-append look (None ∷ xs) ys = carried_by-append look xs ys
carried_by-append look (Some o ∷ xs) ys = by (look o) (carried_by-append look xs ys)
  where
    by : (v : Option Value) → carried_by look (xs ++ ys) ≡ carried_by look xs ++ carried_by look ys →
        elim v [ None ↦ carried_by look (xs ++ ys) | Some v ↦ v ∷ carried_by look (xs ++ ys) ]
        ≡ elim v [ None ↦ carried_by look xs | Some v ↦ v ∷ carried_by look xs ] ++ carried_by look ys
    by None e = e
    by (Some v) e = ap (λ l. v ∷ l) e

pub carried-one : (look : Origin → Option Value) (o : Origin) (v : Option Value) → v ≡ look o → value_listed v ≡ carried_by look (Some o ∷ [])
carried-one look o v e = ap value_listed e ∙ by (look o)
  where
    by : (v : Option Value) → value_listed v ≡ elim v [ None ↦ [] | Some v ↦ v ∷ [] ]
    by None = refl
    by (Some v) = refl

pub carried-at : (look : Origin → Option Value) (exit : Option Origin) (o : Origin) (v : Option Value) → exit ≡ Some o → v ≡ look o → value_listed v ≡ carried_by look (exit ∷ [])
carried-at look exit o v is e = rw is (carried-one look o v e)

-- the exits so far and one more
pub carried-more : (look : Origin → Option Value) (exits : List (Option Origin)) (k : ℕ) (d : Option Origin) (v : List Value) → k < length exits →
    v ≡ carried_by look (get_or exits k d ∷ []) → carried_by look (take k exits) ++ v ≡ carried_by look (take (k + 1) exits)
carried-more look exits k d v lt e =
    ap (λ l. carried_by look (take k exits) ++ l) e
    ∙ (sym (carried_by-append look (take k exits) (get_or exits k d ∷ []))
    ∙ ap (carried_by look) longer)
  where
    longer : take k exits ++ get_or exits k d ∷ [] ≡ take (k + 1) exits
    longer = let next : k + 1 ≡ suc k = omega arith in rw next (sym (take-suc exits k d lt))

pub carried-whole : (look : Origin → Option Value) (exits : List (Option Origin)) (k : ℕ) → k ≡ length exits → carried_by look (take k exits) ≡ carried_by look exits
carried-whole look exits k e = rw e (ap (carried_by look) (take-length exits))

pub joined-one : (values carried : List Value) (found : Carried) (a place : ℕ) (at : Option ℕ) → found ≡ One a → at ≡ Some place → IsCarried values found carried →
    (v w : Value) × (rest : List Value) × (carried ++ value_listed (option_map (value_in values) at) ≡ v ∷ w ∷ rest)
joined-one values carried found a place at is there h =
    let one : carried ≡ value_in values a ∷ [] = rw is at h in
    (value_in values a, value_in values place, [], rw (one, there) refl)

pub joined-more : (values carried more : List Value) (found : Carried) → found ≡ More → IsCarried values found carried →
    (v w : Value) × (rest : List Value) × (carried ++ more ≡ v ∷ w ∷ rest)
joined-more values carried more found is h =
    let many : (v w : Value) × (rest : List Value) × (carried ≡ v ∷ w ∷ rest) = rw is at h in
    (many.0, many.1, many.2 ++ more, ap (λ l. l ++ more) many.3)

module _ (P : Program) (x : Instance) (n : ℕ) (size : n ≡ box_count P x.kind) where
  pub end_of-stuck : (trail : Trail) → Some trail ≡ first_below n (λ b. stuck_of (fired x b)) → Stuck trail ≡ end_of P x
  unfolding outcome_of
  end_of-stuck trail e =
      let here : Some trail ≡ first_below (box_count P x.kind) (λ b. stuck_of (fired x b)) = rw size at e in
      rw (← here) refl

  pub end_of-carried : (m : ModuleForm) (exits : List (Option Origin)) (carried : List Value) → module_at P x.kind ≡ m → exits ≡ m.exits →
      None ≡ first_below n (λ b. stuck_of (fired x b)) → carried_by (wires x) exits ≡ carried → result_of x.kind carried ≡ end_of P x
  unfolding outcome_of
  end_of-carried m exits carried is these e same =
      let here : None ≡ first_below (box_count P x.kind) (λ b. stuck_of (fired x b)) = rw size at e in
      let all : carried_by (wires x) (module_at P x.kind).exits ≡ carried = rw (is, ← these) same in
      rw (← here, all) refl

pub returned-value : (values : List Value) (trails : List Trail) (m b at : ℕ) (outcome : kept.Outcome) → outcome ≡ ValueKept at →
    ◌≡◌ {A = Cell} (record { south = None; east = Some (value_in values at); stuck = None }) (returned m b (outcome_in values trails outcome))
unfolding returned
returned-value values trails m b at outcome is = rw is refl

pub returned-stuck : (values : List Value) (trails : List Trail) (trail : Trail) (m b inner : ℕ) (outcome : kept.Outcome) → outcome ≡ StuckKept inner →
    trail ≡ via m b (trail_in trails inner) →
    ◌≡◌ {A = Cell} (record { south = None; east = None; stuck = Some trail }) (returned m b (outcome_in values trails outcome))
unfolding returned
returned-stuck values trails trail m b inner outcome is e = rw is (ap (λ t. record { south = None; east = None; stuck = Some t }) e)

pub first_below-whole : (k n : ℕ) (f : ℕ → Option Trail) → k ≡ n → first_below k f ≡ None → None ≡ first_below n f
first_below-whole k n f same none = rw same at (sym none)
