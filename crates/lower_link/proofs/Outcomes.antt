-- The outcomes of a good program name modules of the program, and boxes of it of the kinds that can be stuck so.
use Rattle.std.proofs.Common.{◌≡◌, ℕ, zero, suc, ◌<◌, List, [], ◌∷◌, length, Option, Some, None, refl, sym, ◌∙◌, subst, arith}
use Rattle.std.specs.Prelude.{All}
use Rattle.std.specs.Option.{option_map, option_and_then, unwrap_or}
use Rattle.codex_values.specs.Value.{Value, unit, pair, inl, inr}
use Rattle.two_d.specs.Trees.{Form, send, case, split, call}
use Rattle.two_d.specs.declared.command.Side.{Side}
use Rattle.two_d.specs.declared.command.Side.TheVariants.{S, E}
use Rattle.two_d.specs.declared.module.Origin.{Origin}
use Rattle.two_d.specs.Programs.{BoxForm, Program, find, module_at, no_module, box_at, box_count}
use Rattle.two_d.specs.Good.{IsGood, UsesWell}
use Rattle.two_d.specs.declared.trail.Site.TheVariants.{NoSum, NoPair}
use Rattle.two_d.specs.Trails.{Trail, trail_of, via}
use Rattle.two_d.specs.Meaning.{Inputs, Outcome, Gives, Stuck, Cell, Meaning, Answers, chosen, parts, sent_to, effect_of, inputs_of, returned, cell_of, cells_from, look_of, stuck_of, first_below, carried_by, result_of, unless_stuck, outcome_of, mean, val}
use Rattle.lower_link.proofs.Sites.{IsCase, IsSplit, IsUse, HasBox, IsCallerIn, IsTrailIn, IsOutcomeIn}
use Rattle.two_d.proofs.Counts.{meaning_of-known}
use Rattle.std.proofs.lemmas.List.Elements.{All-append}
use Rattle.std.proofs.lemmas.Option.{get_or_from_slice_get}

some_is : {A : Type 0} (x y : A) → Some x ≡ Some y → x ≡ y
some_is x y e = cc

not_none : {A : Type 0} (x : A) → None ≡ Some x → ⊥
not_none x e = cc

later : (n : ℕ) (f : ℕ → Option Trail) (t : Trail) → (b : ℕ) × (b < n) × (f b ≡ Some t) → (b : ℕ) × (b < suc n) × (f b ≡ Some t)
later n f t h = (h.0, let lt = h.1 in omega (arith, lt), h.2)

first_there : (n : ℕ) (f : ℕ → Option Trail) (t : Trail) → first_below n f ≡ Some t → (b : ℕ) × (b < n) × (f b ≡ Some t)
first_there zero f t e = absurd (not_none t e)
first_there (suc n) f t e = by (λ g. later n f t (first_there n f t g)) (first_below n f) refl e
  where
    by : (first_below n f ≡ Some t → (b : ℕ) × (b < suc n) × (f b ≡ Some t)) → (o : Option Trail) → first_below n f ≡ o → elim o [ None ↦ f n | Some s ↦ Some s ] ≡ Some t → (b : ℕ) × (b < suc n) × (f b ≡ Some t)
    by again None is h = (n, omega arith, h)
    by again (Some s) is h = again (is ∙ h)

module _ (P : Program) (good : IsGood P) (m : ℕ) (inside : m < length P) where
  -- a box of the module
  module _ (b : ℕ) (lt : b < box_count P m) where
    abbrev MayStick : Cell → Type 0
    MayStick c = (t : Trail) → c.stuck ≡ Some t → IsTrailIn P t

    no_callers : All (IsCallerIn P) []
    no_callers k d less = absurd (omega (arith, less))

    no_sum : HasBox P IsCase (m, b) → IsTrailIn P (trail_of (NoSum m b))
    no_sum is = record { site = is; callers = no_callers }

    no_pair : HasBox P IsSplit (m, b) → IsTrailIn P (trail_of (NoPair m b))
    no_pair is = record { site = is; callers = no_callers }

    on : (s t : Trail) → IsTrailIn P s → Some s ≡ Some t → IsTrailIn P t
    on s t h e = subst (IsTrailIn P) (some_is s t e) h

    sent_sticks : (side : Side) (v : Value) → MayStick (sent_to side v)
    sent_sticks S v t e = absurd (not_none t e)
    sent_sticks E v t e = absurd (not_none t e)

    chosen_sticks : HasBox P IsCase (m, b) → (left right : Side) (v : Value) → MayStick (chosen left right (trail_of (NoSum m b)) v)
    chosen_sticks is left right (inl v) t e = sent_sticks left v t e
    chosen_sticks is left right (inr v) t e = sent_sticks right v t e
    chosen_sticks is left right unit t e = on (trail_of (NoSum m b)) t (no_sum is) e
    chosen_sticks is left right (pair v w) t e = on (trail_of (NoSum m b)) t (no_sum is) e

    parts_stick : HasBox P IsSplit (m, b) → (v : Value) → MayStick (parts (trail_of (NoPair m b)) v)
    parts_stick is (pair v w) t e = absurd (not_none t e)
    parts_stick is unit t e = on (trail_of (NoPair m b)) t (no_pair is) e
    parts_stick is (inl v) t e = on (trail_of (NoPair m b)) t (no_pair is) e
    parts_stick is (inr v) t e = on (trail_of (NoPair m b)) t (no_pair is) e

    one_caller : IsCallerIn P (m, b) → All (IsCallerIn P) ((m, b) ∷ [])
    one_caller is zero d less = is
    one_caller is (suc k) d less = absurd (omega (arith, less))

    returned_sticks : IsCallerIn P (m, b) → (o : Outcome) → IsOutcomeIn P o → MayStick (returned m b o)
    unfolding returned
    returned_sticks is (Gives v) h t e = sent_sticks E v t e
    returned_sticks is (Stuck trail) h t e =
        on (via m b trail) t (record { site = h.site; callers = All-append (IsCallerIn P) trail.callers ((m, b) ∷ []) h.callers (one_caller is) }) e

    module _ (answer : Answers) (known : (j : ℕ) (a : Inputs) (r : Meaning) → j < length P → answer j a ≡ Some r → IsOutcomeIn P r.outcome) where
      answered : IsCallerIn P (m, b) → (j : ℕ) (a : Inputs) → j < length P → (o : Option Meaning) → answer j a ≡ o → MayStick (unwrap_or (option_map (λ (r : Meaning). returned m b r.outcome) o) (record { south = None; east = None; stuck = None }))
      answered caller j a less None is t e = absurd (not_none t e)
      answered caller j a less (Some r) is t e = returned_sticks caller r.outcome (known j a r less is) t e

      effect_sticks : (row : BoxForm) → box_at P m b ≡ Some row → (form : Form) → row.command ≡ form → (a : Inputs) → ((name : List ℕ) → form ≡ call name → find P name < length P) → MayStick (cell_of m b answer (effect_of P m b form a))
      effect_sticks row there (send outs) is a uses t e = absurd (not_none t e)
      effect_sticks row there (case x left right) is a uses t e = chosen_sticks (inside, row, there, subst IsCase (sym is) tt) left right (val x a) t e
      effect_sticks row there (split x) is a uses t e = parts_stick (inside, row, there, subst IsSplit (sym is) tt) (val x a) t e
      effect_sticks row there (call name) is a uses t e = answered (inside, row, there, subst IsUse (sym is) tt) (find P name) a (uses name refl) (answer (find P name) a) refl t e

      uses_of : (row : BoxForm) → box_at P m b ≡ Some row → UsesWell P row
      uses_of row is =
          subst (UsesWell P) (get_or_from_slice_get (module_at P m).boxes b row row is) (good.uses m no_module inside b row lt)

      cell_sticks : (look : Origin → Option Value) (row : Option BoxForm) → box_at P m b ≡ row → (t : Trail) →
          stuck_of (option_map (cell_of m b answer) (option_and_then (λ (row : BoxForm). option_map (effect_of P m b row.command) (inputs_of look row)) row)) ≡ Some t → IsTrailIn P t
      cell_sticks look None is t e = absurd (not_none t e)
      cell_sticks look (Some row) is t e = by (inputs_of look row) e
        where
          by : (o : Option Inputs) → stuck_of (option_map (cell_of m b answer) (option_map (effect_of P m b row.command) o)) ≡ Some t → IsTrailIn P t
          by None e = absurd (not_none t e)
          by (Some a) e = effect_sticks row is row.command refl a (λ name same. (uses_of row is name same).0) t e

  module _ (answer : Answers) (known : (j : ℕ) (a : Inputs) (r : Meaning) → j < length P → answer j a ≡ Some r → IsOutcomeIn P r.outcome) where
    results : (vs : List Value) → IsOutcomeIn P (result_of m vs)
    results [] = record { site = inside; callers = λ k d less. absurd (omega (arith, less)) }
    results (v ∷ []) = tt
    results (v ∷ w ∷ vs) = record { site = inside; callers = λ k d less. absurd (omega (arith, less)) }

    outcome_is : (look : Origin → Option Value) → IsOutcomeIn P (outcome_of P m (cells_from P answer m look) look)
    unfolding outcome_of
    outcome_is look = by (first_below (box_count P m) (λ b. stuck_of (cells_from P answer m look b))) refl
      where
        by : (o : Option Trail) → first_below (box_count P m) (λ b. stuck_of (cells_from P answer m look b)) ≡ o → IsOutcomeIn P (unless_stuck o (result_of m (carried_by look (module_at P m).exits)))
        by None is = results (carried_by look (module_at P m).exits)
        by (Some t) is =
            let at = first_there (box_count P m) (λ b. stuck_of (cells_from P answer m look b)) t is in
            cell_sticks at.0 at.1 answer known look (box_at P m at.0) refl t at.2

-- what a module of a good program means, speaks of the program
pub outcomes_are : (P : Program) → IsGood P → (n m : ℕ) (a : Inputs) (r : Meaning) → m < length P → mean P n m a ≡ Some r → IsOutcomeIn P r.outcome
unfolding mean
outcomes_are P good zero m a r inside e = absurd (not_none r e)
outcomes_are P good (suc n) m a r inside e =
    let known = meaning_of-known P (mean P n) m a r e in
    subst (λ (r : Meaning). IsOutcomeIn P r.outcome) (sym known.1) (outcome_is P good m inside (mean P n) (outcomes_are P good n) (look_of P (mean P n) m a))
