-- The trail that a module means is of the program.
use Rattle.std.specs.Prelude.{◌≡◌, ℕ, zero, suc, ◌<◌, Option, Some, None, List, [], ◌∷◌, ◌++◌, Bool, true, false, length, slice_index_or, if◌then◌else◌}
use Rattle.std.specs.Option.{option_map, option_and_then}
use Rattle.std.proofs.Common.{refl, arith, inl, inr}
use Rattle.std.proofs.lemmas.Bool.{cases_lt}
use Rattle.std.proofs.lemmas.List.{get_or_append_left, get_or_push, length_push}
use Rattle.codex_values.specs.Value.{Value, unit, pair, inl as inl_value, inr as inr_value}
use Rattle.two_d.specs.declared.command.Side.{Side}
use Rattle.two_d.specs.declared.command.Side.TheVariants.{S, E}
use Rattle.two_d.specs.declared.module.Origin.{Origin}
use Rattle.two_d.specs.declared.trail.Site.TheVariants.{NoSum, NoPair}
use Rattle.two_d.specs.Good.{IsGood}
use Rattle.two_d.specs.Meaning.{Inputs, no_inputs, Outcome, Gives, Stuck, Cell, Effect, Done, Starts, Meaning, Answers, val, chosen, parts, effect_of, returned, cell_of, act, inputs_of, cells_from, stuck_of, first_below, carried_by, result_of, unless_stuck, outcome_of, look_of, all_known, summary_of, meaning_of, mean}
use Rattle.two_d.specs.Programs.{Program, BoxForm, main_of, module_at, box_at, box_count}
use Rattle.two_d.specs.Steps.{HasMeaning}
use Rattle.two_d.specs.Texts.{HasBox, IsTrailOf, IsOutcomeOf}
use Rattle.two_d.specs.Trails.{Trail, trail_of, via}
use Rattle.two_d.specs.Trees.{Form, send, case, split, call}
use Rattle.two_d.proofs.Depth.{act_there}
use Rattle.two_d.proofs.Options.{option_map_some}
use Rattle.two_d.proofs.Starting.{starts-there}

-- all that these answers say is of the program
abbrev pub AnswersFit : Program → Answers → Type 0
AnswersFit P answer = (m : ℕ) (a : Inputs) (r : Meaning) → m < length P → answer m a ≡ Some r → IsOutcomeOf P r.outcome

box_trail : (P : Program) (m b : ℕ) → m < length P → b < box_count P m → IsTrailOf P (trail_of (NoSum m b)) × IsTrailOf P (trail_of (NoPair m b))
box_trail P m b lt below = (
  record { site = (lt, below); callers = λ k d past. absurd (omega arith) },
  record { site = (lt, below); callers = λ k d past. absurd (omega arith) },
)

pub trail-via : (P : Program) (m b : ℕ) (trail : Trail) → m < length P → b < box_count P m → IsTrailOf P trail → IsTrailOf P (via m b trail)
trail-via P m b trail lt below of = record { site = of.site; callers = at }
  where
    at : (k : ℕ) (d : ℕ × ℕ) → k < length (trail.callers ++ (m, b) ∷ []) → HasBox P (slice_index_or (trail.callers ++ (m, b) ∷ []) k d)
    at k d under = elim (cases_lt k (length trail.callers)) [
      | inl before ↦ rw (get_or_append_left trail.callers ((m, b) ∷ []) d k before) (of.callers k d before)
      | inr past ↦ rw (get_or_push trail.callers (m, b) d k (omega (arith, under, past, length_push trail.callers (m, b)))) (lt, below)
    ]

pub chosen-stuck : (left right : Side) (trail t : Trail) (v : Value) → (chosen left right trail v).stuck ≡ Some t → trail ≡ t
chosen-stuck left right trail t unit e = cc
chosen-stuck left right trail t (pair v w) e = cc
chosen-stuck S right trail t (inl_value v) e = absurd (cc)
chosen-stuck E right trail t (inl_value v) e = absurd (cc)
chosen-stuck left S trail t (inr_value v) e = absurd (cc)
chosen-stuck left E trail t (inr_value v) e = absurd (cc)

pub parts-stuck : (trail t : Trail) (v : Value) → (parts trail v).stuck ≡ Some t → trail ≡ t
parts-stuck trail t unit e = cc
parts-stuck trail t (pair v w) e = absurd (cc)
parts-stuck trail t (inl_value v) e = cc
parts-stuck trail t (inr_value v) e = cc

effect-stuck : (P : Program) (m b : ℕ) (command : Form) (a : Inputs) (c : Cell) (t : Trail) → m < length P → b < box_count P m →
    effect_of P m b command a ≡ Done c → c.stuck ≡ Some t → IsTrailOf P t
effect-stuck P m b (send outs) a c t lt below e is = absurd (let q : c.stuck ≡ None = cc in cc)
effect-stuck P m b (case x left right) a c t lt below e is =
    let here : (chosen left right (trail_of (NoSum m b)) (val x a)).stuck ≡ Some t = cc in
    rw (← chosen-stuck left right (trail_of (NoSum m b)) t (val x a) here) (box_trail P m b lt below).0
effect-stuck P m b (split x) a c t lt below e is =
    let here : (parts (trail_of (NoPair m b)) (val x a)).stuck ≡ Some t = cc in
    rw (← parts-stuck (trail_of (NoPair m b)) t (val x a) here) (box_trail P m b lt below).1
effect-stuck P m b (call name) a c t lt below e is = absurd (cc)

returned-stuck : (P : Program) (m b : ℕ) (o : Outcome) (t : Trail) → m < length P → b < box_count P m → IsOutcomeOf P o → (returned m b o).stuck ≡ Some t → IsTrailOf P t
unfolding returned
returned-stuck P m b (Gives v) t lt below of e = absurd (cc)
returned-stuck P m b (Stuck trail) t lt below of e = let same : via m b trail ≡ t = cc in rw (← same) (trail-via P m b trail lt below of)

-- the trail of a box that is stuck
cell-stuck : (P : Program) (answer : Answers) → IsGood P → AnswersFit P answer → (m : ℕ) → m < length P → (look : Origin → Option Value) (b : ℕ) (x : Effect) (t : Trail) →
    act P m look b ≡ Some x → (cell_of m b answer x).stuck ≡ Some t → IsTrailOf P t
cell-stuck P answer good fit m lt look b (Done c) t acts e = by (box_at P m b) acts
  where
    below : b < box_count P m
    below = act_there P m look b (Done c) acts

    by : (row : Option BoxForm) → option_and_then (λ row. option_map (effect_of P m b row.command) (inputs_of look row)) row ≡ Some (Done c) → IsTrailOf P t
    by None f = absurd (cc)
    by (Some row) f =
        let (a, there, effect) = option_map_some (effect_of P m b row.command) (inputs_of look row) (Done c) f in
        effect-stuck P m b row.command a c t lt below effect e
cell-stuck P answer good fit m lt look b (Starts j a) t acts e = by (answer j a) refl e
  where
    below : b < box_count P m
    below = act_there P m look b (Starts j a) acts

    by : (r : Option Meaning) → answer j a ≡ r → (cell_of m b (λ _ _. r) (Starts j a)).stuck ≡ Some t → IsTrailOf P t
    by None is f = absurd (cc)
    by (Some r) is f = returned-stuck P m b r.outcome t lt below (fit j a r (starts-there P good m lt look b j a acts) is) f

pub first_below-some : (n : ℕ) (f : ℕ → Option Trail) (t : Trail) → first_below n f ≡ Some t → (b : ℕ) × (b < n) × (f b ≡ Some t)
first_below-some zero f t e = absurd (cc)
first_below-some (suc n) f t e = by (first_below n f) (first_below-some n f t) e
  where
    by : (o : Option Trail) → (o ≡ Some t → (b : ℕ) × (b < n) × (f b ≡ Some t)) → elim o [ None ↦ f n | Some s ↦ Some s ] ≡ Some t → (b : ℕ) × (b < suc n) × (f b ≡ Some t)
    by None below here = (n, omega arith, here)
    by (Some s) below here = let (b, lt, is) = below here in (b, omega arith, is)

result-of : (P : Program) (m : ℕ) (carried : List Value) → m < length P → IsOutcomeOf P (result_of m carried)
result-of P m [] lt = record { site = lt; callers = λ k d past. absurd (omega arith) }
result-of P m (v ∷ []) lt = tt
result-of P m (v ∷ w ∷ vs) lt = record { site = lt; callers = λ k d past. absurd (omega arith) }

-- what a module means is of the program, where the modules that it uses mean what is
outcome-fits : (P : Program) (answer : Answers) → IsGood P → AnswersFit P answer → (m : ℕ) → m < length P → (look : Origin → Option Value) →
    IsOutcomeOf P (outcome_of P m (cells_from P answer m look) look)
unfolding outcome_of
outcome-fits P answer good fit m lt look = by (first_below (box_count P m) (λ b. stuck_of (cells_from P answer m look b))) refl
  where
    stuck : (b : ℕ) (t : Trail) (x : Option Effect) → act P m look b ≡ x → stuck_of (option_map (cell_of m b answer) x) ≡ Some t → IsTrailOf P t
    stuck b t None acts e = absurd (cc)
    stuck b t (Some x) acts e = cell-stuck P answer good fit m lt look b x t acts e

    by : (o : Option Trail) → first_below (box_count P m) (λ b. stuck_of (cells_from P answer m look b)) ≡ o →
        IsOutcomeOf P (unless_stuck o (result_of m (carried_by look (module_at P m).exits)))
    by None is = result-of P m (carried_by look (module_at P m).exits) lt
    by (Some t) is = let (b, lt', here) = first_below-some (box_count P m) _ t is in stuck b t (act P m look b) refl here

meaning-fits : (P : Program) (answer : Answers) → IsGood P → AnswersFit P answer → AnswersFit P (meaning_of P answer)
unfolding meaning_of
meaning-fits P answer good fit m a r lt e = by (all_known P answer m (look_of P answer m a)) e
  where
    by : (t : Bool) → (if t then Some (summary_of P answer m (look_of P answer m a)) else None) ≡ Some r → IsOutcomeOf P r.outcome
    by false f = absurd (cc)
    by true f =
        let same : summary_of P answer m (look_of P answer m a) ≡ r = cc in
        rw (← same) (outcome-fits P answer good fit m lt (look_of P answer m a))

pub mean-fits : (P : Program) → IsGood P → (n : ℕ) → AnswersFit P (mean P n)
unfolding mean
mean-fits P good zero = nothing
  where
    nothing : (m : ℕ) (a : Inputs) (r : Meaning) → m < length P → None ≡ Some r → IsOutcomeOf P r.outcome
    nothing m a r lt e = absurd (cc)
mean-fits P good (suc n) = meaning-fits P (mean P n) good (mean-fits P good n)

-- the outcome of a good program is of it
pub outcome_of_program : (P : Program) (r : Meaning) → IsGood P → HasMeaning P r → IsOutcomeOf P r.outcome
outcome_of_program P r good has = mean-fits P good has.depth (main_of P) no_inputs r good.main_there has.means
