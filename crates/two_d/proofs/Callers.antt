-- A trail has fewer callers than its meaning takes instances.
use Rattle.std.specs.Prelude.{◌≡◌, ℕ, zero, suc, ◌+◌, ◌<◌, ◌≤◌, Option, Some, None, List, [], ◌∷◌, Bool, true, false, length, if◌then◌else◌}
use Rattle.std.specs.Option.{option_map, option_and_then}
use Rattle.std.proofs.Common.{refl, sym, ◌∙◌, ap, arith}
use Rattle.std.proofs.lemmas.List.{length_push}
use Rattle.codex_values.specs.Value.{Value}
use Rattle.two_d.specs.declared.module.Origin.{Origin}
use Rattle.two_d.specs.declared.trail.Site.TheVariants.{NoSum, NoPair}
use Rattle.two_d.specs.Meaning.{Inputs, Outcome, Gives, Stuck, Cell, Effect, Done, Starts, Meaning, Answers, val, chosen, parts, effect_of, returned, cell_of, instances_of, count_of, act, inputs_of, cells_from, stuck_of, first_below, sum_below, carried_by, result_of, unless_stuck, outcome_of, look_of, all_known, summary_of, meaning_of, mean}
use Rattle.two_d.specs.Programs.{Program, BoxForm, module_at, box_at, box_count}
use Rattle.two_d.specs.Trails.{Trail, trail_of, via}
use Rattle.two_d.specs.Trees.{Form, send, case, split, call}
use Rattle.two_d.proofs.Below.{sum_below-at}
use Rattle.two_d.proofs.Options.{option_map_some}
use Rattle.two_d.proofs.ProgramTrails.{chosen-stuck, parts-stuck, first_below-some}

-- what these answers say is stuck has fewer callers than it takes instances
abbrev pub AreFew : Answers → Type 0
AreFew answer = (m : ℕ) (a : Inputs) (r : Meaning) (trail : Trail) → answer m a ≡ Some r → r.outcome ≡ Stuck trail → length trail.callers < r.instances

-- a box that is stuck by itself has no callers
effect-alone : (P : Program) (m b : ℕ) (command : Form) (a : Inputs) (c : Cell) (t : Trail) →
    effect_of P m b command a ≡ Done c → c.stuck ≡ Some t → t.callers ≡ []
effect-alone P m b (send outs) a c t e is = absurd (let q : c.stuck ≡ None = cc in cc)
effect-alone P m b (case x left right) a c t e is =
    let here : (chosen left right (trail_of (NoSum m b)) (val x a)).stuck ≡ Some t = cc in
    ap (λ (s : Trail). s.callers) (sym (chosen-stuck left right (trail_of (NoSum m b)) t (val x a) here))
effect-alone P m b (split x) a c t e is =
    let here : (parts (trail_of (NoPair m b)) (val x a)).stuck ≡ Some t = cc in
    ap (λ (s : Trail). s.callers) (sym (parts-stuck (trail_of (NoPair m b)) t (val x a) here))
effect-alone P m b (call name) a c t e is = absurd (cc)

-- the trail that comes back from an instance has one caller more
returned-more : (m b : ℕ) (o : Outcome) (t : Trail) → (returned m b o).stuck ≡ Some t → (inner : Trail) × (o ≡ Stuck inner) × (length t.callers ≡ length inner.callers + 1)
unfolding returned
returned-more m b (Gives v) t e = absurd (cc)
returned-more m b (Stuck inner) t e =
    let same : via m b inner ≡ t = cc in
    (inner, refl, ap (λ (s : Trail). length s.callers) (sym same) ∙ length_push inner.callers (m, b))

-- the trail of a box that is stuck
cell-few : (P : Program) (answer : Answers) → AreFew answer → (m : ℕ) (look : Origin → Option Value) (b : ℕ) (x : Effect) (t : Trail) →
    act P m look b ≡ Some x → (cell_of m b answer x).stuck ≡ Some t → length t.callers ≤ instances_of answer x
cell-few P answer few m look b (Done c) t acts e = by (box_at P m b) acts
  where
    by : (row : Option BoxForm) → option_and_then (λ row. option_map (effect_of P m b row.command) (inputs_of look row)) row ≡ Some (Done c) → length t.callers ≤ 0
    by None f = absurd (cc)
    by (Some row) f =
        let (a, there, effect) = option_map_some (effect_of P m b row.command) (inputs_of look row) (Done c) f in
        omega (arith, ap length (effect-alone P m b row.command a c t effect e))
cell-few P answer few m look b (Starts j a) t acts e = by (answer j a) refl e
  where
    by : (r : Option Meaning) → answer j a ≡ r → (cell_of m b (λ _ _. r) (Starts j a)).stuck ≡ Some t → length t.callers ≤ instances_of (λ _ _. r) (Starts j a)
    by None is f = absurd (cc)
    by (Some r) is f =
        let (inner, stuck, more) = returned-more m b r.outcome t f in
        omega (arith, more, few j a r inner is stuck)

result-alone : (m : ℕ) (carried : List Value) (t : Trail) → result_of m carried ≡ Stuck t → t.callers ≡ []
result-alone m [] t e = cc
result-alone m (v ∷ []) t e = absurd (cc)
result-alone m (v ∷ w ∷ vs) t e = cc

outcome-few : (P : Program) (answer : Answers) → AreFew answer → (m : ℕ) (look : Origin → Option Value) (t : Trail) →
    outcome_of P m (cells_from P answer m look) look ≡ Stuck t → length t.callers ≤ sum_below (box_count P m) (λ b. count_of (instances_of answer) (act P m look b))
unfolding outcome_of
outcome-few P answer few m look t e = by (first_below (box_count P m) (λ b. stuck_of (cells_from P answer m look b))) refl e
  where
    stuck : (b : ℕ) (x : Option Effect) → act P m look b ≡ x → stuck_of (option_map (cell_of m b answer) x) ≡ Some t → length t.callers ≤ count_of (instances_of answer) x
    stuck b None acts f = absurd (cc)
    stuck b (Some x) acts f = cell-few P answer few m look b x t acts f

    by : (o : Option Trail) → first_below (box_count P m) (λ b. stuck_of (cells_from P answer m look b)) ≡ o →
        unless_stuck o (result_of m (carried_by look (module_at P m).exits)) ≡ Stuck t →
        length t.callers ≤ sum_below (box_count P m) (λ b. count_of (instances_of answer) (act P m look b))
    by None is f = omega (arith, ap length (result-alone m (carried_by look (module_at P m).exits) t f))
    by (Some s) is f =
        let same : s ≡ t = cc in
        let (b, lt, here) = first_below-some (box_count P m) (λ b. stuck_of (cells_from P answer m look b)) t (is ∙ ap Some same) in
        omega (arith, stuck b (act P m look b) refl here, sum_below-at (box_count P m) (λ b. count_of (instances_of answer) (act P m look b)) b lt)

meaning-few : (P : Program) (answer : Answers) → AreFew answer → AreFew (meaning_of P answer)
unfolding meaning_of
meaning-few P answer few m a r t e is = by (all_known P answer m (look_of P answer m a)) e
  where
    by : (known : Bool) → (if known then Some (summary_of P answer m (look_of P answer m a)) else None) ≡ Some r → length t.callers < r.instances
    by false f = absurd (cc)
    by true f =
        let same : summary_of P answer m (look_of P answer m a) ≡ r = cc in
        let outcome = ap (λ (s : Meaning). s.outcome) same ∙ is in
        omega (arith, outcome-few P answer few m (look_of P answer m a) t outcome, ap (λ (s : Meaning). s.instances) same)

pub callers_few : (P : Program) (n : ℕ) → AreFew (mean P n)
unfolding mean
callers_few P zero = λ m a r t e is. absurd (cc)
callers_few P (suc n) = meaning-few P (mean P n) (callers_few P n)
