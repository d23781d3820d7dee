-- Where no module has more than three boxes, firings are at most three for each instance.
use Rattle.std.specs.Prelude.{Option, Some, None, ◌≡◌, ◌+◌, ◌*◌, ◌≤◌, ℕ, zero, suc, Bool, true}
use Rattle.std.specs.Prelude.{false, if◌then◌else◌}
use Rattle.std.specs.Option.{option_map, unwrap_or}
use Rattle.std.proofs.Common.{arith, refl, subst}
use Rattle.std.proofs.lemmas.Option.{same_Some}
use Rattle.two_d.specs.Meaning.{Inputs, Effect, Done, Starts, Meaning, Answers, act, all_known}
use Rattle.two_d.specs.Meaning.{count_of, firings_of, instances_of, look_of, mean, meaning_of}
use Rattle.two_d.specs.Meaning.{sum_below, summary_of}
use Rattle.two_d.specs.Programs.{Program, box_count}
use Rattle.two_d.specs.Steps.{HasMeaning}

abbrev IsFew : Answers → Type 0
IsFew answer = (m : ℕ) (a : Inputs) (r : Meaning) → answer m a ≡ Some r → r.firings ≤ 3 * r.instances

-- a box fires once, and its instance does the rest
box_fires : (answer : Answers) → IsFew answer → (x : Option Effect) → count_of (firings_of answer) x ≤ 1 + 3 * count_of (instances_of answer) x
box_fires answer few None = omega arith
box_fires answer few (Some (Done c)) = omega arith
box_fires answer few (Some (Starts j a)) = by (answer j a) (λ r e. few j a r e)
  where
    by : (o : Option Meaning) → ((r : Meaning) → o ≡ Some r → r.firings ≤ 3 * r.instances)
        → unwrap_or (option_map (λ (r : Meaning). 1 + r.firings) o) 1 ≤ 1 + 3 * unwrap_or (option_map (λ (r : Meaning). r.instances) o) 0
    by None each = omega arith
    by (Some r) each = let le = each r refl in omega arith

boxes_fire : (n : ℕ) (f g : ℕ → ℕ) → ((b : ℕ) → f b ≤ 1 + 3 * g b) → sum_below n f ≤ n + 3 * sum_below n g
unfolding sum_below
boxes_fire zero f g each = omega arith
boxes_fire (suc n) f g each = let a = boxes_fire n f g each in let b = each n in omega arith

module _ (P : Program) (small : (m : ℕ) → box_count P m ≤ 3) where
  module_fires : (answer : Answers) → IsFew answer → IsFew (meaning_of P answer)
  unfolding meaning_of
  module_fires answer few m a r e = by (all_known P answer m (look_of P answer m a)) e
    where
      summary_few : (summary_of P answer m (look_of P answer m a)).firings ≤ 3 * (summary_of P answer m (look_of P answer m a)).instances
      summary_few =
          let boxes = small m in
          let fire = boxes_fire (box_count P m) (λ b. count_of (firings_of answer) (act P m (look_of P answer m a) b)) (λ b. count_of (instances_of answer) (act P m (look_of P answer m a) b)) (λ b. box_fires answer few (act P m (look_of P answer m a) b)) in
          omega arith

      by : (known : Bool) → (if known then Some (summary_of P answer m (look_of P answer m a)) else None) ≡ Some r → r.firings ≤ 3 * r.instances
      by true is = subst (λ (s : Meaning). s.firings ≤ 3 * s.instances) (same_Some (summary_of P answer m (look_of P answer m a)) r is) summary_few
      by false is = absurd (cc)

  uses_fire : (depth : ℕ) → IsFew (mean P depth)
  unfolding mean
  uses_fire zero m a r e = absurd (cc)
  uses_fire (suc depth) m a r e = module_fires (mean P depth) (uses_fire depth) m a r e

  pub few_firings : (r : Meaning) → HasMeaning P r → r.firings ≤ 3 * r.instances
  few_firings r has = uses_fire has.depth _ _ r has.means
