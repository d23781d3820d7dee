-- What the module of a strip means: each box passes a value to the next.
use Rattle.std.specs.Prelude.{Option, Some, None, ◌≡◌, ◌+◌, ◌-◌, ◌<◌, ◌≤◌, ℕ, zero, suc, Bool, true, false, List, [], ◌∷◌, length, slice_get, if◌then◌else◌}
use Rattle.std.specs.Option.{option_map, option_and_then}
use Rattle.std.proofs.Common.{arith, refl, ap, ◌∙◌}
use Rattle.codex_values.specs.Value.{Value}
use Rattle.two_d.specs.Meaning.{Inputs, Gives, Meaning, Answers, cell_of, is_known, instances_of, effect_of, act, inputs_of, cells_from, pulled, first_below, sum_below, carried_by, result_of, outcome_of, unless_stuck, look_of, all_known, summary_of, meaning_of, count_of, test_of, stuck_of, east_of}
use Rattle.two_d.specs.Programs.{BoxForm, ModuleForm, Program, module_at, box_at, box_count}
use Rattle.two_d.specs.Trails.{Trail}
use Rattle.two_d.specs.Trees.{Form}
use Rattle.two_d.specs.declared.module.Origin.{Origin}
use Rattle.two_d.specs.declared.module.Origin.TheVariants.{West, East}
use Rattle.two_d.proofs.Below.{all_below-from, sum_below-other}
use Rattle.codex_gen.specs.inner.Strips.{source, rows_from, strip_module}
use Rattle.codex_gen.proofs.StripModule.{long_rows}

-- the value at the west side of a box
abbrev pub west_of : Option Value → (ℕ → Value) → ℕ → Option Value
west_of v values zero = v
west_of v values (suc b) = Some (values b)

abbrev pub from_west : Option Value → Inputs
from_west v = record { north = None; west = v }

-- a box that is done or has an answer, sends this value east and isn't stuck, in so many instances
pub record Passes (P : Program) (answer : Answers) (m b : ℕ) (c : Form) (v : Option Value) (out : Value) (count : ℕ) : Type 0 where
  pub known : is_known answer (effect_of P m b c (from_west v)) ≡ true
  pub sends : (cell_of m b answer (effect_of P m b c (from_west v))).east ≡ Some out
  pub free : (cell_of m b answer (effect_of P m b c (from_west v))).stuck ≡ None
  pub instances : instances_of answer (effect_of P m b c (from_west v)) ≡ count

-- row b of a strip
row_is : (w : Bool) (k : ℕ) (cs : List Form) (i n : ℕ) (c : Form) → slice_get cs i ≡ Some c → n ≡ k + i → slice_get (rows_from w k cs) i ≡ Some (record { command = c; n = None; w = source w n })
row_is w k [] i n c at_i e = absurd (cc)
row_is w k (d ∷ cs) zero n c at_i e = ap (λ (row : BoxForm). Some row) (by (same d c at_i) (by_number e))
  where
    same : (d c : Form) → ◌≡◌ {A = Option Form} (Some d) (Some c) → d ≡ c
    same d c e = cc

    by_number : n ≡ k + 0 → k ≡ n
    by_number e = omega arith

    by : d ≡ c → k ≡ n → ◌≡◌ {A = BoxForm} (record { command = d; n = None; w = source w k }) (record { command = c; n = None; w = source w n })
    by e f = cc
row_is w k (d ∷ cs) (suc i) n c at_i e = row_is w (suc k) cs i n c at_i (omega arith)

first_none : (n : ℕ) (f : ℕ → Option Trail) → ((b : ℕ) → b < n → f b ≡ None) → first_below n f ≡ None
first_none zero f each = refl
first_none (suc n) f each = by (first_below n f) (first_none n f (λ b lt. each b (omega arith)))
  where
    by : (o : Option Trail) → o ≡ None → ◌≡◌ {A = Option Trail} (elim o [ None ↦ f n | Some s ↦ Some s ]) None
    by None e = each n (omega arith)
    by (Some s) e = absurd (cc)

module _ (P : Program) (answer : Answers) (m : ℕ) (name : List ℕ) (west : Bool) (cs : List Form) (is : module_at P m ≡ strip_module name west cs) (some : 0 < length cs)
    (v : Option Value) (values : ℕ → Value) (counts : ℕ → ℕ)
    (starts : (look : Origin → Option Value) → look West ≡ v → (c : Form) → inputs_of look (record { command = c; n = None; w = source west 0 }) ≡ Some (from_west v))
    (passes : (b : ℕ) (c : Form) → slice_get cs b ≡ Some c → Passes P answer m b c (west_of v values b) (values b) (counts b))
    (command_at : (b : ℕ) → b < length cs → (c : Form) × (slice_get cs b ≡ Some c)) where
  abbrev a : Inputs
  a = from_west v

  count_is : box_count P m ≡ length cs
  count_is = ap (λ (s : ModuleForm). length s.boxes) is ∙ long_rows west 0 cs

  box_is : (b : ℕ) (c : Form) → slice_get cs b ≡ Some c → box_at P m b ≡ Some (record { command = c; n = None; w = source west b })
  box_is b c at_b = ap (λ (s : ModuleForm). slice_get s.boxes b) is ∙ row_is west 0 cs b b c at_b (omega arith)

  -- a box whose inputs are there acts
  acts : (look : Origin → Option Value) (b : ℕ) (c : Form) (i : Inputs) → slice_get cs b ≡ Some c → inputs_of look (record { command = c; n = None; w = source west b }) ≡ Some i
      → act P m look b ≡ Some (effect_of P m b c i)
  acts look b c i at_b inputs =
      ap (λ o. option_and_then (λ (row : BoxForm). option_map (effect_of P m b row.command) (inputs_of look row)) o) (box_is b c at_b)
      ∙ ap (λ o. option_map (effect_of P m b c) o) inputs

  west_is : (k : ℕ) → pulled P answer m a k West ≡ v
  unfolding pulled
  west_is zero = refl
  west_is (suc k) = refl

  inputs_later : (look : Origin → Option Value) (w : Bool) (b : ℕ) (c : Form) → look (East b) ≡ Some (values b) → inputs_of look (record { command = c; n = None; w = source w (suc b) }) ≡ Some (from_west (Some (values b)))
  inputs_later look true b c e = ap (λ o. elim o [ None ↦ None | Some x ↦ Some (record { north = None; west = Some x }) ]) e
  inputs_later look false b c e = ap (λ o. elim o [ None ↦ None | Some x ↦ Some (record { north = None; west = Some x }) ]) e

  east_is : (k b : ℕ) → b < k → b < length cs → pulled P answer m a k (East b) ≡ Some (values b)
  unfolding pulled
  east_is zero b lt less = absurd (omega arith)
  east_is (suc k) zero lt less =
      let (c, at_b) = command_at 0 less in
      ap (λ o. east_of (option_map (cell_of m 0 answer) o)) (acts (pulled P answer m a k) 0 c (from_west v) at_b (starts (pulled P answer m a k) (west_is k) c)) ∙ (passes 0 c at_b).sends
  east_is (suc k) (suc b) lt less =
      let (c, at_b) = command_at (suc b) less in
      ap (λ o. east_of (option_map (cell_of m (suc b) answer) o)) (acts (pulled P answer m a k) (suc b) c (from_west (Some (values b))) at_b (inputs_later (pulled P answer m a k) west b c (east_is k b (omega arith) (omega arith))))
      ∙ (passes (suc b) c at_b).sends

  acts_at : (k b : ℕ) (c : Form) → b ≤ k → slice_get cs b ≡ Some c → b < length cs → act P m (pulled P answer m a k) b ≡ Some (effect_of P m b c (from_west (west_of v values b)))
  acts_at k zero c le at_b less = acts (pulled P answer m a k) 0 c (from_west v) at_b (starts (pulled P answer m a k) (west_is k) c)
  acts_at k (suc b) c le at_b less = acts (pulled P answer m a k) (suc b) c (from_west (Some (values b))) at_b (inputs_later (pulled P answer m a k) west b c (east_is k b (omega arith) (omega arith)))

  abbrev look : Origin → Option Value
  look = look_of P answer m a

  acts_here : (b : ℕ) → b < box_count P m → (c : Form) × (slice_get cs b ≡ Some c) × (act P m look b ≡ Some (effect_of P m b c (from_west (west_of v values b))))
  acts_here b lt = let n = count_is in let (c, at_b) = command_at b (omega arith) in (c, at_b, acts_at (box_count P m) b c (omega arith) at_b (omega arith))

  all_are_known : all_known P answer m look ≡ true
  all_are_known = all_below-from (box_count P m) (λ b. test_of (is_known answer) (act P m look b)) (λ b lt.
      let (c, at_b, e) = acts_here b lt in ap (λ o. test_of (is_known answer) o) e ∙ (passes b c at_b).known)

  none_stuck : first_below (box_count P m) (λ b. stuck_of (cells_from P answer m look b)) ≡ None
  none_stuck = first_none (box_count P m) (λ b. stuck_of (cells_from P answer m look b)) (λ b lt.
      let (c, at_b, e) = acts_here b lt in ap (λ o. stuck_of (option_map (cell_of m b answer) o)) e ∙ (passes b c at_b).free)

  out_is : carried_by look (module_at P m).exits ≡ values (length cs - 1) ∷ []
  out_is =
      ap (λ (s : ModuleForm). carried_by look s.exits) is
      ∙ ap (λ o. elim o [ None ↦ [] | Some x ↦ x ∷ [] ]) (let n = count_is in east_is (box_count P m) (length cs - 1) (omega arith) (omega arith))

  outcome_is : outcome_of P m (cells_from P answer m look) look ≡ Gives (values (length cs - 1))
  unfolding outcome_of
  outcome_is = ap (λ t. unless_stuck t (result_of m (carried_by look (module_at P m).exits))) none_stuck ∙ ap (result_of m) out_is

  instances_are : (summary_of P answer m look).instances ≡ 1 + sum_below (length cs) counts
  instances_are =
      ap (λ n. 1 + n) (sum_below-other (box_count P m) (λ b. count_of (instances_of answer) (act P m look b)) counts (λ b lt.
      let (c, at_b, e) = acts_here b lt in ap (λ o. count_of (instances_of answer) o) e ∙ (passes b c at_b).instances)
      ∙ ap (λ n. sum_below n counts) count_is)

  -- The module gives the value that its last box sends.
  pub strip_means : (r : Meaning) × (meaning_of P answer m a ≡ Some r) × (r.outcome ≡ Gives (values (length cs - 1))) × (r.instances ≡ 1 + sum_below (length cs) counts)
  unfolding meaning_of
  strip_means = (summary_of P answer m look, ap (λ t. if t then Some (summary_of P answer m look) else None) all_are_known, outcome_is, instances_are)
