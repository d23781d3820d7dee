-- The blocks of plans, with what they call and what they cost.
use Rattle.std.specs.Prelude.{Option, Some, ◌≡◌, ℕ, suc, ◌+◌, ◌*◌, ◌<◌, ◌≤◌, ◌==◌, true, List, [], ◌∷◌, ◌++◌, length, map, slice_get, codes}
use Rattle.std.proofs.Common.{refl, sym, ap, subst, arith, inl, inr}
use Rattle.std.proofs.lemmas.Bool.{and_parts}
use Rattle.std.proofs.lemmas.List.Sums.{passes_at_first}
use Rattle.std.proofs.lemmas.Option.{get_or_from_slice_get, slice_get_within, slice_get_cases}
use Rattle.two_d.specs.declared.command.Side.TheVariants.{S, E}
use Rattle.two_d.specs.Trees.{Form, send, case, split, call}
use Rattle.two_d.specs.Programs.{BoxForm, ModuleForm, Program, module_at, main_of, is_name, no_module, find}
use Rattle.two_d.specs.Good.{UsesWell}
use Rattle.two_d.specs.Good as program
use Rattle.two_d.specs.Weights.{part, weight}
use Rattle.code_templates.specs.Lines.{StandsAt}
use Rattle.code_templates.specs.Templates.{return_outcome}
use Rattle.lower_plan.specs.declared.plan.Plan.{Plan}
use Rattle.lower_plan.specs.declared.plan.PlanStep.{PlanStep}
use Rattle.lower_plan.specs.Plans.{IsStep, IsPlan, ArePlans}
use Rattle.lower_plan.proofs.Planned.{part-le}
use Rattle.lower_emit.specs.Blocks.{block_code, block_length}
use Rattle.lower_emit.specs.inner.Firing.{IsGoodBlock}
use Rattle.lower_emit.specs.inner.Trips.{IsCall, AreCalls, IsBlock}
use Rattle.lower_emit.specs.KnownOutcomes.{first_text}
use Rattle.lower_emit.specs.Plans.{step_box, box_in, box_if, block_of}
use Rattle.lower_emit.specs.inner.Plans.{block_if, plans_of, prices_of}
use Rattle.lower_emit.proofs.Placed.{is_good}
use Rattle.lower_emit.proofs.Lengths.{block_words}

-- the plan of a module
pub record Here (P : Program) (plans : List Plan) (m : ℕ) : Type 0 where
  pub plan : Plan
  pub at : slice_get plans m ≡ Some plan
  pub number : plan.«module» ≡ m
  pub is : IsPlan P plan

pub plan_here : (P : Program) (plans : List Plan) → ArePlans P plans → (m : ℕ) → m < length P → Here P plans m
plan_here P plans are m lt = elim (slice_get_cases plans m).1 [
  | inl found ↦ (let h = are.each m found.0 found.2 in record { plan = found.0; at = found.2; number = h.0; is = h.1 })
  | inr past ↦ absurd (omega (arith, lt, past.0, are.one_each))
]

same_length : (xs ys : List ℕ) → is_name xs ys ≡ true → length xs ≡ length ys
same_length [] [] e = refl
same_length (x ∷ xs) (y ∷ ys) e = ap suc (same_length xs ys (and_parts (x == y) (is_name xs ys) e).1)
same_length [] (y ∷ ys) e = absurd (cc)
same_length (x ∷ xs) [] e = absurd (cc)

-- a good program has `main`, with a name of four letters
pub weighs_some : (P : Program) → program.IsGood P → 10 ≤ weight P
weighs_some P good =
    let named : is_name (module_at P (main_of P)).name (codes "main") ≡ true = passes_at_first (λ (m : ModuleForm). is_name m.name (codes "main")) P no_module good.main_there in
    let four : length (module_at P (main_of P)).name ≡ 4 = same_length (module_at P (main_of P)).name (codes "main") named in
    omega (arith, four, part-le P (main_of P) good.main_there)

module _ (P : Program) (good : program.IsGood P) (plans : List Plan) (are : ArePlans P plans) where
  pub size_is : (j : ℕ) → j < length P → 12 + part (module_at P j) ≡ (plans_of P plans j).layout.size
  size_is j lt =
      let h = plan_here P plans are j lt in
      subst (λ (r : Option Plan). 12 + part (module_at P j) ≡ (block_if P r).layout.size) (sym h.at) (ap (λ k. 12 + part (module_at P k)) (sym h.number))

  box_calls : (m : ℕ) (step : PlanStep) (text : ℕ) (row : BoxForm) → UsesWell P row → (command : Form) → row.command ≡ command → IsCall (plans_of P plans) (length P) m (step_box P m step text command)
  box_calls m step text row well (send outs) is = tt
  box_calls m step text row well (case x S S) is = tt
  box_calls m step text row well (case x S E) is = tt
  box_calls m step text row well (case x E S) is = tt
  box_calls m step text row well (case x E E) is = tt
  box_calls m step text row well (split x) is = tt
  box_calls m step text row well (call name) is = let there = (well name is).0 in (there, size_is (find P name) there, refl)

  module _ (p : Plan) (plan : IsPlan P p) where
    well : (b : ℕ) (row : BoxForm) → slice_get (module_at P p.«module»).boxes b ≡ Some row → UsesWell P row
    well b row there =
        let boxes = (module_at P p.«module»).boxes in
        subst (UsesWell P) (get_or_from_slice_get boxes b row row there) (good.uses p.«module» _ plan.there b row (slice_get_within boxes b row there))

    step_calls : (s : PlanStep) → IsStep (module_at P p.«module») s s.bx → IsCall (plans_of P plans) (length P) p.«module» (box_in P p.«module» s)
    step_calls s is = subst (λ r. IsCall (plans_of P plans) (length P) p.«module» (box_if P p.«module» s (first_text P p.«module» + s.bx) r)) (sym is.there)
        (box_calls p.«module» s (first_text P p.«module» + s.bx) is.row (well s.bx is.row is.there) is.row.command refl)

    steps_call : (steps : List PlanStep) → ((j : ℕ) (s : PlanStep) → slice_get steps j ≡ Some s → IsStep (module_at P p.«module») s s.bx) →
        AreCalls (plans_of P plans) (length P) p.«module» (map (box_in P p.«module») steps)
    steps_call [] h = tt
    steps_call (s ∷ steps) h = (step_calls s (h 0 s refl), steps_call steps (λ j t e. h (suc j) t e))

    framed : 64 + 4 * (block_of P p).layout.size ≤ (prices_of P).frame
    framed = omega (arith, part-le P p.«module» plan.there)

    priced : 8 * (block_length (block_of P p) + 11) + (prices_of P).frame ≤ (prices_of P).price
    priced = omega (arith, part-le P p.«module» plan.there, block_words P p plan (good.sound p.«module» _ plan.there), weighs_some P good)

  -- A block whose code is that of its plan is one that calls what it should, at the price.
  pub is_block : (codes : ℕ → List ℕ) (m : ℕ) → m < length P → StandsAt (codes m) 0 (block_code (plans_of P plans m) 0 ++ return_outcome) → IsBlock codes (prices_of P) (plans_of P plans) (length P) m
  is_block codes m lt stand =
      let h = plan_here P plans are m lt in record {
        good = subst (λ (r : Option Plan). IsGoodBlock (block_if P r)) (sym h.at) (is_good P good h.plan h.is);
        stand = stand;
        calls = subst (λ (r : Option Plan). AreCalls (plans_of P plans) (length P) m (block_if P r).boxes) (sym h.at)
            (subst (λ (k : ℕ). AreCalls (plans_of P plans) (length P) k (block_of P h.plan).boxes) h.number (steps_call h.plan h.is h.plan.steps.items h.is.steps));
        framed = subst (λ (r : Option Plan). 64 + 4 * (block_if P r).layout.size ≤ (prices_of P).frame) (sym h.at) (framed h.plan h.is);
        priced = subst (λ (r : Option Plan). 8 * (block_length (block_if P r) + 11) + (prices_of P).frame ≤ (prices_of P).price) (sym h.at) (priced h.plan h.is);
      }
