-- The parts of a plan.
use Rattle.std.specs.Prelude.{Option, Some, None, ◌≡◌, ℕ, zero, suc, ◌+◌, ◌<◌, ◌≤◌, List, [], ◌∷◌, ◌++◌, length, map, take, slice_get, slice_index_or, IfSome}
use Rattle.std.specs.Option.{option_map}
use Rattle.std.proofs.Common.{refl, sym, ◌∙◌, ap, subst, arith, ◌⊎◌, inl, inr}
use Rattle.std.proofs.lemmas.Option.{slice_get-get_or, slice_get_read, slice_get-map, get_or_from_slice_get}
use Rattle.std.proofs.lemmas.List.{length-map, map-append}
use Rattle.two_d.specs.declared.module.Module.{Module}
use Rattle.two_d.specs.declared.module.Origin.{Origin}
use Rattle.two_d.specs.declared.module.Origin.TheVariants.{North, West, South, East}
use Rattle.two_d.specs.declared.module.To.{To}
use Rattle.two_d.specs.declared.module.To.TheVariants.{N, W, Exit}
use Rattle.two_d.specs.Programs.{BoxForm, ModuleForm, Program, no_module, module_of, modules_of, module_at}
use Rattle.two_d.specs.Sound.{Comes, Exists, IsSound, IsOrder, IsKeptOrder}
use Rattle.two_d.specs.Good.{IsGood}
use Rattle.two_d.specs.Weights.{part, weight}
use Rattle.two_d.proofs.Sourced.{IsAmong}
use Rattle.lower_plan.specs.declared.slots.Slots.{Slots}
use Rattle.lower_plan.specs.declared.plan.Plan.{Plan}
use Rattle.lower_plan.specs.declared.plan.PlanStep.{PlanStep}
use Rattle.lower_plan.specs.Plans.{wire_starts, slot_of, slot_at, step_of, IsStep, AreSteps, IsPlan}
use Rattle.lower_plan.specs.inner.Numbers.{slot_for, end_for, HasPlace, Numbers}
use Rattle.lower_plan.proofs.Holes.{no_other}

-- the module of a number
pub module_is : (modules : List Module) (P : Program) → modules_of modules ≡ P → (number : ℕ) (owner : Module) → number < length P → owner ≡ slice_index_or modules number owner → module_of owner ≡ module_at P number
module_is modules P are number owner there is =
    let lt : number < length modules = let n = ap length are in omega (arith, n, there, length-map modules module_of) in
    let here : slice_get modules number ≡ Some owner = slice_get_read modules (length modules) number owner refl lt is in
    sym (ap (λ (Q : Program). slice_index_or Q number no_module) (sym are)
    ∙ get_or_from_slice_get (modules_of modules) number (module_of owner) no_module (slice_get-map module_of modules number ∙ ap (option_map module_of) here))

pub sound_at : (P : Program) → IsGood P → (number : ℕ) → number < length P → IsSound (module_at P number)
sound_at P good number there = good.sound number no_module there

pub part-le : (P : Program) (number : ℕ) → number < length P → part (module_at P number) ≤ weight P
part-le [] number lt = absurd (omega arith)
part-le (m ∷ P) zero lt = omega arith
part-le (m ∷ P) (suc number) lt = omega (arith, part-le P number (omega (arith, lt)))

module _ (m : ModuleForm) (sound : IsSound m) (slots : Slots) (numbers : Numbers (length m.boxes) slots (wire_starts m)) where
  pub place_of : (o : Origin) (end : To) → Comes m o end → HasPlace slots o
  place_of o end comes = by o (sound.known o end comes)
    where
      by : (o : Origin) → Exists m o → HasPlace slots o
      by North h = tt
      by West h = tt
      by (South b) h = omega (arith, h, numbers.south)
      by (East b) h = omega (arith, h, numbers.east)

  pub place_of_end : (o : Option Origin) (end : To) → ((p : Origin) → o ≡ Some p → Comes m p end) → IfSome o (HasPlace slots)
  place_of_end None end h = tt
  place_of_end (Some p) end h = place_of p end (h p refl)

  pub end_is : (o : Option Origin) → end_for slots o ≡ slot_at m o
  end_is None = refl
  end_is (Some p) = numbers.each p

  pub place_n : (b : ℕ) (row : BoxForm) → slice_get m.boxes b ≡ Some row → IfSome row.n (HasPlace slots)
  place_n b row there = place_of_end row.n (N b) (λ p e. (row, there, e))

  pub place_w : (b : ℕ) (row : BoxForm) → slice_get m.boxes b ≡ Some row → IfSome row.w (HasPlace slots)
  place_w b row there = place_of_end row.w (W b) (λ p e. (row, there, e))

  pub place_exit : (i : ℕ) (o : Option Origin) → slice_get m.exits i ≡ Some o → IfSome o (HasPlace slots)
  place_exit i o there = place_of_end o (Exit i) (λ p e. there ∙ ap Some e)

among_get : (xs : List ℕ) (j b : ℕ) → slice_get xs j ≡ Some b → IsAmong b xs
among_get [] j b e = absurd (cc)
among_get (x ∷ xs) zero b e = inl (cc)
among_get (x ∷ xs) (suc j) b e = inr (among_get xs j b e)

-- a box of an order is there
pub box_in_order : (m : ModuleForm) (order : List ℕ) → IsOrder m order → (j b : ℕ) → slice_get order j ≡ Some b → b < length m.boxes
box_in_order m order is j b e = no_other (length m.boxes) order is.each is.once b (among_get order j b e)

get_pushed : {A : Type 0} (xs : List A) (x : A) (j : ℕ) (y : A) → slice_get (xs ++ x ∷ []) j ≡ Some y → (slice_get xs j ≡ Some y) ⊎ ((x ≡ y) × (j ≡ length xs))
get_pushed [] x zero y e = inr (cc, refl)
get_pushed [] x (suc j) y e = absurd (cc)
get_pushed (z ∷ xs) x zero y e = inl e
get_pushed (z ∷ xs) x (suc j) y e = elim (get_pushed xs x j y e) [ inl f ↦ inl f | inr f ↦ inr (f.0, ap suc f.1) ]

take_next : {A : Type 0} (xs : List A) (i : ℕ) (x : A) → slice_get xs i ≡ Some x → take (suc i) xs ≡ take i xs ++ x ∷ []
take_next [] i x e = absurd (cc)
take_next (y ∷ xs) zero x e = let f : y ≡ x = cc in rw f refl
take_next (y ∷ xs) (suc i) x e = ap (λ ys. y ∷ ys) (take_next xs i x e)

pub steps_next : (m : ModuleForm) (order : List ℕ) (i b : ℕ) (row : BoxForm) (steps steps' : List PlanStep) (step : PlanStep) → slice_get order i ≡ Some b → slice_get m.boxes b ≡ Some row → step ≡ step_of m b row →
    steps' ≡ steps ++ step ∷ [] → AreSteps m (take i order) steps → AreSteps m (take (i + 1) order) steps'
steps_next m order i b row steps steps' step here there is more are =
    rw more (record {
      boxes = map-append (λ (step : PlanStep). step.bx) steps (step ∷ []) ∙ (ap (λ xs. xs ++ step.bx ∷ []) are.boxes
          ∙ (ap (λ x. take i order ++ x ∷ []) number ∙ (sym (take_next order i b here) ∙ ap (λ k. take k order) one)));
      each = λ j s e. elim (get_pushed steps step j s e) [
        | inl before ↦ are.each j s before
        | inr same ↦ subst (λ (s : PlanStep). IsStep m s s.bx) same.0 last
      ];
    })
  where
    number : step.bx ≡ b
    number = ap (λ (s : PlanStep). s.bx) is

    one : suc i ≡ i + 1
    one = omega arith

    last : IsStep m step step.bx
    last = record { row = row; there = rw number there; slots = is ∙ ap (λ k. step_of m k row) (sym number) }

-- the slots of the first exits
pub exits_next : (m : ModuleForm) (i : ℕ) (o : Option Origin) (exits exits' : List (Option ℕ)) → slice_get m.exits i ≡ Some o → exits ≡ map (slot_at m) (take i m.exits) →
    exits' ≡ exits ++ slot_at m o ∷ [] → exits' ≡ map (slot_at m) (take (i + 1) m.exits)
exits_next m i o exits exits' here are more =
    let one : suc i ≡ i + 1 = omega arith in
    more ∙ (ap (λ xs. xs ++ slot_at m o ∷ []) are ∙ (sym (map-append (slot_at m) (take i m.exits) (o ∷ [])) ∙ ap (map (slot_at m)) (sym (take_next m.exits i o here) ∙ ap (λ k. take k m.exits) one)))

-- the plans of the first modules
pub plans_next : (P : Program) (plans plans' : List Plan) (number : ℕ) (p : Plan) → length plans ≡ number → ((m : ℕ) (p : Plan) → slice_get plans m ≡ Some p → (p.«module» ≡ m) × IsPlan P p) →
    plans' ≡ plans ++ p ∷ [] → p.«module» ≡ number → IsPlan P p → (m : ℕ) (p : Plan) → slice_get plans' m ≡ Some p → (p.«module» ≡ m) × IsPlan P p
plans_next P plans plans' number p long are more is plan m q e = elim (get_pushed plans p m q (rw more at e)) [
  | inl before ↦ are m q before
  | inr last ↦ subst (λ (q : Plan). (q.«module» ≡ m) × IsPlan P q) last.0 (is ∙ sym (last.1 ∙ long), plan)
]

pub bx_at : (order items : List ℕ) → items ≡ order → (i : ℕ) → i < length items → slice_get order i ≡ Some (slice_index_or items i 0)
bx_at order items are i lt = subst (λ (xs : List ℕ). slice_get xs i ≡ Some (slice_index_or items i 0)) are (slice_get-get_or items i 0 lt)

pub exit_at : (exits items : List (Option Origin)) → items ≡ exits → (i : ℕ) → i < length items → slice_get exits i ≡ Some (slice_index_or items i None)
exit_at exits items are i lt = subst (λ (xs : List (Option Origin)). slice_get xs i ≡ Some (slice_index_or items i None)) are (slice_get-get_or items i None lt)

pub step_is : (m : ModuleForm) (b : ℕ) (row : BoxForm) (n w s e : Option ℕ) → n ≡ slot_at m row.n → w ≡ slot_at m row.w → s ≡ slot_of m (South b) → e ≡ slot_of m (East b) →
    record { bx = b; n = n; w = w; s = s; e = e } ≡ step_of m b row
step_is m b row n w s e en ew es ee = rw (en, ew, es, ee) refl

pub plan_is : (P : Program) (m : ModuleForm) (slots : Slots) (order : List ℕ) (p : Plan) → p.«module» < length P → m ≡ module_at P p.«module» → Numbers (length m.boxes) slots (wire_starts m) →
    IsKeptOrder (module_at P p.«module») order → p.slots ≡ slots.count → AreSteps m order p.steps.items → p.exits.items ≡ map (slot_at m) m.exits → p.north ≡ slot_for slots North → p.west ≡ slot_for slots West →
    IsPlan P p
plan_is P m slots order p there is numbers kept count steps exits north west = record {
  there = there;
  slots = count ∙ (numbers.count ∙ ap (λ (m : ModuleForm). length (wire_starts m)) is);
  order = subst (IsKeptOrder (module_at P p.«module»)) (sym steps.boxes) kept;
  steps = λ j step e. subst (λ (m : ModuleForm). IsStep m step step.bx) is (steps.each j step e);
  exits = exits ∙ ap (λ (m : ModuleForm). map (slot_at m) m.exits) is;
  north = north ∙ (numbers.each North ∙ ap (λ (m : ModuleForm). slot_of m North) is);
  west = west ∙ (numbers.each West ∙ ap (λ (m : ModuleForm). slot_of m West) is);
}
