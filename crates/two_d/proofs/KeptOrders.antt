-- A sound module has a kept order where no box reaches itself, and one alone.
use Rattle.std.specs.Prelude.{◌≡◌, ℕ, zero, suc, ◌+◌, ◌≤◌, ◌↔◌, List, [], ◌∷◌, ◌++◌, length, slice_get, Option, Some}
use mathlib.Core.Path.{fun_ext}
use Rattle.std.proofs.Common.{arith, refl, sym, ap, ◌∙◌, inl, inr}
use Rattle.std.proofs.lemmas.Bool.{cases_lt, cases_order}
use Rattle.std.proofs.lemmas.List.{get_or_past, length-append}
use Rattle.two_d.specs.Good.{IsGood}
use Rattle.two_d.specs.Programs.{ModuleForm, Program, module_at, no_module}
use Rattle.two_d.specs.Sound.{IsSound, Reaches, IsNotAbove, IsKeptOrder}
use Rattle.two_d.specs.Walks.{AreKeptOrders, AreOrders, route}
use Rattle.two_d.proofs.Decide.{Decided, decided_lt, least_below}
use Rattle.two_d.proofs.LeastOrder.{IsOpen, IsGreedy, greedy_none, greedy_more, kept_of}
use Rattle.two_d.proofs.NumberLists.{decided_in}
use Rattle.two_d.proofs.Rings.{open_or, ring_where_stuck, ringless_of, reacher_there}

decided_open : (m : ModuleForm) (order : List ℕ) (b : ℕ) → Decided (IsOpen m order b)
decided_open m order b = elim (decided_lt b (length m.boxes)) [
  | inr out ↦ inr (λ free. out free.within)
  | inl lt ↦ elim (decided_in b order) [
    | inl there ↦ inr (λ free. free.new there)
    | inr bare ↦ elim (open_or m order b lt bare) [
      | inl free ↦ inl free
      | inr (a, feeds, out) ↦ inr (λ free. out (free.fed a feeds))
    ]
  ]
]

-- as many boxes more as are left
filled : (m : ModuleForm) → IsSound m → ((b : ℕ) → Reaches m b b → ⊥) → (n : ℕ) (order : List ℕ) → IsGreedy m order → n + length order ≡ length m.boxes →
    (whole : List ℕ) × IsKeptOrder m whole
filled m sound ringless zero order greedy long = (order, kept_of m order greedy (omega arith))
filled m sound ringless (suc n) order greedy long = elim (least_below (IsOpen m order) (decided_open m order) (length m.boxes) (λ q free. free.within)) [
  | inl (b, least) ↦ filled m sound ringless n (order ++ b ∷ []) (greedy_more m order b greedy least) (omega (arith, length-append order (b ∷ [])))
  | inr none ↦ absurd (ring_where_stuck m order sound greedy (omega arith) none ringless)
]

pub kept_there : (m : ModuleForm) → IsSound m → ((b : ℕ) → Reaches m b b → ⊥) → (order : List ℕ) × IsKeptOrder m order
kept_there m sound ringless = filled m sound ringless (length m.boxes) [] (greedy_none m) (omega arith)

pub kept_acyclic : (m : ModuleForm) → IsSound m → ((b : ℕ) → Reaches m b b → ⊥) ↔ ((order : List ℕ) × IsKeptOrder m order)
kept_acyclic m sound = (
  kept_there m sound,
  λ (order, kept). λ b reaches. ringless_of m order kept.valid b (reacher_there m sound reaches) reaches,
)

same_number : (o : Option ℕ) (x y : ℕ) → o ≡ Some x → o ≡ Some y → x ≡ y
same_number o x y e f = let both : Some x ≡ Some y = sym e ∙ f in cc

-- two lists of which neither is above the other
neither_above : (xs ys : List ℕ) → IsNotAbove xs ys → IsNotAbove ys xs → xs ≡ ys
neither_above xs ys (inl same) back = same
neither_above xs ys (inr low) (inl same) = sym same
neither_above xs ys (inr (i, x, y, at_x, at_y, less, same)) (inr (j, v, u, at_v, at_u, under, alike)) = elim (cases_order i j) [
  | inl here ↦ absurd (
      let first : x ≡ u = same_number (slice_get xs i) x u at_x (ap (slice_get xs) here ∙ at_u) in
      let second : y ≡ v = same_number (slice_get ys i) y v at_y (ap (slice_get ys) here ∙ at_v) in
      omega arith)
  | inr (inl before) ↦ absurd (let e : y ≡ x = same_number (slice_get ys i) y x at_y (alike i before ∙ at_x) in omega arith)
  | inr (inr after) ↦ absurd (let e : u ≡ v = same_number (slice_get xs j) u v at_u (same j after ∙ at_v) in omega arith)
]

pub kept_once : (m : ModuleForm) (xs ys : List ℕ) → IsKeptOrder m xs → IsKeptOrder m ys → xs ≡ ys
kept_once m xs ys kept other = neither_above xs ys (kept.least ys other.valid) (other.least xs kept.valid)

-- where a number names no module there are no boxes
pub kept_past : (P : Program) (m : ℕ) → length P ≤ m → IsKeptOrder (module_at P m) []
kept_past P m past = let none : module_at P m ≡ no_module = get_or_past P m no_module past in rw none (kept_of no_module [] (greedy_none no_module) refl)

-- the kept order of each module of a good program
kept_at : (P : Program) → IsGood P → (m : ℕ) → (order : List ℕ) × IsKeptOrder (module_at P m) order
kept_at P good m = elim (cases_lt m (length P)) [
  | inl lt ↦ kept_there (module_at P m) (good.sound m no_module lt) (good.acyclic m no_module lt)
  | inr past ↦ ([], kept_past P m past)
]

pub kept_orders : (P : Program) → IsGood P → (order : ℕ → List ℕ) × AreKeptOrders P order
kept_orders P good = (λ m. (kept_at P good m).0, λ m. (kept_at P good m).1)

pub kept_valid : (P : Program) (order : ℕ → List ℕ) → AreKeptOrders P order → AreOrders P order
kept_valid P order kept = λ m. (kept m).valid

pub route_same : (P : Program) (order other blocks : ℕ → List ℕ) (printer : List ℕ) (n : ℕ) → AreKeptOrders P order → AreKeptOrders P other →
    route P order blocks printer n ≡ route P other blocks printer n
route_same P order other blocks printer n kept too = ap (λ o. route P o blocks printer n) (fun_ext (λ m. kept_once (module_at P m) (order m) (other m) (kept m) (too m)))
